-- Characters within quotes.
use Rattle.std.proofs.Common.{◌≡◌, ℕ, ◌<◌, ◌≤◌, ◌/◌, ◌%◌, ◌+◌, List, [], ◌∷◌, ◌++◌, refl, inl, inr, arith, eq-eqb, ne_eqb, lt-ltb, le-ltb}
use Rattle.std.proofs.lemmas.Bool.{cases_lt}
use Rattle.std.proofs.lemmas.Str.{encode_ascii}
use Rattle.std.proofs.lemmas.List.Concat.{flat_map-append}
use Rattle.std.proofs.Math.Utf8.{encode}
use Rattle.cedar_sql.specs.Texts.{doubled, doubled_byte}

pub doubled-nil : (mark : ℕ) → doubled mark [] ≡ []
unfolding doubled
doubled-nil mark = refl

pub doubled-append : (mark : ℕ) (xs ys : List ℕ) → doubled mark (xs ++ ys) ≡ doubled mark xs ++ doubled mark ys
unfolding doubled
doubled-append mark xs ys = flat_map-append (doubled_byte mark) xs ys

-- another byte stays
doubled-other : (mark b : ℕ) (bs : List ℕ) → (b ≡ mark → ⊥) → doubled mark (b ∷ bs) ≡ b ∷ doubled mark bs
unfolding doubled
doubled-other mark b bs h = rw (ne_eqb b mark h)

doubled-one : (mark : ℕ) → doubled mark (mark ∷ []) ≡ mark ∷ mark ∷ []
unfolding doubled
doubled-one mark = rw (eq-eqb mark mark refl) refl

-- the quote stands twice
pub doubled-mark : (mark c : ℕ) → mark < 128 → c ≡ mark → doubled mark (encode c) ≡ encode c ++ encode c
doubled-mark mark c h is = rw (is, encode_ascii mark h) (doubled-one mark)

ascii : (mark c : ℕ) → c < 128 → (c ≡ mark → ⊥) → doubled mark (encode c) ≡ encode c
ascii mark c h other = rw (encode_ascii c h, doubled-other mark c [] other, doubled-nil mark)

wide : (mark c : ℕ) → mark < 128 → 128 ≤ c → doubled mark (encode c) ≡ encode c
unfolding encode
wide mark c m h =
    rw (le-ltb c 128 h) (
    elim (cases_lt c 2048) [
      | inl two ↦ rw (lt-ltb c 2048 two, doubled-other mark (192 + c / 64) _ (λ e. omega arith), doubled-other mark (128 + c % 64) [] (λ e. omega arith), doubled-nil mark)
      | inr more ↦
          rw (le-ltb c 2048 more) (
          elim (cases_lt c 65536) [
            | inl three ↦
                rw (lt-ltb c 65536 three, doubled-other mark (224 + c / 4096) _ (λ e. omega arith), doubled-other mark (128 + c / 64 % 64) _ (λ e. omega arith), doubled-other mark (128 + c % 64) [] (λ e. omega arith), doubled-nil mark)
            | inr four ↦
                rw (le-ltb c 65536 four, doubled-other mark (240 + c / 262144) _ (λ e. omega arith), doubled-other mark (128 + c / 4096 % 64) _ (λ e. omega arith), doubled-other mark (128 + c / 64 % 64) _ (λ e. omega arith), doubled-other mark (128 + c % 64) [] (λ e. omega arith), doubled-nil mark)
          ]
          )
    ]
    )

-- another character stays
pub doubled-plain : (mark c : ℕ) → mark < 128 → (c ≡ mark → ⊥) → doubled mark (encode c) ≡ encode c
doubled-plain mark c m other = elim (cases_lt c 128) [ inl h ↦ ascii mark c h other | inr h ↦ wide mark c m h ]

pub ruleset doublings = (doubled-mark, doubled-plain)
