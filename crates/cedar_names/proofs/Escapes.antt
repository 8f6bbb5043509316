-- Characters in double quotes.
use Rattle.std.proofs.Common.{◌≡◌, ℕ, ◌<◌, ◌≤◌, ◌/◌, ◌%◌, ◌+◌, ◌==◌, Bool, true, false, ◌||◌, cond, if◌then◌else◌, List}
use Rattle.std.proofs.Common.{[], ◌∷◌, ◌++◌, refl, sym, ap, ◌∙◌, inl, inr, arith, ne_eqb, lt-ltb, le-ltb, append_assoc}
use Rattle.std.proofs.lemmas.Bool.{cases_lt, eqb-true}
use Rattle.std.proofs.lemmas.Str.{encode_ascii}
use Rattle.std.proofs.Math.Utf8.{encode}
use Rattle.cedar_model.specs.Terms.{Text}
use Rattle.cedar_model.specs.Outcomes.{escaped}

-- a byte inside double quotes: `"` and `\` stand behind a `\`
abbrev pub escaped_byte : ℕ → Text
escaped_byte b = if b == 34 then 92 ∷ 34 ∷ [] else (if b == 92 then 92 ∷ 92 ∷ [] else b ∷ [])

-- an escaped text is its bytes, each escaped
pub escaped-cons : (b : ℕ) (bs : Text) → escaped (b ∷ bs) ≡ escaped_byte b ++ escaped bs
unfolding escaped
escaped-cons b bs = at (b == 34) (b == 92) refl refl
  where
    at : (p q : Bool) → (b == 34) ≡ p → (b == 92) ≡ q
        → cond (p || q) (92 ∷ b ∷ escaped bs) (b ∷ escaped bs)
        ≡ (if p then 92 ∷ 34 ∷ [] else (if q then 92 ∷ 92 ∷ [] else b ∷ [])) ++ escaped bs
    at true q e f = λ i. 92 ∷ eqb-true b 34 e i ∷ escaped bs
    at false true e f = λ i. 92 ∷ eqb-true b 92 f i ∷ escaped bs
    at false false e f = refl

pub escaped-nil : escaped [] ≡ []
unfolding escaped
escaped-nil = refl

pub escaped-append : (xs ys : List ℕ) → escaped (xs ++ ys) ≡ escaped xs ++ escaped ys
unfolding escaped
escaped-append [] ys = refl
escaped-append (b ∷ xs) ys =
    escaped-cons b (xs ++ ys)
    ∙ ap (λ (t : Text). escaped_byte b ++ t) (escaped-append xs ys)
    ∙ sym (append_assoc (escaped_byte b) (escaped xs) (escaped ys))
    ∙ ap (λ (t : Text). t ++ escaped ys) (sym (escaped-cons b xs))

-- a byte that is no quote and no backslash stays
escaped_byte-other : (b : ℕ) → (b ≡ 34 → ⊥) → (b ≡ 92 → ⊥) → escaped_byte b ≡ b ∷ []
escaped_byte-other b q s = rw (ne_eqb b 34 q, ne_eqb b 92 s)

escaped-other : (b : ℕ) (bs : List ℕ) → 128 ≤ b → escaped (b ∷ bs) ≡ b ∷ escaped bs
escaped-other b bs h =
    escaped-cons b bs ∙ ap (λ (t : Text). t ++ escaped bs) (escaped_byte-other b (λ e. omega arith) (λ e. omega arith))

pub escaped-quote : escaped (encode 34) ≡ 92 ∷ 34 ∷ []
unfolding escaped
escaped-quote = rw (encode_ascii 34 (omega arith))

pub escaped-backslash : escaped (encode 92) ≡ 92 ∷ 92 ∷ []
unfolding escaped
escaped-backslash = rw (encode_ascii 92 (omega arith))

ascii : (c : ℕ) → c < 128 → (c ≡ 34 → ⊥) → (c ≡ 92 → ⊥) → escaped (encode c) ≡ encode c
ascii c h q s = rw (encode_ascii c h, escaped-cons c [], escaped_byte-other c q s, escaped-nil)

wide : (c : ℕ) → 128 ≤ c → escaped (encode c) ≡ encode c
unfolding encode
wide c h =
    rw (le-ltb c 128 h) (
    elim (cases_lt c 2048) [
      | inl two ↦ rw (lt-ltb c 2048 two, escaped-other (192 + c / 64) _ (omega arith), escaped-other (128 + c % 64) [] (omega arith), escaped-nil)
      | inr more ↦
          rw (le-ltb c 2048 more) (
          elim (cases_lt c 65536) [
            | inl three ↦
                rw (lt-ltb c 65536 three, escaped-other (224 + c / 4096) _ (omega arith), escaped-other (128 + c / 64 % 64) _ (omega arith), escaped-other (128 + c % 64) [] (omega arith), escaped-nil)
            | inr four ↦
                rw (le-ltb c 65536 four, escaped-other (240 + c / 262144) _ (omega arith), escaped-other (128 + c / 4096 % 64) _ (omega arith), escaped-other (128 + c / 64 % 64) _ (omega arith), escaped-other (128 + c % 64) [] (omega arith), escaped-nil)
          ]
          )
    ]
    )

-- no byte of another character is a quote or a backslash
pub escaped-character : (c : ℕ) → (c ≡ 34 → ⊥) → (c ≡ 92 → ⊥) → escaped (encode c) ≡ encode c
escaped-character c q s = elim (cases_lt c 128) [ inl h ↦ ascii c h q s | inr h ↦ wide c h ]

pub ruleset escapes = (escaped-quote, escaped-backslash, escaped-character)
