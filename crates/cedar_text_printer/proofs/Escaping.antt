-- Characters in double quotes.
use Rattle.std.proofs.Common.{◌≡◌, ℕ, ◌<◌, ◌≤◌, ◌/◌, ◌%◌, ◌+◌, true, false, List, [], ◌∷◌, ◌++◌, refl, inl, inr, arith, ne_eqb, lt-ltb, le-ltb, codes, append-nil}
use Rattle.std.proofs.lemmas.Bool.{cases_lt}
use Rattle.std.proofs.lemmas.Str.{encode_ascii}
use Rattle.std.proofs.lemmas.List.Concat.{flat_map-append}
use Rattle.std.proofs.Math.Utf8.{encode}
use Rattle.cedar_text_printer.specs.Escapes.{written_escaped, written_byte, is_control, unicode_escape}

pub escaped-nil : written_escaped [] ≡ []
unfolding written_escaped
escaped-nil = refl

pub escaped-append : (xs ys : List ℕ) → written_escaped (xs ++ ys) ≡ written_escaped xs ++ written_escaped ys
unfolding written_escaped
escaped-append xs ys = flat_map-append written_byte xs ys

pub escaped-quote : written_escaped (encode 34) ≡ codes "\\\""
unfolding written_escaped
escaped-quote = rw (encode_ascii 34 (omega arith))

pub escaped-backslash : written_escaped (encode 92) ≡ codes "\\\\"
unfolding written_escaped
escaped-backslash = rw (encode_ascii 92 (omega arith))

pub escaped-line : written_escaped (encode 10) ≡ codes "\\n"
unfolding written_escaped
escaped-line = rw (encode_ascii 10 (omega arith))

pub escaped-return : written_escaped (encode 13) ≡ codes "\\r"
unfolding written_escaped
escaped-return = rw (encode_ascii 13 (omega arith))

pub escaped-tab : written_escaped (encode 9) ≡ codes "\\t"
unfolding written_escaped
escaped-tab = rw (encode_ascii 9 (omega arith))

pub escaped-zero : written_escaped (encode 0) ≡ codes "\\0"
unfolding written_escaped
escaped-zero = rw (encode_ascii 0 (omega arith))

-- a control character is small
pub control_small : (c : ℕ) → is_control c ≡ true → c < 128
control_small c h =
    elim (cases_lt c 128) [ inl small ↦ small | inr large ↦ absurd (let low : is_control c ≡ false = rw (le-ltb c 32 (omega arith), ne_eqb c 127 (λ e. omega arith)) in cc) ]

-- a byte that is no control character, no quote and no backslash stays
escaped_byte-plain : (b : ℕ) → is_control b ≡ false → (b ≡ 34 → ⊥) → (b ≡ 92 → ⊥) → written_byte b ≡ b ∷ []
escaped_byte-plain b h q s =
    elim (cases_lt b 32) [
      | inl low ↦ absurd (let yes : is_control b ≡ true = rw (lt-ltb b 32 low) in cc)
      | inr high ↦ rw (ne_eqb b 34 q, ne_eqb b 92 s, ne_eqb b 10 (λ e. omega arith), ne_eqb b 13 (λ e. omega arith), ne_eqb b 9 (λ e. omega arith), ne_eqb b 0 (λ e. omega arith), h)
    ]

-- a control character that no escape of one letter stands for
escaped_byte-control : (b : ℕ) → is_control b ≡ true → (b ≡ 34 → ⊥) → (b ≡ 92 → ⊥) → (b ≡ 10 → ⊥) → (b ≡ 13 → ⊥) → (b ≡ 9 → ⊥) → (b ≡ 0 → ⊥) → written_byte b ≡ unicode_escape b
escaped_byte-control b h q s l r t z = rw (ne_eqb b 34 q, ne_eqb b 92 s, ne_eqb b 10 l, ne_eqb b 13 r, ne_eqb b 9 t, ne_eqb b 0 z, h)

high_plain : (b : ℕ) → 128 ≤ b → is_control b ≡ false
high_plain b h = rw (le-ltb b 32 (omega arith), ne_eqb b 127 (λ e. omega arith))

escaped-other : (b : ℕ) (bs : List ℕ) → 128 ≤ b → written_escaped (b ∷ bs) ≡ b ∷ written_escaped bs
unfolding written_escaped
escaped-other b bs h = rw (escaped_byte-plain b (high_plain b h) (λ e. omega arith) (λ e. omega arith))

ascii : (c : ℕ) → c < 128 → is_control c ≡ false → (c ≡ 34 → ⊥) → (c ≡ 92 → ⊥) → written_escaped (encode c) ≡ encode c
unfolding written_escaped
ascii c h k q s = rw (encode_ascii c h, escaped_byte-plain c k q s)

wide : (c : ℕ) → 128 ≤ c → written_escaped (encode c) ≡ encode c
unfolding encode
wide c h =
    rw (le-ltb c 128 h) (
    elim (cases_lt c 2048) [
      | inl two ↦ rw (lt-ltb c 2048 two, escaped-other (192 + c / 64) _ (omega arith), escaped-other (128 + c % 64) [] (omega arith), escaped-nil)
      | inr more ↦
          rw (le-ltb c 2048 more) (
          elim (cases_lt c 65536) [
            | inl three ↦
                rw (lt-ltb c 65536 three, escaped-other (224 + c / 4096) _ (omega arith), escaped-other (128 + c / 64 % 64) _ (omega arith), escaped-other (128 + c % 64) [] (omega arith), escaped-nil)
            | inr four ↦
                rw (le-ltb c 65536 four, escaped-other (240 + c / 262144) _ (omega arith), escaped-other (128 + c / 4096 % 64) _ (omega arith), escaped-other (128 + c / 64 % 64) _ (omega arith), escaped-other (128 + c % 64) [] (omega arith), escaped-nil)
          ]
          )
    ]
    )

-- no byte of another character has an escape
pub escaped-plain : (c : ℕ) → is_control c ≡ false → (c ≡ 34 → ⊥) → (c ≡ 92 → ⊥) → written_escaped (encode c) ≡ encode c
escaped-plain c k q s = elim (cases_lt c 128) [ inl h ↦ ascii c h k q s | inr h ↦ wide c h ]

pub escaped-control : (c : ℕ) → is_control c ≡ true → (c ≡ 34 → ⊥) → (c ≡ 92 → ⊥) → (c ≡ 10 → ⊥) → (c ≡ 13 → ⊥) → (c ≡ 9 → ⊥) → (c ≡ 0 → ⊥) → written_escaped (encode c) ≡ unicode_escape c
unfolding written_escaped
escaped-control c h q s l r t z = rw (encode_ascii c (control_small c h), escaped_byte-control c h q s l r t z, append-nil)

pub ruleset escapes = (escaped-quote, escaped-backslash, escaped-line, escaped-return, escaped-tab, escaped-zero, escaped-plain, escaped-control, control_small)
