-- The id of an entity is read out of the text of the entity.
use Rattle.std.proofs.Common.{◌≡◌, ℕ, ◌==◌, ◌≤◌, ◌+◌, ◌/◌, ◌%◌, Bool, true, false, ◌||◌, cond, List, [], ◌∷◌, ◌++◌, codes, append_assoc, refl, sym, ap, ◌∙◌, inl, inr, arith, ne_eqb, lt-ltb, le-ltb}
use Rattle.std.proofs.lemmas.Bool.{or_parts, cases_lt}
use Rattle.std.proofs.lemmas.Str.{encode_ascii}
use Rattle.std.proofs.Math.Utf8.{encode}
use Rattle.cedar_model.specs.Terms.{Text}
use Rattle.cedar_model.specs.Outcomes.{escaped}
use Rattle.std.specs.Str.Pattern.{FindsTextPrefix, FindsTextSuffix, StripsPrefix, StripsSuffix}
use Rattle.std.specs.Borrow.{Bor}
use Rattle.std.specs.Prelude.{MatchOption, Option, None, Some, option_copied}
use Rattle.cedar_names.proofs.Injective.{head_same, tail_same, cons_same, nil_cons, last_same}
use Rattle.cedar_unknowns.specs.Quoted.{unescaped, quoted_behind, IsWithoutPrefix, IsWithoutSuffix, IsBetween, IsQuotedId}

-- ---- bytes

pub behind_same : (front xs ys : List ℕ) → front ++ xs ≡ front ++ ys → xs ≡ ys
behind_same [] xs ys e = e
behind_same (b ∷ front) xs ys e = behind_same front xs ys (tail_same e)

inside_same : (s t : List ℕ) → 58 ∷ 58 ∷ 34 ∷ (s ++ 34 ∷ []) ≡ 58 ∷ 58 ∷ 34 ∷ (t ++ 34 ∷ []) → s ≡ t
inside_same s t e = last_same s t 34 (tail_same (tail_same (tail_same e)))

-- one text stands between the quotes
pub quoted_same : (ty s t : Text) → quoted_behind ty s ≡ quoted_behind ty t → s ≡ t
quoted_same ty s t e =
    inside_same s t (behind_same ty (58 ∷ 58 ∷ 34 ∷ (s ++ 34 ∷ [])) (58 ∷ 58 ∷ 34 ∷ (t ++ 34 ∷ [])) e)

-- ---- what was cut off a text

pub stripped_front : (n s : Text) (o : Option (Bor Text)) → MatchOption o (FindsTextPrefix n s None) (λ x. StripsPrefix (FindsTextPrefix n) s x.now) → IsWithoutPrefix n s (option_copied o)
stripped_front n s None h = h
stripped_front n s (Some x) h = h.1.1 ∙ ap (λ (t : Text). n ++ t) (sym h.2)

pub stripped_end : (n s : Text) (o : Option (Bor Text)) → MatchOption o (FindsTextSuffix n s None) (λ x. StripsSuffix (FindsTextSuffix n) s x.now) → IsWithoutSuffix n s (option_copied o)
stripped_end n s None h = h
stripped_end n s (Some x) h = h.1.1 ∙ ap (λ (t : Text). t ++ n) (sym h.2)

pub not_between : (p s text : Text) → IsWithoutPrefix p text None → IsBetween p s text None
not_between p s text lacks = λ inside e. lacks (inside ++ s) e

pub is_between : (p s text rest : Text) (o : Option Text) → text ≡ p ++ rest → IsWithoutSuffix s rest o → IsBetween p s text o
is_between p s text rest None is lacks = λ inside e. lacks inside (behind_same p rest (inside ++ s) (sym is ∙ e))
is_between p s text rest (Some inside) is found = is ∙ ap (λ (t : Text). p ++ t) found

pub not_behind : (ty name text : Text) → name ≡ ty → IsWithoutPrefix name text None → IsQuotedId ty text None
not_behind ty name text same lacks =
    λ quoted e. lacks (codes "::\"" ++ (quoted ++ codes "\"")) (e ∙ ap (λ (t : Text). t ++ (codes "::\"" ++ (quoted ++ codes "\""))) (sym same))

pub is_behind : (ty name text rest : Text) (o : Option Text) → name ≡ ty → text ≡ name ++ rest → IsBetween (codes "::\"") (codes "\"") rest o → IsQuotedId ty text o
is_behind ty name text rest None same is lacks =
    λ quoted e. lacks quoted (behind_same ty rest (codes "::\"" ++ (quoted ++ codes "\"")) (sym (is ∙ ap (λ (t : Text). t ++ rest) same) ∙ e))
is_behind ty name text rest (Some quoted) same is found =
    is ∙ ap (λ (t : Text). t ++ rest) same ∙ ap (λ (t : Text). ty ++ t) found

-- ---- a text is read back

back_at : (b : ℕ) (bs : Text) (x : Bool) → ((b == 34) || (b == 92)) ≡ x → unescaped false (escaped bs) ≡ bs → unescaped false (cond x (92 ∷ b ∷ escaped bs) (b ∷ escaped bs)) ≡ b ∷ bs
unfolding unescaped
back_at b bs true e back = ap (λ (t : Text). b ∷ t) back
back_at b bs false e back =
    ap (λ x. cond x (unescaped true (escaped bs)) (b ∷ unescaped false (escaped bs))) (or_parts (b == 34) (b == 92) e).1 ∙ ap (λ (t : Text). b ∷ t) back

pub unescaped_back : (t : Text) → unescaped false (escaped t) ≡ t
unfolding escaped unescaped
unescaped_back [] = refl
unescaped_back (b ∷ bs) = back_at b bs ((b == 34) || (b == 92)) refl (unescaped_back bs)

-- ---- character by character

unescaped-other : (b : ℕ) (bs : Text) → (b ≡ 92 → ⊥) → unescaped false (b ∷ bs) ≡ b ∷ unescaped false bs
unfolding unescaped
unescaped-other b bs h = ap (λ x. cond x (unescaped true bs) (b ∷ unescaped false bs)) (ne_eqb b 92 h)

-- bytes that are no backslashes
abbrev Plain : List ℕ → Type 0
Plain [] = Unit {0}
Plain (b ∷ bs) = (b ≡ 92 → ⊥) × Plain bs

unescaped-plain : (xs rest : Text) → Plain xs → unescaped false (xs ++ rest) ≡ xs ++ unescaped false rest
unescaped-plain [] rest h = refl
unescaped-plain (b ∷ xs) rest h = unescaped-other b (xs ++ rest) h.0 ∙ ap (λ (t : Text). b ∷ t) (unescaped-plain xs rest h.1)

-- the bytes of a character behind its first are no backslashes
abbrev PlainBehind : List ℕ → Type 0
PlainBehind [] = ⊥
PlainBehind (b ∷ bs) = Plain bs

not_slash : (b : ℕ) → 128 ≤ b → b ≡ 92 → ⊥
not_slash b h e = omega arith

character_behind : (c : ℕ) → PlainBehind (encode c)
unfolding encode
character_behind c =
    elim (cases_lt c 128) [
      | inl one ↦ rw (lt-ltb c 128 one) tt
      | inr h ↦
          rw (le-ltb c 128 h) (
          elim (cases_lt c 2048) [
            | inl two ↦ rw (lt-ltb c 2048 two) (not_slash (128 + c % 64) (omega arith), tt)
            | inr more ↦
                rw (le-ltb c 2048 more) (
                elim (cases_lt c 65536) [
                  | inl three ↦ rw (lt-ltb c 65536 three) (not_slash (128 + c / 64 % 64) (omega arith), (not_slash (128 + c % 64) (omega arith), tt))
                  | inr four ↦
                      rw (le-ltb c 65536 four) (not_slash (128 + c / 4096 % 64) (omega arith), (not_slash (128 + c / 64 % 64) (omega arith), (not_slash (128 + c % 64) (omega arith), tt)))
                ]
                )
          ]
          )
    ]

behind_first : (xs rest : Text) → PlainBehind xs → unescaped true (xs ++ rest) ≡ xs ++ unescaped false rest
unfolding unescaped
behind_first [] rest h = absurd h
behind_first (b ∷ xs) rest h = ap (λ (t : Text). b ∷ t) (unescaped-plain xs rest h)

-- a character behind a backslash stays
pub character_escaped : (c : ℕ) (rest : Text) → unescaped true (encode c ++ rest) ≡ encode c ++ unescaped false rest
character_escaped c rest = behind_first (encode c) rest (character_behind c)

-- a backslash goes
pub backslash_goes : (rest : Text) → unescaped false (encode 92 ++ rest) ≡ unescaped true rest
unfolding unescaped
backslash_goes rest = ap (λ (t : Text). unescaped false (t ++ rest)) (encode_ascii 92 (omega arith))

plain_character : (c : ℕ) → (c ≡ 92 → ⊥) → Plain (encode c)
unfolding encode
plain_character c lacks =
    elim (cases_lt c 128) [
      | inl one ↦ rw (lt-ltb c 128 one) (lacks, tt)
      | inr h ↦
          rw (le-ltb c 128 h) (
          elim (cases_lt c 2048) [
            | inl two ↦ rw (lt-ltb c 2048 two) (not_slash (192 + c / 64) (omega arith), (not_slash (128 + c % 64) (omega arith), tt))
            | inr more ↦
                rw (le-ltb c 2048 more) (
                elim (cases_lt c 65536) [
                  | inl three ↦
                      rw (lt-ltb c 65536 three) (not_slash (224 + c / 4096) (omega arith), (not_slash (128 + c / 64 % 64) (omega arith), (not_slash (128 + c % 64) (omega arith), tt)))
                  | inr four ↦
                      rw (le-ltb c 65536 four) (not_slash (240 + c / 262144) (omega arith), (not_slash (128 + c / 4096 % 64) (omega arith), (not_slash (128 + c / 64 % 64) (omega arith), (not_slash (128 + c % 64) (omega arith), tt))))
                ]
                )
          ]
          )
    ]

-- another character stays
pub character_stays : (c : ℕ) (rest : Text) → (c ≡ 92 → ⊥) → unescaped false (encode c ++ rest) ≡ encode c ++ unescaped false rest
character_stays c rest lacks = unescaped-plain (encode c) rest (plain_character c lacks)

-- ---- one character more

pub unescaped-nil : (x : Bool) → unescaped x [] ≡ []
unfolding unescaped
unescaped-nil true = refl
unescaped-nil false = refl

pub put_escaped : (old new : Text) (c : ℕ) (x : Bool) → x ≡ true → new ≡ old ++ encode c → (rest : Text) → new ++ unescaped false rest ≡ old ++ unescaped x (encode c ++ rest)
put_escaped old new c x escaped put rest =
    ap (λ (t : Text). t ++ unescaped false rest) put ∙ append_assoc old (encode c) (unescaped false rest) ∙ ap (λ (t : Text). old ++ t) (sym (character_escaped c rest)) ∙ ap (λ y. old ++ unescaped y (encode c ++ rest)) (sym escaped)

pub put_slash : (old : Text) (c : ℕ) (x : Bool) → x ≡ false → c ≡ 92 → (rest : Text) → old ++ unescaped true rest ≡ old ++ unescaped x (encode c ++ rest)
put_slash old c x plain slash rest =
    ap (λ (t : Text). old ++ t) (sym (backslash_goes rest)) ∙ ap (λ d. old ++ unescaped false (encode d ++ rest)) (sym slash) ∙ ap (λ y. old ++ unescaped y (encode c ++ rest)) (sym plain)

pub put_plain : (old new : Text) (c : ℕ) (x : Bool) → x ≡ false → (c ≡ 92 → ⊥) → new ≡ old ++ encode c → (rest : Text) → new ++ unescaped false rest ≡ old ++ unescaped x (encode c ++ rest)
put_plain old new c x plain other put rest =
    ap (λ (t : Text). t ++ unescaped false rest) put ∙ append_assoc old (encode c) (unescaped false rest) ∙ ap (λ (t : Text). old ++ t) (sym (character_stays c rest other)) ∙ ap (λ y. old ++ unescaped y (encode c ++ rest)) (sym plain)
