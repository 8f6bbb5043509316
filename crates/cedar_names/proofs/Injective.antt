-- A text in double quotes is read back, and the quote that opens it is found from the end.
use Rattle.std.proofs.Common.{◌≡◌, ℕ, ◌==◌, List, [], ◌∷◌, ◌++◌, refl, sym, subst, ◌∙◌, inl, inr, arith, eq-eqb, append_assoc}
use Rattle.std.proofs.lemmas.Bool.{cases_Bool, false≢true}
use Rattle.std.proofs.lemmas.Bool.Decides.{nat_tests}
use Rattle.cedar_model.specs.Terms.{Text, EntityName}
use Rattle.cedar_model.specs.Outcomes.{escaped}
use Rattle.cedar_names.specs.Texts.{entity_text}
use Rattle.cedar_names.proofs.Escapes.{escaped_byte, escaped-cons, escaped-nil}

pub head_same : {a b : ℕ} {xs ys : List ℕ} → a ∷ xs ≡ b ∷ ys → a ≡ b
head_same e = cc

pub tail_same : {a b : ℕ} {xs ys : List ℕ} → a ∷ xs ≡ b ∷ ys → xs ≡ ys
tail_same e = cc

pub cons_same : {a b : ℕ} {xs ys : List ℕ} → a ≡ b → xs ≡ ys → a ∷ xs ≡ b ∷ ys
cons_same p q = cc

pub nil_cons : {a : ℕ} {xs : List ℕ} → [] ≡ a ∷ xs → ⊥
nil_cons e = cc

not_colon_backslash : ◌≡◌ {A = ℕ} 58 92 → ⊥
not_colon_backslash e = omega arith

not_quote_colon : ◌≡◌ {A = ℕ} 34 58 → ⊥
not_quote_colon e = omega arith

not_backslash_quote : ◌≡◌ {A = ℕ} 92 34 → ⊥
not_backslash_quote e = omega arith

pub last_same : (xs ys : List ℕ) (a : ℕ) → xs ++ a ∷ [] ≡ ys ++ a ∷ [] → xs ≡ ys
last_same [] [] a e = refl
last_same [] (y ∷ []) a e = absurd (nil_cons (tail_same e))
last_same [] (y ∷ z ∷ ys) a e = absurd (nil_cons (tail_same e))
last_same (x ∷ []) [] a e = absurd (nil_cons (sym (tail_same e)))
last_same (x ∷ z ∷ xs) [] a e = absurd (nil_cons (sym (tail_same e)))
last_same (x ∷ xs) (y ∷ ys) a e = cons_same (head_same e) (last_same xs ys a (tail_same e))

-- each quote stands behind a backslash, where `before` is the byte before the text
abbrev QuotesAreEscaped : ℕ → List ℕ → Type 0
QuotesAreEscaped before [] = Unit {0}
QuotesAreEscaped before (b ∷ bs) = (b ≡ 34 → before ≡ 92) × QuotesAreEscaped b bs

byte_is_escaped : (before b : ℕ) (rest : List ℕ) → ((c : ℕ) → QuotesAreEscaped c rest) → QuotesAreEscaped before (escaped_byte b ++ rest)
byte_is_escaped before b rest h =
    elim (cases_Bool (b == 34)) [
      | inl quote ↦ rw quote (λ e. absurd (not_backslash_quote e), (λ e. refl, h 34))
      | inr no_quote ↦
          rw no_quote (
          elim (cases_Bool (b == 92)) [
            | inl slash ↦ rw slash (λ e. absurd (not_backslash_quote e), (λ e. absurd (not_backslash_quote e), h 92))
            | inr no_slash ↦ rw no_slash (λ e. absurd (false≢true (sym no_quote ∙ eq-eqb b 34 e)), h b)
          ]
          )
    ]

quotes_are_escaped : (before : ℕ) (t : Text) → QuotesAreEscaped before (escaped t)
quotes_are_escaped before [] = subst (QuotesAreEscaped before) (sym escaped-nil) tt
quotes_are_escaped before (b ∷ bs) =
    subst (QuotesAreEscaped before) (sym (escaped-cons b bs))
    (byte_is_escaped before b (escaped bs) (λ c. quotes_are_escaped c bs))

-- no such text has a quote behind a colon
no_opening : (before : ℕ) (xs ys : List ℕ) → QuotesAreEscaped before (xs ++ 58 ∷ 34 ∷ ys) → ⊥
no_opening before [] ys h = not_colon_backslash (h.1.0 refl)
no_opening before (x ∷ xs) ys h = no_opening x xs ys h.1

byte_same : (a b : ℕ) (xs ys : List ℕ) → escaped_byte a ++ xs ≡ escaped_byte b ++ ys → (a ≡ b) × (xs ≡ ys)
byte_same a b xs ys e = grind (arith, nat_tests)

byte_is_there : (b : ℕ) (xs : List ℕ) → [] ≡ escaped_byte b ++ xs → ⊥
byte_is_there b xs e = grind (arith, nat_tests)

escaped-injective : (s t : Text) → escaped s ≡ escaped t → s ≡ t
escaped-injective [] [] e = refl
escaped-injective [] (b ∷ t) e = absurd (byte_is_there b (escaped t) (sym escaped-nil ∙ e ∙ escaped-cons b t))
escaped-injective (a ∷ s) [] e = absurd (byte_is_there a (escaped s) (sym escaped-nil ∙ sym e ∙ escaped-cons a s))
escaped-injective (a ∷ s) (b ∷ t) e =
    let (first, rest) = byte_same a b (escaped s) (escaped t) (sym (escaped-cons a s) ∙ e ∙ escaped-cons b t) in
    cons_same first (escaped-injective s t rest)

-- the quote that opens one id does not stand inside another
no_second : (i j t : List ℕ) → 58 ∷ 34 ∷ (escaped i ++ 34 ∷ []) ≡ t ++ 58 ∷ 58 ∷ 34 ∷ (escaped j ++ 34 ∷ []) → ⊥
no_second i j [] e = not_quote_colon (head_same (tail_same e))
no_second i j (c ∷ []) e = not_quote_colon (head_same (tail_same e))
no_second i j (c ∷ d ∷ t) e =
    let whole : escaped i ++ 34 ∷ [] ≡ (t ++ 58 ∷ 58 ∷ 34 ∷ escaped j) ++ 34 ∷ [] = tail_same (tail_same e) ∙ sym (append_assoc t (58 ∷ 58 ∷ 34 ∷ escaped j) (34 ∷ [])) in
    let inner : escaped i ≡ (t ++ 58 ∷ []) ++ 58 ∷ 34 ∷ escaped j = last_same _ _ 34 whole ∙ sym (append_assoc t (58 ∷ []) (58 ∷ 34 ∷ escaped j)) in
    no_opening 0 (t ++ 58 ∷ []) (escaped j) (subst (QuotesAreEscaped 0) inner (quotes_are_escaped 0 i))

parts_same : (s t i j : List ℕ) → s ++ 58 ∷ 58 ∷ 34 ∷ (escaped i ++ 34 ∷ []) ≡ t ++ 58 ∷ 58 ∷ 34 ∷ (escaped j ++ 34 ∷ []) → (s ≡ t) × (i ≡ j)
parts_same [] [] i j e = (refl, escaped-injective i j (last_same _ _ 34 (tail_same (tail_same (tail_same e)))))
parts_same [] (b ∷ t) i j e = absurd (no_second i j t (tail_same e))
parts_same (a ∷ s) [] i j e = absurd (no_second j i s (sym (tail_same e)))
parts_same (a ∷ s) (b ∷ t) i j e = let (types, ids) = parts_same s t i j (tail_same e) in (cons_same (head_same e) types, ids)

pub entity_text-injective : (a b : EntityName) → entity_text a ≡ entity_text b → a ≡ b
entity_text-injective a b e = let (types, ids) = parts_same a.type_name b.type_name a.id b.id e in λ k. record { type_name = types k; id = ids k }
