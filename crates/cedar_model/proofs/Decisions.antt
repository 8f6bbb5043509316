-- The four facts of decision and reasons.
use Rattle.std.specs.Prelude.{◌≡◌, Bool, true, false, cond, ◌||◌, List, [], ◌∷◌, ◌++◌}
use Rattle.std.proofs.Common.{refl, ap, ◌∙◌}
use Rattle.cedar_model.specs.Terms.{Text}
use Rattle.cedar_model.specs.Policies.{Effect, permit, forbid, Verdict, satisfied, unsatisfied, erring, Judged}
use Rattle.cedar_model.specs.Policies.{Decision, allow, deny, is_satisfied_by, is_satisfied, some_satisfied}
use Rattle.cedar_model.specs.Policies.{satisfied_ids, decision, reasons}
use Rattle.cedar_model.specs.Reordering.{IsReordering, nothing, keeping, swapping, chaining}
use Rattle.cedar_model.specs.lemmas.Sets.{or_swap}

-- ---- in another order

pub reorder_refl : {A : Type 0} (xs : List A) → IsReordering A xs xs
reorder_refl [] = nothing
reorder_refl (x ∷ xs) = keeping x (reorder_refl xs)

some_reordered : (e : Effect) {ps qs : List Judged} → IsReordering Judged ps qs
    → some_satisfied e ps ≡ some_satisfied e qs
unfolding some_satisfied
some_reordered e nothing = refl
some_reordered e (keeping p r) = ap (λ b. is_satisfied e p || b) (some_reordered e r)
some_reordered e (swapping {xs} p q) = or_swap (is_satisfied e p) (is_satisfied e q) (some_satisfied e xs)
some_reordered e (chaining r s) = some_reordered e r ∙ some_reordered e s

kept_if : (b : Bool) (x : Text) (xs ys : List Text) → IsReordering Text xs ys
    → IsReordering Text (cond b (x ∷ xs) xs) (cond b (x ∷ ys) ys)
kept_if true x xs ys r = keeping x r
kept_if false x xs ys r = r

swapped_if : (b c : Bool) (x y : Text) (xs : List Text)
    → IsReordering Text (cond b (x ∷ cond c (y ∷ xs) xs) (cond c (y ∷ xs) xs))
    (cond c (y ∷ cond b (x ∷ xs) xs) (cond b (x ∷ xs) xs))
swapped_if true true x y xs = swapping x y
swapped_if true false x y xs = reorder_refl (x ∷ xs)
swapped_if false true x y xs = reorder_refl (y ∷ xs)
swapped_if false false x y xs = reorder_refl xs

ids_reordered : (e : Effect) {ps qs : List Judged} → IsReordering Judged ps qs
    → IsReordering Text (satisfied_ids e ps) (satisfied_ids e qs)
unfolding satisfied_ids
ids_reordered e nothing = nothing
ids_reordered e (keeping {xs} {ys} p r) =
    kept_if (is_satisfied e p) p.id (satisfied_ids e xs) (satisfied_ids e ys) (ids_reordered e r)
ids_reordered e (swapping {xs} p q) =
    swapped_if (is_satisfied e p) (is_satisfied e q) p.id q.id (satisfied_ids e xs)
ids_reordered e (chaining r s) = chaining (ids_reordered e r) (ids_reordered e s)

reasons_by : (b c : Bool) (xs ys us vs : List Text) → b ≡ c → IsReordering Text xs ys → IsReordering Text us vs
    → IsReordering Text (cond b xs us) (cond c ys vs)
reasons_by true true xs ys us vs e r s = r
reasons_by true false xs ys us vs e r s = absurd (cc)
reasons_by false true xs ys us vs e r s = absurd (cc)
reasons_by false false xs ys us vs e r s = s

pub order_changes_nothing : (ps qs : List Judged) → IsReordering Judged ps qs → (decision ps ≡ decision qs)
    × IsReordering Text (reasons ps) (reasons qs)
order_changes_nothing ps qs r = (
  λ i. cond (some_reordered forbid r i) deny (cond (some_reordered permit r i) allow deny),
  reasons_by
      (some_satisfied forbid ps) (some_satisfied forbid qs) (satisfied_ids forbid ps) (satisfied_ids forbid qs)
      (satisfied_ids permit ps) (satisfied_ids permit qs) (some_reordered forbid r) (ids_reordered forbid r)
      (ids_reordered permit r),
)

-- ---- one policy more

pub some_with : (e : Effect) (before after : List Judged) (p : Judged)
    → some_satisfied e (before ++ (p ∷ after)) ≡ (is_satisfied e p || some_satisfied e (before ++ after))
unfolding some_satisfied
some_with e [] after p = refl
some_with e (q ∷ before) after p =
    ap (λ b. is_satisfied e q || b) (some_with e before after p)
    ∙ or_swap (is_satisfied e q) (is_satisfied e p) (some_satisfied e (before ++ after))

other_effect : (v : Verdict) → is_satisfied_by permit v forbid ≡ false
unfolding is_satisfied_by
other_effect satisfied = refl
other_effect unsatisfied = refl
other_effect erring = refl

other_effect' : (v : Verdict) → is_satisfied_by forbid v permit ≡ false
unfolding is_satisfied_by
other_effect' satisfied = refl
other_effect' unsatisfied = refl
other_effect' erring = refl

pub erring_is_not : (e f : Effect) → is_satisfied_by e erring f ≡ false
unfolding is_satisfied_by
erring_is_not permit permit = refl
erring_is_not permit forbid = refl
erring_is_not forbid permit = refl
erring_is_not forbid forbid = refl

abbrev decided : Bool → Bool → Decision
decided f p = cond f deny (cond p allow deny)

still_denied : (x f p : Bool) → decided f p ≡ deny → decided (x || f) p ≡ deny
still_denied true f p e = refl
still_denied false f p e = e

still_allowed : (x f p : Bool) → decided f p ≡ allow → decided f (x || p) ≡ allow
still_allowed true true p e = e
still_allowed true false p e = refl
still_allowed false f p e = e

pub forbids_keep_deny : (before after : List Judged) (p : Judged) → p.effect ≡ forbid
    → decision (before ++ after) ≡ deny → decision (before ++ (p ∷ after)) ≡ deny
forbids_keep_deny before after p h e =
    let no : is_satisfied permit p ≡ false = ap (is_satisfied_by permit p.verdict_of) h ∙ other_effect p.verdict_of in
    (λ i. decided (some_with forbid before after p i) (some_with permit before after p i))
    ∙ ap (λ b. decided (is_satisfied forbid p || some_satisfied forbid (before ++ after))
    (b || some_satisfied permit (before ++ after))) no
    ∙ still_denied (is_satisfied forbid p) (some_satisfied forbid (before ++ after))
    (some_satisfied permit (before ++ after)) e

pub permits_keep_allow : (before after : List Judged) (p : Judged) → p.effect ≡ permit
    → decision (before ++ after) ≡ allow → decision (before ++ (p ∷ after)) ≡ allow
permits_keep_allow before after p h e =
    let no : is_satisfied forbid p ≡ false = ap (is_satisfied_by forbid p.verdict_of) h ∙ other_effect' p.verdict_of in
    (λ i. decided (some_with forbid before after p i) (some_with permit before after p i))
    ∙ ap (λ b. decided (b || some_satisfied forbid (before ++ after))
    (is_satisfied permit p || some_satisfied permit (before ++ after))) no
    ∙ still_allowed (is_satisfied permit p) (some_satisfied forbid (before ++ after))
    (some_satisfied permit (before ++ after)) e

some_without : (e : Effect) (before after : List Judged) (p : Judged) → p.verdict_of ≡ erring
    → some_satisfied e (before ++ (p ∷ after)) ≡ some_satisfied e (before ++ after)
some_without e before after p h =
    some_with e before after p
    ∙ ap (λ b. b || some_satisfied e (before ++ after))
    (ap (λ v. is_satisfied_by e v p.effect) h ∙ erring_is_not e p.effect)

ids_without : (e : Effect) (before after : List Judged) (p : Judged) → p.verdict_of ≡ erring
    → satisfied_ids e (before ++ (p ∷ after)) ≡ satisfied_ids e (before ++ after)
unfolding satisfied_ids
ids_without e [] after p h =
    ap (λ b. cond b (p.id ∷ satisfied_ids e after) (satisfied_ids e after))
    (ap (λ v. is_satisfied_by e v p.effect) h ∙ erring_is_not e p.effect)
ids_without e (q ∷ before) after p h =
    ap (λ xs. cond (is_satisfied e q) (q.id ∷ xs) xs) (ids_without e before after p h)

pub erring_changes_nothing : (before after : List Judged) (p : Judged) → p.verdict_of ≡ erring
    → (decision (before ++ (p ∷ after)) ≡ decision (before ++ after))
    × (reasons (before ++ (p ∷ after)) ≡ reasons (before ++ after))
erring_changes_nothing before after p h = (
  λ i. decided (some_without forbid before after p h i) (some_without permit before after p h i),
  λ i. cond
      (some_without forbid before after p h i) (ids_without forbid before after p h i)
      (ids_without permit before after p h i),
)
