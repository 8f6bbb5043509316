-- Policies that an index looks at, counted.
use Rattle.std.proofs.Common.{◌≡◌, ◌⊎◌, inl, inr, refl, sym, ap, ◌∙◌, arith, ℕ, ◌+◌, ◌≤◌, Bool, true, false, cond, not, ◌||◌, ◌&&◌, List, [], ◌∷◌, length, Option, None, Some, is_some}
use Rattle.std.specs.Prelude.{filter, count_by, sum_by}
use Rattle.std.specs.List.{list_any, list_all}
use Rattle.std.proofs.lemmas.Bool.{and_parts, or_cases, or_left, or_right}
use Rattle.std.proofs.lemmas.List.Sums.{sum_by-cons}
use Rattle.cedar_model.specs.Terms.{Text, EntityName}
use Rattle.cedar_model.specs.Outcomes.{text_eq, entity_eq}
use Rattle.cedar_model.specs.Settings.{is_among}
use Rattle.cedar_layers.specs.declared.policies.policy.Policy.{Policy}
use Rattle.cedar_layers.specs.Policies.{PolicyView, policy_view}
use Rattle.cedar_names.specs.EqualityLaws.{text_eq-decides}
use Rattle.cedar_names.proofs.Among.{is_among-self}
use Rattle.cedar_layers.specs.Scopes.{principal_bound, action_bound, resource_bound, principal_type_bound, action_type_bound, resource_type_bound, have_common, is_one_of, asks_for, is_this_type, asks_for_type, asks_for_no_entity, asks_for_no_type, is_in_rest, is_looked_at, IsBoundElsewhere, AreAllBut}
use Rattle.cedar_layers.proofs.Placing.{one_asked, one_of_type}
use Rattle.cedar_laws.specs.Index.{is_none_but, is_no_type_but, asks_only_for, asks_only_for_types, is_reached, types_of, ReachedAreWithinReach, ReachedAreBounded, LookedAtAreBounded, WithinReachAreFewer}

-- ---- sums

abbrev one_if : Bool → ℕ
one_if b = cond b 1 0

count-cons : {A : Type 0} (t : A → Bool) (x : A) (xs : List A) → count_by t (x ∷ xs) ≡ one_if (t x) + count_by t xs
count-cons t x xs = sum_by-cons (λ y. cond (t y) 1 0) x xs

-- a sum of sums
sum-plus : {E : Type 0} (f g : E → ℕ) (es : List E) → sum_by (λ e. f e + g e) es ≡ sum_by f es + sum_by g es
sum-plus f g [] = refl
sum-plus f g (e ∷ es) =
    let a = sum_by-cons (λ d. f d + g d) e es in
    let b = sum_by-cons f e es in
    let c = sum_by-cons g e es in
    let d = sum-plus f g es in
    omega (arith, a, b, c, d)

-- where one passes, the sum is not zero
one_passes : {E : Type 0} (f : E → Bool) (es : List E) → list_any f es ≡ true → 1 ≤ sum_by (λ e. one_if (f e)) es
one_passes f [] h = absurd cc
one_passes f (e ∷ es) h = by (or_cases _ _ h) (one_passes f es)
  where
    by : (f e ≡ true) ⊎ (list_any f es ≡ true) → (list_any f es ≡ true → 1 ≤ sum_by (λ d. one_if (f d)) es) → 1 ≤ sum_by (λ d. one_if (f d)) (e ∷ es)
    by (inl g) rest =
        let a = sum_by-cons (λ d. one_if (f d)) e es in
        let one : one_if (f e) ≡ 1 = ap one_if g in
        omega (arith, a, one)
    by (inr g) rest =
        let a = sum_by-cons (λ d. one_if (f d)) e es in
        let more = rest g in
        omega (arith, a, more)

-- what passes one test passes another, or one of several: so they are at most as many as pass those
module _ {A E : Type 0} (t r : A → Bool) (a : E → A → Bool) (es : List E) (passes : (x : A) → t x ≡ true → (r x || list_any (λ e. a e x) es) ≡ true) where
  one_counted : (x : A) → one_if (t x) ≤ one_if (r x) + sum_by (λ e. one_if (a e x)) es
  one_counted x = by (t x) (r x) refl refl
    where
      by : (b c : Bool) → t x ≡ b → r x ≡ c → one_if (t x) ≤ one_if (r x) + sum_by (λ e. one_if (a e x)) es
      by false c is also = let none : one_if (t x) ≡ 0 = ap one_if is in omega (arith, none)
      by true true is also =
          let one : one_if (t x) ≡ 1 = ap one_if is in
          let more : one_if (r x) ≡ 1 = ap one_if also in
          omega (arith, one, more)
      by true false is also =
          let one : one_if (t x) ≡ 1 = ap one_if is in
          let any : list_any (λ e. a e x) es ≡ true = sym (ap (λ c. c || list_any (λ e. a e x) es) also) ∙ passes x is in
          let more = one_passes (λ e. a e x) es any in
          omega (arith, one, more)

  pub counted : (xs : List A) → count_by t xs ≤ count_by r xs + sum_by (λ e. count_by (a e) xs) es
  counted [] = omega arith
  counted (x ∷ xs) =
      let here = one_counted x in
      let rest = counted xs in
      let b = count-cons t x xs in
      let c = count-cons r x xs in
      let d : sum_by (λ e. count_by (a e) (x ∷ xs)) es ≡ sum_by (λ e. one_if (a e x)) es + sum_by (λ e. count_by (a e) xs) es =
      ap (λ (f : E → ℕ). sum_by f es) (λ j e. count-cons (a e) x xs j) ∙ sum-plus (λ e. one_if (a e x)) (λ e. count_by (a e) xs) es in
      omega (arith, here, rest, b, c, d)

-- the same of what passes one of several of two kinds
module _ {A E F : Type 0} (t r : A → Bool) (a : E → A → Bool) (b : F → A → Bool) (es : List E) (fs : List F) (passes : (x : A) → t x ≡ true → (r x || (list_any (λ e. a e x) es || list_any (λ f. b f x) fs)) ≡ true) where
  either_first : (c d e : Bool) → (c || (d || e)) ≡ true → ((c || d) || e) ≡ true
  either_first true d e h = refl
  either_first false d e h = h

  pub counted_twice : (xs : List A) → count_by t xs ≤ count_by r xs + sum_by (λ e. count_by (a e) xs) es + sum_by (λ f. count_by (b f) xs) fs
  counted_twice xs =
      let one = counted t (λ x. r x || list_any (λ e. a e x) es) b fs (λ x h. either_first (r x) (list_any (λ e. a e x) es) (list_any (λ f. b f x) fs) (passes x h)) xs in
      let two = counted (λ x. r x || list_any (λ e. a e x) es) r a es (λ x h. h) xs in
      omega (arith, one, two)

-- ---- lists from which some are left out

-- of each kind no more are left than there are
fewer : {A : Type 0} (Such : A → Type 0) (test : A → Bool) (xs ys : List A) → AreAllBut Such xs ys → count_by test ys ≤ count_by test xs
fewer Such test [] ys h = let none : count_by test ys ≡ 0 = ap (count_by test) h in omega (arith, none)
fewer Such test (x ∷ xs) ys (inl h) =
    let rest = fewer Such test xs ys h.1 in
    let a = count-cons test x xs in
    omega (arith, rest, a)
fewer Such test (x ∷ xs) ys (inr h) =
    let rest = fewer Such test xs h.0 h.2 in
    let a = count-cons test x xs in
    let b : count_by test ys ≡ one_if (test x) + count_by test h.0 = ap (count_by test) h.1 ∙ count-cons test x h.0 in
    omega (arith, rest, a, b)

-- where all that are left pass the test, they are no more than those that pass it
all_pass : {A : Type 0} (test : A → Bool) (xs : List A) → list_all test xs ≡ true → length xs ≡ count_by test xs
all_pass test [] h = refl
all_pass test (x ∷ xs) h = by (test x) refl (all_pass test xs)
  where
    by : (b : Bool) → test x ≡ b → (list_all test xs ≡ true → length xs ≡ count_by test xs) → length (x ∷ xs) ≡ count_by test (x ∷ xs)
    by true is more =
        let rest = more (sym (ap (λ b. b && list_all test xs) is) ∙ h) in
        let a = count-cons test x xs in
        let one : one_if (test x) ≡ 1 = ap one_if is in
        omega (arith, rest, a, one)
    by false is more = absurd (let no : false ≡ true = sym (ap (λ b. b && list_all test xs) is) ∙ h in cc)

-- what no one of those left out passes passes as often
same_passes : {A : Type 0} (Such : A → Type 0) (test : A → Bool) → ((x : A) → Such x → test x ≡ false) → (xs ys : List A) → AreAllBut Such xs ys → filter test ys ≡ filter test xs
same_passes Such test fails [] ys h = ap (filter test) h
same_passes Such test fails (x ∷ xs) ys (inl h) =
    same_passes Such test fails xs ys h.1 ∙ sym (ap (λ b. cond b (x ∷ filter test xs) (filter test xs)) (fails x h.0))
same_passes {A = A} Such test fails (x ∷ xs) ys (inr h) =
    ap (filter test) h.1 ∙ ap (λ (zs : List A). cond (test x) (x ∷ zs) zs) (same_passes Such test fails xs h.0 h.2)

-- ---- scopes

-- where lists have one in common, one of the second is asked for
asked : (ds es : List EntityName) (f : EntityName → Bool) → ((e : EntityName) → is_among e ds ≡ true → f e ≡ true) → have_common ds es ≡ true → list_any f es ≡ true
unfolding is_among
asked [] es f so h = absurd cc
asked (d ∷ ds) es f so h = by (or_cases (is_among d es) (have_common ds es) h) (asked ds es f (λ e g. so e (or_right (entity_eq e d) (is_among e ds) g)))
  where
    by : (is_among d es ≡ true) ⊎ (have_common ds es ≡ true) → (have_common ds es ≡ true → list_any f es ≡ true) → list_any f es ≡ true
    by (inl g) rest = one_asked es f d (so d (is_among-self d ds)) g
    by (inr g) rest = rest g

-- where none is asked for but these, none is, or one of these
looked_at : (es : List EntityName) (a b c : Option (List EntityName)) → (is_none_but es a && (is_none_but es b && is_none_but es c)) ≡ true
    → (not (is_some a || (is_some b || is_some c)) || list_any (λ e. is_one_of e a || (is_one_of e b || is_one_of e c)) es) ≡ true
looked_at es None None None h = refl
looked_at es None None (Some ds) h = asked ds es (λ e. is_among e ds) (λ e g. g) h
looked_at es None (Some ds) c h = asked ds es (λ e. is_among e ds || is_one_of e c) (λ e g. or_left _ _ g) ((and_parts _ _ h).0)
looked_at es (Some ds) b c h = asked ds es (λ e. is_among e ds || (is_one_of e b || is_one_of e c)) (λ e g. or_left _ _ g) ((and_parts _ _ h).0)

-- where no type is asked for but theirs, none is, or one of theirs
type_looked_at : (es : List EntityName) (a b c : Option Text) → (is_no_type_but es a && (is_no_type_but es b && is_no_type_but es c)) ≡ true
    → (not (is_some a || (is_some b || is_some c)) || list_any (λ e. is_this_type e.type_name a || (is_this_type e.type_name b || is_this_type e.type_name c)) es) ≡ true
type_looked_at es None None None h = refl
type_looked_at es None None (Some t) h = one_of_type es (λ u. text_eq u t) t ((text_eq-decides t t).1 refl) h
type_looked_at es None (Some t) c h =
    one_of_type es (λ u. text_eq u t || is_this_type u c) t (or_left _ _ ((text_eq-decides t t).1 refl)) ((and_parts _ _ h).0)
type_looked_at es (Some t) b c h =
    one_of_type es (λ u. text_eq u t || (is_this_type u b || is_this_type u c)) t (or_left _ _ ((text_eq-decides t t).1 refl)) ((and_parts _ _ h).0)

both_or : (x y a b : Bool) → (x || a) ≡ true → (y || b) ≡ true → ((x && y) || (a || b)) ≡ true
both_or x y true b h g = or_right (x && y) (true || b) refl
both_or true true false b h g = refl
both_or true false false true h g = refl
both_or true false false false h g = g
both_or false y false b h g = absurd (cc)

reached_is_looked_at : (es : List EntityName) (p : PolicyView) → is_reached es p ≡ true → is_looked_at es p ≡ true
reached_is_looked_at es p h =
    let both = and_parts (asks_only_for es p) (asks_only_for_types es p) h in
    both_or (asks_for_no_entity p) (asks_for_no_type p) (list_any (λ e. asks_for e p) es) (list_any (λ e. asks_for_type e.type_name p) es) (looked_at es (principal_bound p) (action_bound p) (resource_bound p) both.0)
    (type_looked_at es (principal_type_bound p) (action_type_bound p) (resource_type_bound p) both.1)

-- where one of three is not so, not all are
and_last : (x y : Bool) → y ≡ false → (x && y) ≡ false
and_last true y g = g
and_last false y g = refl

one_fails : {A : Type 0} (f : A → Bool) (x y z w : A) → f w ≡ false → (x ≡ w) ⊎ ((y ≡ w) ⊎ (z ≡ w)) → (f x && (f y && f z)) ≡ false
one_fails f x y z w so (inl h) = ap (λ b. b && (f y && f z)) (ap f h ∙ so)
one_fails f x y z w so (inr (inl h)) = and_last (f x) _ (ap (λ b. b && f z) (ap f h ∙ so))
one_fails f x y z w so (inr (inr h)) = and_last (f x) _ (and_last (f y) _ (ap f h ∙ so))

-- what is bound elsewhere is not reached
elsewhere_is_not_reached : (es : List EntityName) (p : PolicyView) → IsBoundElsewhere es p → is_reached es p ≡ false
elsewhere_is_not_reached es p (inl h) =
    ap (λ b. b && asks_only_for_types es p) (one_fails (is_none_but es) (principal_bound p) (action_bound p) (resource_bound p) (Some h.0) h.2 h.1)
elsewhere_is_not_reached es p (inr h) =
    and_last (asks_only_for es p) _ (one_fails (is_no_type_but es) (principal_type_bound p) (action_type_bound p) (resource_type_bound p) (Some h.0) h.2 h.1)

-- what one of their types passes, one of these passes that are each there once
once : (es : List EntityName) (f : Text → Bool) → list_any (λ e. f e.type_name) es ≡ true → list_any f (types_of es) ≡ true
once [] f h = h
once (e ∷ es) f h =
    by (list_any (text_eq e.type_name) (types_of es)) refl (or_cases (f e.type_name) (list_any (λ d. f d.type_name) es) h) (once es f)
  where
    there : (ts : List Text) → f e.type_name ≡ true → list_any (text_eq e.type_name) ts ≡ true → list_any f ts ≡ true
    there [] so g = g
    there (t ∷ ts) so g = among (or_cases (text_eq e.type_name t) (list_any (text_eq e.type_name) ts) g) (there ts so)
      where
        among : (text_eq e.type_name t ≡ true) ⊎ (list_any (text_eq e.type_name) ts ≡ true) → (list_any (text_eq e.type_name) ts ≡ true → list_any f ts ≡ true) → (f t || list_any f ts) ≡ true
        among (inl k) rest = or_left (f t) (list_any f ts) (sym (ap f ((text_eq-decides e.type_name t).0 k)) ∙ so)
        among (inr k) rest = or_right (f t) (list_any f ts) (rest k)

    by : (b : Bool) → list_any (text_eq e.type_name) (types_of es) ≡ b → (f e.type_name ≡ true) ⊎ (list_any (λ d. f d.type_name) es ≡ true)
        → (list_any (λ d. f d.type_name) es ≡ true → list_any f (types_of es) ≡ true)
        → list_any f (types_of (e ∷ es)) ≡ true
    by b is which rest =
        ap (λ c. list_any f (cond c (types_of es) (e.type_name ∷ types_of es))) is ∙ last b is which
      where
        last : (c : Bool) → list_any (text_eq e.type_name) (types_of es) ≡ c → (f e.type_name ≡ true) ⊎ (list_any (λ d. f d.type_name) es ≡ true) → list_any f (cond c (types_of es) (e.type_name ∷ types_of es)) ≡ true
        last true g (inl k) = there (types_of es) k g
        last true g (inr k) = rest k
        last false g (inl k) = or_left (f e.type_name) (list_any f (types_of es)) k
        last false g (inr k) = or_right (f e.type_name) (list_any f (types_of es)) (rest k)

looked_at_once : (es : List EntityName) (p : PolicyView) → is_looked_at es p ≡ true
    → (is_in_rest p || (list_any (λ e. asks_for e p) es || list_any (λ t. asks_for_type t p) (types_of es))) ≡ true
looked_at_once es p h = by (or_cases _ _ h)
  where
    named : (list_any (λ e. asks_for e p) es ≡ true) ⊎ (list_any (λ e. asks_for_type e.type_name p) es ≡ true)
        → (is_in_rest p || (list_any (λ e. asks_for e p) es || list_any (λ t. asks_for_type t p) (types_of es))) ≡ true
    named (inl k) = or_right _ _ (or_left _ _ k)
    named (inr k) = or_right _ _ (or_right _ _ (once es (λ t. asks_for_type t p) k))

    by : (is_in_rest p ≡ true) ⊎ ((list_any (λ e. asks_for e p) es || list_any (λ e. asks_for_type e.type_name p) es) ≡ true)
        → (is_in_rest p || (list_any (λ e. asks_for e p) es || list_any (λ t. asks_for_type t p) (types_of es))) ≡ true
    by (inl k) = or_left _ _ k
    by (inr k) = named (or_cases _ _ k)

-- ---- laws

pub reached_are_within_reach : ReachedAreWithinReach
reached_are_within_reach es all some h =
    same_passes (λ p. IsBoundElsewhere es (policy_view p)) (λ p. is_reached es (policy_view p)) (λ p g. elsewhere_is_not_reached es (policy_view p) g) all some h

pub reached_are_bounded : ReachedAreBounded
reached_are_bounded es all =
    counted_twice (λ p. is_reached es (policy_view p)) (λ p. is_in_rest (policy_view p)) (λ e p. asks_for e (policy_view p)) (λ t p. asks_for_type t (policy_view p)) es (types_of es)
    (λ p g. looked_at_once es (policy_view p) (reached_is_looked_at es (policy_view p) g)) all

pub within_reach_are_fewer : WithinReachAreFewer
within_reach_are_fewer es all some h test = fewer (λ p. IsBoundElsewhere es (policy_view p)) (λ p. test (policy_view p)) all some h

pub looked_at_are_bounded : LookedAtAreBounded
looked_at_are_bounded es all some h pass =
    let a = all_pass (λ (p : Policy). is_looked_at es (policy_view p)) some pass in
    let b = within_reach_are_fewer es all some h (is_looked_at es) in
    let c =
    counted_twice (λ (p : Policy). is_looked_at es (policy_view p)) (λ p. is_in_rest (policy_view p)) (λ e p. asks_for e (policy_view p)) (λ t p. asks_for_type t (policy_view p)) es (types_of es)
    (λ p g. looked_at_once es (policy_view p) g) all in
    omega (arith, a, b, c)
