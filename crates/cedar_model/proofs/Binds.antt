-- The same outcome, and an outcome that errs more often, through the steps of a meaning.
use Rattle.std.specs.Prelude.{◌≡◌, Bool, true, false, cond, List, ◌∷◌, Option, Some, None, Result, Ok, Err}
use Rattle.std.proofs.Common.{refl, sym, ap, ◌∙◌, subst}
use Rattle.cedar_model.specs.Terms.{Text, Term, literal, variable, slot, unknown, if_then_else, both, either, unary}
use Rattle.cedar_model.specs.Terms.{binary, call, get_attribute, has_attribute, extended_has, like, is_of_type, set_of}
use Rattle.cedar_model.specs.Terms.{record_of, Terms, no_terms, one_term, Fields, no_fields, one_field}
use Rattle.cedar_model.specs.Values.{AbstractValue, AbstractFields, one_value_at}
use Rattle.cedar_model.specs.Outcomes.{ErrorKind, Outcome, gives, errs, and_then, needing, bool_of}
use Rattle.cedar_model.specs.World.{World, Slots, Extensions, Functions}
use Rattle.cedar_model.specs.Meaning
use Rattle.cedar_model.specs.Agreement.{outcome_value, HaveSameOutcome, no_slots}
use Rattle.cedar_model.proofs.Injections.{some_inj}

-- ---- the same outcome

pub same_bind : (m m' : Outcome) (k k' : AbstractValue → Outcome) → HaveSameOutcome m m'
    → ((v : AbstractValue) → HaveSameOutcome (k v) (k' v)) → HaveSameOutcome (and_then m k) (and_then m' k')
unfolding and_then outcome_value
same_bind (gives v) (gives v') k k' h f = f v ∙ ap (λ x. outcome_value (k' x)) (some_inj h)
same_bind (gives v) (errs e) k k' h f = absurd (cc)
same_bind (errs e) (gives v) k k' h f = absurd (cc)
same_bind (errs e) (errs e') k k' h f = refl

pub same_needing : {A : Type 0} (o : Option A) (k k' : A → Outcome) → ((x : A) → HaveSameOutcome (k x) (k' x))
    → HaveSameOutcome (needing o k) (needing o k')
unfolding needing
same_needing None k k' f = refl
same_needing (Some x) k k' f = f x

pub same_cond : (b : Bool) (o o' p p' : Outcome) → HaveSameOutcome o o' → HaveSameOutcome p p'
    → HaveSameOutcome (cond b o p) (cond b o' p')
same_cond true o o' p p' h k = h
same_cond false o o' p p' h k = k

pub same_bool_bind : (m m' : Outcome) (k k' : Bool → Outcome) → HaveSameOutcome m m'
    → ((b : Bool) → HaveSameOutcome (k b) (k' b))
    → HaveSameOutcome (Meaning.and_then_bool m k) (Meaning.and_then_bool m' k')
same_bool_bind m m' k k' h f =
    same_bind m m' (λ v. needing (bool_of v) k) (λ v. needing (bool_of v) k') h (λ v. same_needing (bool_of v) k k' f)

pub error_bind : (m : Outcome) (k : AbstractValue → Outcome) → outcome_value m ≡ None
    → outcome_value (and_then m k) ≡ None
unfolding and_then outcome_value
error_bind (gives v) k h = absurd (cc)
error_bind (errs e) k h = refl

pub error_inside : (o m : Outcome) (k : AbstractValue → AbstractValue → Outcome) → outcome_value m ≡ None
    → outcome_value (and_then o (λ u. and_then m (k u))) ≡ None
unfolding and_then outcome_value
error_inside (gives v) m k h = error_bind m (k v) h
error_inside (errs e) m k h = refl

pub gives_of : (o : Outcome) (v : AbstractValue) → outcome_value o ≡ Some v → o ≡ gives v
unfolding outcome_value
gives_of (gives u) v h = ap gives (some_inj h)
gives_of (errs e) v h = absurd (cc)

-- ---- parts

unfoldable pub result_value : {A : Type 0} → Result A ErrorKind → Option A
result_value (Ok x) = Some x
result_value (Err e) = None

pub same_all : {A : Type 0} (m m' : Result A ErrorKind) (k k' : A → Outcome) → result_value m ≡ result_value m'
    → ((x : A) → HaveSameOutcome (k x) (k' x)) → HaveSameOutcome (Meaning.and_then_all m k) (Meaning.and_then_all m' k')
unfolding Meaning.and_then_all result_value outcome_value
same_all (Ok x) (Ok y) k k' h f = f x ∙ ap (λ z. outcome_value (k' z)) (some_inj h)
same_all (Ok x) (Err e) k k' h f = absurd (cc)
same_all (Err e) (Ok x) k k' h f = absurd (cc)
same_all (Err e) (Err e') k k' h f = refl

pub error_all : {A : Type 0} (m : Result A ErrorKind) (k : A → Outcome) → result_value m ≡ None
    → outcome_value (Meaning.and_then_all m k) ≡ None
unfolding Meaning.and_then_all result_value outcome_value
error_all (Ok x) k h = absurd (cc)
error_all (Err e) k h = refl

pub same_then : (o p : Outcome) (m m' : Result (List AbstractValue) ErrorKind) → HaveSameOutcome o p
    → result_value m ≡ result_value m' → result_value (Meaning.value_then o m) ≡ result_value (Meaning.value_then p m')
unfolding Meaning.value_then result_value outcome_value
same_then (gives v) (gives u) (Ok vs) (Ok us) h k = λ i. Some (some_inj h i ∷ some_inj k i)
same_then (gives v) (gives u) (Ok vs) (Err e) h k = absurd (cc)
same_then (gives v) (gives u) (Err e) (Ok us) h k = absurd (cc)
same_then (gives v) (gives u) (Err e) (Err e') h k = refl
same_then (gives v) (errs e) m m' h k = absurd (cc)
same_then (errs e) (gives u) m m' h k = absurd (cc)
same_then (errs e) (errs e') m m' h k = refl

pub same_field_then : (l : Text) (o p : Outcome) (m m' : Result AbstractFields ErrorKind) → HaveSameOutcome o p
    → result_value m ≡ result_value m'
    → result_value (Meaning.field_then l o m) ≡ result_value (Meaning.field_then l p m')
unfolding Meaning.field_then result_value outcome_value
same_field_then l (gives v) (gives u) (Ok vs) (Ok us) h k = λ i. Some (one_value_at l (some_inj h i) (some_inj k i))
same_field_then l (gives v) (gives u) (Ok vs) (Err e) h k = absurd (cc)
same_field_then l (gives v) (gives u) (Err e) (Ok us) h k = absurd (cc)
same_field_then l (gives v) (gives u) (Err e) (Err e') h k = refl
same_field_then l (gives v) (errs e) m m' h k = absurd (cc)
same_field_then l (errs e) (gives u) m m' h k = absurd (cc)
same_field_then l (errs e) (errs e') m m' h k = refl

pub first_none : (o : Outcome) (m : Result (List AbstractValue) ErrorKind) → outcome_value o ≡ None
    → result_value (Meaning.value_then o m) ≡ None
unfolding Meaning.value_then result_value outcome_value
first_none (gives v) m h = absurd (cc)
first_none (errs e) m h = refl

pub rest_none : (o : Outcome) (m : Result (List AbstractValue) ErrorKind) → result_value m ≡ None
    → result_value (Meaning.value_then o m) ≡ None
unfolding Meaning.value_then result_value
rest_none (gives v) (Ok vs) h = absurd (cc)
rest_none (gives v) (Err e) h = refl
rest_none (errs e) m h = refl

pub first_field_none : (l : Text) (o : Outcome) (m : Result AbstractFields ErrorKind) → outcome_value o ≡ None
    → result_value (Meaning.field_then l o m) ≡ None
unfolding Meaning.field_then result_value outcome_value
first_field_none l (gives v) m h = absurd (cc)
first_field_none l (errs e) m h = refl

pub rest_field_none : (l : Text) (o : Outcome) (m : Result AbstractFields ErrorKind) → result_value m ≡ None
    → result_value (Meaning.field_then l o m) ≡ None
unfolding Meaning.field_then result_value
rest_field_none l (gives v) (Ok vs) h = absurd (cc)
rest_field_none l (gives v) (Err e) h = refl
rest_field_none l (errs e) m h = refl

-- ---- fewer slots: the same value, or an error

-- it errs, or it is the other
abbrev pub IsLess : Outcome → Outcome → Type 0
IsLess (gives v) p = p ≡ gives v
IsLess (errs e) p = Unit {0}

abbrev pub IsLessResult : {A : Type 0} → Result A ErrorKind → Result A ErrorKind → Type 0
IsLessResult (Ok x) q = q ≡ Ok x
IsLessResult (Err e) q = Unit {0}

less_refl : (o : Outcome) → IsLess o o
less_refl (gives v) = refl
less_refl (errs e) = tt

less_bind : (m m' : Outcome) (k k' : AbstractValue → Outcome) → IsLess m m'
    → ((v : AbstractValue) → IsLess (k v) (k' v)) → IsLess (and_then m k) (and_then m' k')
unfolding and_then
less_bind (gives v) m' k k' h f = subst (λ o. IsLess (k v) (and_then o k')) (sym h) (f v)
less_bind (errs e) m' k k' h f = tt

less_needing : {A : Type 0} (o : Option A) (k k' : A → Outcome) → ((x : A) → IsLess (k x) (k' x))
    → IsLess (needing o k) (needing o k')
unfolding needing
less_needing None k k' f = tt
less_needing (Some x) k k' f = f x

less_cond : (b : Bool) (o o' p p' : Outcome) → IsLess o o' → IsLess p p' → IsLess (cond b o p) (cond b o' p')
less_cond true o o' p p' h k = h
less_cond false o o' p p' h k = k

less_bool_bind : (m m' : Outcome) (k k' : Bool → Outcome) → IsLess m m' → ((b : Bool) → IsLess (k b) (k' b))
    → IsLess (Meaning.and_then_bool m k) (Meaning.and_then_bool m' k')
less_bool_bind m m' k k' h f =
    less_bind m m' (λ v. needing (bool_of v) k) (λ v. needing (bool_of v) k') h (λ v. less_needing (bool_of v) k k' f)

less_then : (o p : Outcome) (m m' : Result (List AbstractValue) ErrorKind) → IsLess o p → IsLessResult m m'
    → IsLessResult (Meaning.value_then o m) (Meaning.value_then p m')
unfolding Meaning.value_then
less_then (errs e) p m m' h k = tt
less_then (gives v) p (Err e) m' h k = tt
less_then (gives v) p (Ok vs) m' h k = λ i. Meaning.value_then (h i) (k i)

less_field_then : (l : Text) (o p : Outcome) (m m' : Result AbstractFields ErrorKind) → IsLess o p → IsLessResult m m'
    → IsLessResult (Meaning.field_then l o m) (Meaning.field_then l p m')
unfolding Meaning.field_then
less_field_then l (errs e) p m m' h k = tt
less_field_then l (gives v) p (Err e) m' h k = tt
less_field_then l (gives v) p (Ok vs) m' h k = λ i. Meaning.field_then l (h i) (k i)

less_all : {A : Type 0} (m m' : Result A ErrorKind) (k : A → Outcome) → IsLessResult m m'
    → IsLess (Meaning.and_then_all m k) (Meaning.and_then_all m' k)
unfolding Meaning.and_then_all
less_all (Ok x) m' k h = subst (λ z. IsLess (k x) (Meaning.and_then_all z k)) (sym h) (less_refl (k x))
less_all (Err e) m' k h = tt

pub less_none : (o p : Outcome) → IsLess o p → outcome_value p ≡ None → outcome_value o ≡ None
unfolding outcome_value
less_none (gives v) p h k = absurd (let e = sym (ap outcome_value h) ∙ k in cc)
less_none (errs e) p h k = refl

pub less_gives : (o p : Outcome) (v : AbstractValue) → IsLess o p → o ≡ gives v → p ≡ gives v
less_gives (gives u) p v h e = h ∙ e
less_gives (errs k) p v h e = absurd (cc)

module _ (X : Extensions) (ans : Functions) (w : World) (slots : Slots) where
  abbrev N : Term → Outcome
  N t = Meaning.meaning X ans w no_slots t

  abbrev M : Term → Outcome
  M t = Meaning.meaning X ans w slots t

  mutual
    unfolding Meaning.meaning Meaning.slot_meaning

    pub fewer_slots : (t : Term) → IsLess (Meaning.meaning X ans w no_slots t) (Meaning.meaning X ans w slots t)
    fewer_slots (literal l) = refl
    fewer_slots (variable v) = refl
    fewer_slots (slot i) = tt
    fewer_slots (unknown n t) = refl
    fewer_slots (if_then_else c a b) =
        less_bool_bind (N c) (M c) _ _ (fewer_slots c)
        (λ t. less_cond t (N a) (M a) (N b) (M b) (fewer_slots a) (fewer_slots b))
    fewer_slots (both a b) =
        less_bool_bind (N a) (M a) _ _ (fewer_slots a)
        (λ t. less_cond t _ _ _ _ (less_bool_bind (N b) (M b) _ _ (fewer_slots b) (λ u. refl)) refl)
    fewer_slots (either a b) =
        less_bool_bind (N a) (M a) _ _ (fewer_slots a)
        (λ t. less_cond t _ _ _ _ refl (less_bool_bind (N b) (M b) _ _ (fewer_slots b) (λ u. refl)))
    fewer_slots (unary op a) = less_bind (N a) (M a) _ _ (fewer_slots a) (λ v. less_refl _)
    fewer_slots (binary op a b) =
        less_bind (N a) (M a) _ _ (fewer_slots a) (λ u. less_bind (N b) (M b) _ _ (fewer_slots b) (λ v. less_refl _))
    fewer_slots (call f ts) = less_all _ _ _ (fewer_slots_each ts)
    fewer_slots (get_attribute a k) = less_bind (N a) (M a) _ _ (fewer_slots a) (λ v. less_refl _)
    fewer_slots (has_attribute a k) = less_bind (N a) (M a) _ _ (fewer_slots a) (λ v. less_refl _)
    fewer_slots (extended_has a k ks) = less_bind (N a) (M a) _ _ (fewer_slots a) (λ v. less_refl _)
    fewer_slots (like a p) = less_bind (N a) (M a) _ _ (fewer_slots a) (λ v. less_refl _)
    fewer_slots (is_of_type a t) = less_bind (N a) (M a) _ _ (fewer_slots a) (λ v. less_refl _)
    fewer_slots (set_of ts) = less_all _ _ _ (fewer_slots_each ts)
    fewer_slots (record_of fs) = less_all _ _ _ (fewer_slots_at fs)

    pub fewer_slots_each : (ts : Terms)
        → IsLessResult (Meaning.meanings X ans w no_slots ts) (Meaning.meanings X ans w slots ts)
    fewer_slots_each no_terms = refl
    fewer_slots_each (one_term t ts) = less_then (N t) (M t) _ _ (fewer_slots t) (fewer_slots_each ts)

    pub fewer_slots_at : (fs : Fields)
        → IsLessResult (Meaning.field_meanings X ans w no_slots fs) (Meaning.field_meanings X ans w slots fs)
    fewer_slots_at no_fields = refl
    fewer_slots_at (one_field k t fs) = less_field_then k (N t) (M t) _ _ (fewer_slots t) (fewer_slots_at fs)
