-- What shows that it errs errs in every world.
use Rattle.std.proofs.Common.{◌≡◌, ◌∙◌, ℤ, Bool, true, false, cond, ◌||◌, ◌⊎◌, inl, inr, Option, None, Some, Result, Ok, Err, IfOk, refl, sym, ap, subst}
use Rattle.std.proofs.lemmas.Bool.{and_parts, or_cases}
use Rattle.std.specs.Prelude.{List, [], ◌∷◌}
use Rattle.std.specs.declared.alloc.AllocError.{AllocError}
use Rattle.std.specs.declared.cmp.Ordering.{Ordering}
use Rattle.cedar_model.specs.Terms.{Text, bool_literal, long_literal, text_literal, entity_literal}
use Rattle.cedar_model.specs.Terms.{UnaryOperator, not_operator, neg_operator, is_empty_operator, BinaryOperator}
use Rattle.cedar_model.specs.Terms.{eq_operator, less_operator, less_eq_operator, add_operator, sub_operator}
use Rattle.cedar_model.specs.Terms.{mul_operator, in_operator, contains_operator, contains_all_operator}
use Rattle.cedar_model.specs.Terms.{contains_any_operator, get_tag_operator, has_tag_operator, Term, literal, variable}
use Rattle.cedar_model.specs.Terms.{slot, unknown, if_then_else, both, either, unary, binary, call, get_attribute}
use Rattle.cedar_model.specs.Terms.{has_attribute, extended_has, like, is_of_type, set_of, record_of}
use Rattle.cedar_model.specs.Values.{AbstractValue, plain, set_value, record_value, extension_value}
use Rattle.cedar_model.specs.Outcomes.{ErrorKind, type_error, Outcome, gives, errs, gives_bool, and_then, needing, bool_of, long_of, text_of, entity_of, elements_of}
use Rattle.cedar_model.specs.World.{World, Slots, Extensions, Functions}
use Rattle.cedar_model.specs.Meaning.{meaning, and_then_bool, unary_meaning, binary_meaning, extension_order, order_of, comparison, entities_of, has_meaning, has_path, attribute_meaning}
use Rattle.cedar_layers.specs.Policies.{PolicyView}
use Rattle.cedar_unsatisfiable.specs.Kinds.{Kind, kind_of, kind_shown, is_wrong, is_truth, is_number, is_text, is_entity, is_set, is_right_of_in, has_attributes, takes, takes_first, takes_second}
use Rattle.cedar_unsatisfiable.specs.Erring.{shows_error, shows_no_truth, ErrsInScope, IsNeverTruth}
use Rattle.cedar_unsatisfiable.proofs.Shown.{wrong_value}

-- it errs
abbrev Fails : Outcome → Type 0
Fails o = (e : ErrorKind) × (o ≡ errs e)

-- ---- what an operator can't read in a value of a wrong kind

no_bool : (v : AbstractValue) → is_wrong is_truth (kind_of v) ≡ true → bool_of v ≡ None
unfolding bool_of
no_bool (plain (bool_literal b)) h = absurd (cc)
no_bool (plain (long_literal n)) h = refl
no_bool (plain (text_literal t)) h = refl
no_bool (plain (entity_literal e)) h = refl
no_bool (set_value vs) h = refl
no_bool (record_value fs) h = refl
no_bool (extension_value t k) h = absurd (cc)

no_long : (v : AbstractValue) → is_wrong is_number (kind_of v) ≡ true → long_of v ≡ None
unfolding long_of
no_long (plain (bool_literal b)) h = refl
no_long (plain (long_literal n)) h = absurd (cc)
no_long (plain (text_literal t)) h = refl
no_long (plain (entity_literal e)) h = refl
no_long (set_value vs) h = refl
no_long (record_value fs) h = refl
no_long (extension_value t k) h = absurd (cc)

no_text : (v : AbstractValue) → is_wrong is_text (kind_of v) ≡ true → text_of v ≡ None
unfolding text_of
no_text (plain (bool_literal b)) h = refl
no_text (plain (long_literal n)) h = refl
no_text (plain (text_literal t)) h = absurd (cc)
no_text (plain (entity_literal e)) h = refl
no_text (set_value vs) h = refl
no_text (record_value fs) h = refl
no_text (extension_value t k) h = absurd (cc)

no_entity : (v : AbstractValue) → is_wrong is_entity (kind_of v) ≡ true → entity_of v ≡ None
unfolding entity_of
no_entity (plain (bool_literal b)) h = refl
no_entity (plain (long_literal n)) h = refl
no_entity (plain (text_literal t)) h = refl
no_entity (plain (entity_literal e)) h = absurd (cc)
no_entity (set_value vs) h = refl
no_entity (record_value fs) h = refl
no_entity (extension_value t k) h = absurd (cc)

no_set : (v : AbstractValue) → is_wrong is_set (kind_of v) ≡ true → elements_of v ≡ None
unfolding elements_of
no_set (plain l) h = refl
no_set (set_value vs) h = absurd (cc)
no_set (record_value fs) h = refl
no_set (extension_value t k) h = absurd (cc)

no_entities : (v : AbstractValue) → is_wrong is_right_of_in (kind_of v) ≡ true → entities_of v ≡ None
unfolding entities_of
no_entities (plain (bool_literal b)) h = refl
no_entities (plain (long_literal n)) h = refl
no_entities (plain (text_literal t)) h = refl
no_entities (plain (entity_literal e)) h = absurd (cc)
no_entities (set_value vs) h = absurd (cc)
no_entities (record_value fs) h = refl
no_entities (extension_value t k) h = absurd (cc)

none_wrong : (q : Option Kind) → is_wrong (λ k. true) q ≡ true → ⊥
none_wrong None h = cc
none_wrong (Some k) h = cc

-- ---- comparisons

no_left : (X : Extensions) (u v : AbstractValue) → is_wrong is_number (kind_of u) ≡ true → extension_order X u v ≡ None
unfolding extension_order
no_left X (plain l) v h = refl
no_left X (set_value us) v h = refl
no_left X (record_value fs) v h = refl
no_left X (extension_value t k) v h = absurd (cc)

no_right : (X : Extensions) (u v : AbstractValue) → is_wrong is_number (kind_of v) ≡ true → extension_order X u v ≡ None
unfolding extension_order
no_right X (plain l) v h = refl
no_right X (set_value us) v h = refl
no_right X (record_value fs) v h = refl
no_right X (extension_value s j) (plain l) h = refl
no_right X (extension_value s j) (set_value vs) h = refl
no_right X (extension_value s j) (record_value fs) h = refl
no_right X (extension_value s j) (extension_value t k) h = absurd (cc)

no_order_left : (m : Option ℤ) → order_of None m None ≡ None
unfolding order_of
no_order_left m = refl

no_order_right : (m : Option ℤ) → order_of m None None ≡ None
unfolding order_of
no_order_right None = refl
no_order_right (Some m) = refl

uncompared_left : (X : Extensions) (u v : AbstractValue) → is_wrong is_number (kind_of u) ≡ true → comparison X u v ≡ None
uncompared_left X u v h =
    ap (λ (m : Option ℤ). order_of m (long_of v) (extension_order X u v)) (no_long u h)
    ∙ ap (λ (o : Option Ordering). order_of None (long_of v) o) (no_left X u v h)
    ∙ no_order_left (long_of v)

uncompared_right : (X : Extensions) (u v : AbstractValue) → is_wrong is_number (kind_of v) ≡ true → comparison X u v ≡ None
uncompared_right X u v h =
    ap (λ (m : Option ℤ). order_of (long_of u) m (extension_order X u v)) (no_long v h)
    ∙ ap (λ (o : Option Ordering). order_of (long_of u) None o) (no_right X u v h)
    ∙ no_order_right (long_of u)

-- ---- what can't be read errs

needs : {A : Type 0} → (q : Option A) (next : A → Outcome) → q ≡ None → needing q next ≡ errs type_error
unfolding needing
needs q next none = ap (λ p. needing p next) none

needs_each : {A : Type 0} → (q : Option A) (next : A → Outcome) → ((x : A) → next x ≡ errs type_error) → needing q next ≡ errs type_error
unfolding needing
needs_each None next f = refl
needs_each (Some x) next f = f x

wrong_unary : (op : UnaryOperator) (v : AbstractValue) → is_wrong (takes op) (kind_of v) ≡ true → unary_meaning op v ≡ errs type_error
unfolding unary_meaning
wrong_unary not_operator v h = needs (bool_of v) _ (no_bool v h)
wrong_unary neg_operator v h = needs (long_of v) _ (no_long v h)
wrong_unary is_empty_operator v h = needs (elements_of v) _ (no_set v h)

wrong_first : (X : Extensions) (w : World) (op : BinaryOperator) (u v : AbstractValue) → is_wrong (takes_first op) (kind_of u) ≡ true
    → binary_meaning X w op u v ≡ errs type_error
unfolding binary_meaning
wrong_first X w eq_operator u v h = absurd (none_wrong (kind_of u) h)
wrong_first X w less_operator u v h = needs (comparison X u v) _ (uncompared_left X u v h)
wrong_first X w less_eq_operator u v h = needs (comparison X u v) _ (uncompared_left X u v h)
wrong_first X w add_operator u v h = needs (long_of u) _ (no_long u h)
wrong_first X w sub_operator u v h = needs (long_of u) _ (no_long u h)
wrong_first X w mul_operator u v h = needs (long_of u) _ (no_long u h)
wrong_first X w in_operator u v h = needs (entity_of u) _ (no_entity u h)
wrong_first X w contains_operator u v h = needs (elements_of u) _ (no_set u h)
wrong_first X w contains_all_operator u v h = needs (elements_of u) _ (no_set u h)
wrong_first X w contains_any_operator u v h = needs (elements_of u) _ (no_set u h)
wrong_first X w get_tag_operator u v h = needs (entity_of u) _ (no_entity u h)
wrong_first X w has_tag_operator u v h = needs (entity_of u) _ (no_entity u h)

wrong_second : (X : Extensions) (w : World) (op : BinaryOperator) (u v : AbstractValue) → is_wrong (takes_second op) (kind_of v) ≡ true
    → binary_meaning X w op u v ≡ errs type_error
unfolding binary_meaning
wrong_second X w eq_operator u v h = absurd (none_wrong (kind_of v) h)
wrong_second X w less_operator u v h = needs (comparison X u v) _ (uncompared_right X u v h)
wrong_second X w less_eq_operator u v h = needs (comparison X u v) _ (uncompared_right X u v h)
wrong_second X w add_operator u v h = needs_each (long_of u) _ (λ m. needs (long_of v) _ (no_long v h))
wrong_second X w sub_operator u v h = needs_each (long_of u) _ (λ m. needs (long_of v) _ (no_long v h))
wrong_second X w mul_operator u v h = needs_each (long_of u) _ (λ m. needs (long_of v) _ (no_long v h))
wrong_second X w in_operator u v h = needs_each (entity_of u) _ (λ d. needs (entities_of v) _ (no_entities v h))
wrong_second X w contains_operator u v h = absurd (none_wrong (kind_of v) h)
wrong_second X w contains_all_operator u v h = needs_each (elements_of u) _ (λ us. needs (elements_of v) _ (no_set v h))
wrong_second X w contains_any_operator u v h = needs_each (elements_of u) _ (λ us. needs (elements_of v) _ (no_set v h))
wrong_second X w get_tag_operator u v h = needs_each (entity_of u) _ (λ d. needs (text_of v) _ (no_text v h))
wrong_second X w has_tag_operator u v h = needs_each (entity_of u) _ (λ d. needs (text_of v) _ (no_text v h))

wrong_attribute : (w : World) (v : AbstractValue) (k : Text) → is_wrong has_attributes (kind_of v) ≡ true → attribute_meaning w v k ≡ errs type_error
unfolding attribute_meaning
wrong_attribute w (plain (bool_literal b)) k h = refl
wrong_attribute w (plain (long_literal n)) k h = refl
wrong_attribute w (plain (text_literal t)) k h = refl
wrong_attribute w (plain (entity_literal e)) k h = absurd (cc)
wrong_attribute w (set_value vs) k h = refl
wrong_attribute w (record_value fs) k h = absurd (cc)
wrong_attribute w (extension_value t j) k h = absurd (cc)

wrong_has : (w : World) (v : AbstractValue) (k : Text) → is_wrong has_attributes (kind_of v) ≡ true → has_meaning w v k ≡ errs type_error
unfolding has_meaning
wrong_has w (plain (bool_literal b)) k h = refl
wrong_has w (plain (long_literal n)) k h = refl
wrong_has w (plain (text_literal t)) k h = refl
wrong_has w (plain (entity_literal e)) k h = absurd (cc)
wrong_has w (set_value vs) k h = refl
wrong_has w (record_value fs) k h = absurd (cc)
wrong_has w (extension_value t j) k h = absurd (cc)

-- ---- what goes on from what errs errs

then_fails : (o : Outcome) (next : AbstractValue → Outcome) → Fails o → Fails (and_then o next)
unfolding and_then
then_fails (gives v) next h = absurd (let f = h.1 in cc)
then_fails (errs e) next h = (e, refl)

fails_then : (o : Outcome) (next : AbstractValue → Outcome) → ((v : AbstractValue) → o ≡ gives v → Fails (next v)) → Fails (and_then o next)
unfolding and_then
fails_then (gives v) next f = f v refl
fails_then (errs e) next f = (e, refl)

wrong_path : (w : World) (v : AbstractValue) (k : Text) (ks : List Text) → is_wrong has_attributes (kind_of v) ≡ true → Fails (has_path w v k ks)
unfolding has_path
wrong_path w v k [] h = (type_error, wrong_has w v k h)
wrong_path w v k (l ∷ ls) h = then_fails (has_meaning w v k) _ (type_error, wrong_has w v k h)

-- a boolean is needed, and none is there
untrue : (v : AbstractValue) (next : Bool → Outcome) → is_wrong is_truth (kind_of v) ≡ true → Fails (needing (bool_of v) next)
untrue v next h = (type_error, needs (bool_of v) next (no_bool v h))

needing_fails : (q : Option Bool) (next : Bool → Outcome) → ((b : Bool) → Fails (next b)) → Fails (needing q next)
unfolding needing
needing_fails None next f = (type_error, refl)
needing_fails (Some b) next f = f b

cond_fails : (b : Bool) (p q : Outcome) → Fails p → Fails q → Fails (cond b p q)
cond_fails true p q f g = f
cond_fails false p q f g = g

by_one : {A B C : Type 0} → A ⊎ B → (A → C) → (B → C) → C
by_one (inl a) f g = f a
by_one (inr b) f g = g b

module _ (X : Extensions) (ans : Functions) (w : World) (slots : Slots) where
  abbrev M : Term → Outcome
  M t = meaning X ans w slots t

  -- beside a value of a kind that is not taken
  beside : (takes_it : Kind → Bool) (t : Term) (next : AbstractValue → Outcome) → is_wrong takes_it (kind_shown t) ≡ true
      → ((v : AbstractValue) → is_wrong takes_it (kind_of v) ≡ true → Fails (next v)) → Fails (and_then (M t) next)
  beside takes_it t next wrong f =
      fails_then (M t) next (λ v is. f v (wrong_value X ans w slots takes_it t wrong v is))

  binary_fails : (op : BinaryOperator) (a b : Term)
      → (is_wrong (takes_first op) (kind_shown a) || is_wrong (takes_second op) (kind_shown b)) ≡ true → Fails (M (binary op a b))
  unfolding meaning
  binary_fails op a b h =
      by_one (or_cases (is_wrong (takes_first op) (kind_shown a)) (is_wrong (takes_second op) (kind_shown b)) h)
      (λ i. beside (takes_first op) a _ i
      (λ u bad. fails_then (M b) _ (λ v is. (type_error, wrong_first X w op u v bad))))
      (λ i. fails_then (M a) _
      (λ u is. beside (takes_second op) b _ i (λ v bad. (type_error, wrong_second X w op u v bad))))

  pub fails : (t : Term) → shows_error t ≡ true → Fails (M t)
  unfolding meaning
  fails (literal l) h = absurd (cc)
  fails (variable x) h = absurd (cc)
  fails (slot s) h = absurd (cc)
  fails (unknown n t) h = absurd (cc)
  fails (if_then_else c a b) h =
      by_one (or_cases (shows_error c) _ h) (λ i. then_fails (M c) _ (fails c i))
      (λ i. by_one (or_cases (is_wrong is_truth (kind_shown c)) _ i)
      (λ j. beside is_truth c _ j (λ v bad. untrue v _ bad))
      (λ j. let parts = and_parts (shows_error a) (shows_error b) j in
      fails_then (M c) _ (λ v is. needing_fails (bool_of v) _
      (λ t. cond_fails t (M a) (M b) (fails a parts.0) (fails b parts.1)))))
  fails (both a b) h =
      by_one (or_cases (shows_error a) _ h) (λ i. then_fails (M a) _ (fails a i))
      (λ i. beside is_truth a _ i (λ v bad. untrue v _ bad))
  fails (either a b) h =
      by_one (or_cases (shows_error a) _ h) (λ i. then_fails (M a) _ (fails a i))
      (λ i. beside is_truth a _ i (λ v bad. untrue v _ bad))
  fails (unary op a) h =
      by_one (or_cases (shows_error a) _ h) (λ i. then_fails (M a) _ (fails a i))
      (λ i. beside (takes op) a _ i (λ v bad. (type_error, wrong_unary op v bad)))
  fails (binary op a b) h =
      by_one (or_cases (shows_error a) _ h) (λ i. then_fails (M a) _ (fails a i))
      (λ i. by_one (or_cases (shows_error b) _ i)
      (λ j. fails_then (M a) _ (λ u is. then_fails (M b) _ (fails b j)))
      (λ j. binary_fails op a b j))
  fails (call f ts) h = absurd (cc)
  fails (get_attribute a k) h =
      by_one (or_cases (shows_error a) _ h) (λ i. then_fails (M a) _ (fails a i))
      (λ i. beside has_attributes a _ i (λ v bad. (type_error, wrong_attribute w v k bad)))
  fails (has_attribute a k) h =
      by_one (or_cases (shows_error a) _ h) (λ i. then_fails (M a) _ (fails a i))
      (λ i. beside has_attributes a _ i (λ v bad. (type_error, wrong_has w v k bad)))
  fails (extended_has a k ks) h =
      by_one (or_cases (shows_error a) _ h) (λ i. then_fails (M a) _ (fails a i))
      (λ i. beside has_attributes a _ i (λ v bad. wrong_path w v k ks bad))
  fails (like a p) h =
      by_one (or_cases (shows_error a) _ h) (λ i. then_fails (M a) _ (fails a i))
      (λ i. beside is_text a _ i (λ v bad. (type_error, needs (text_of v) _ (no_text v bad))))
  fails (is_of_type a t) h =
      by_one (or_cases (shows_error a) _ h) (λ i. then_fails (M a) _ (fails a i))
      (λ i. beside is_entity a _ i (λ v bad. (type_error, needs (entity_of v) _ (no_entity v bad))))
  fails (set_of ts) h = absurd (cc)
  fails (record_of fs) h = absurd (cc)

  -- where a boolean is due
  pub no_truth : (t : Term) → shows_no_truth t ≡ true → Fails (and_then_bool (M t) gives_bool)
  no_truth t h =
      by_one (or_cases (shows_error t) _ h) (λ i. then_fails (M t) _ (fails t i))
      (λ i. beside is_truth t _ i (λ v bad. untrue v _ bad))

-- the same of what means the same
pub never_truth : (s t : Term)
    → ((X : Extensions) (ans : Functions) (w : World) (slots : Slots) → meaning X ans w slots s ≡ meaning X ans w slots t)
    → shows_no_truth s ≡ true → IsNeverTruth t
never_truth s t same h X ans w slots =
    let f = no_truth X ans w slots s h in
    (f.0, ap (λ (o : Outcome). and_then_bool o gives_bool) (sym (same X ans w slots)) ∙ f.1)

-- a policy of such clauses errs in each world in which its scope is satisfied
pub errs_in_scope : (p : PolicyView) → IsNeverTruth p.when_clause → ErrsInScope p
unfolding meaning and_then needing bool_of
errs_in_scope p never X ans w slots holds =
    let f = never X ans w slots in
    record {
      kind = f.0;
      is = ap (λ (o : Outcome). and_then_bool o
          (λ t. cond t (and_then_bool (meaning X ans w slots p.when_clause) gives_bool) (gives_bool false))) holds ∙ f.1;
    }

pub erring_if : (p : PolicyView) (t : Term) (r : Result Bool AllocError) → t ≡ p.when_clause
    → IfOk r (λ b. b ≡ true → IsNeverTruth t) → IfOk r (λ b. b ≡ true → ErrsInScope p)
erring_if p t (Ok b) is h = λ told. errs_in_scope p (subst IsNeverTruth is (h told))
erring_if p t (Err e) is h = tt
