-- What follows of a scope that is decided at once.
use Rattle.std.specs.Prelude.{◌≡◌, ◌≢◌, ◌≤◌, ◌-◌, ℕ, suc, Bool, true, false, ◌||◌, ◌&&◌, Option, Some, None, IfSome, is_some}
use Rattle.std.proofs.Common.{inl, inr, refl, sym, ap, ◌∙◌, subst, arith, option_map, Bor}
use Rattle.std.proofs.lemmas.Bool.{and_parts}
use Rattle.std.proofs.lemmas.Slice.Eq.{bytes_eq-Decides}
use Rattle.std.proofs.Math.Bool.{or-false}
use Rattle.cedar_model.specs.Terms.{Text, Term, EntityName, Literal, bool_literal, entity_literal, literal, Variable, Slot, variable, slot, both, binary, is_of_type, BinaryOperator, eq_operator, in_operator}
use Rattle.cedar_model.specs.Values.{Represented, plain_represented, plain}
use Rattle.cedar_model.specs.World.{Slots}
use Rattle.cedar_model.specs.Keys.{value_eq}
use Rattle.cedar_model.specs.lemmas.Keys.{value_eq-true, value_eq-self}
use Rattle.cedar_model.specs.Outcomes.{bool_of, entity_of, text_eq, entity_eq}
use Rattle.cedar_model.specs.Meaning.{entities_of, some_entity}
use Rattle.cedar_model.specs.Failures.{out_of_memory, value, Answer, answers, answers_bool, answers_value}
use Rattle.cedar_model.specs.Settings.{Setting, StoredEntity, Found, found, not_there, not_known, look_up}
use Rattle.cedar_model.specs.Operators.{binary_answer, in_found, slot_answer, expecting}
use Rattle.cedar_model.specs.Responses.{Decided, decides, errs_with, decided, decided_bool}
use Rattle.cedar_model.specs.Rules.{StoredCalls, Runs, Meets, joined, bool_or_failure, binary_of_parts, binary_beside, beside_residual, is_part}
use Rattle.cedar_model.proofs.Injections.{same_bools}
use Rattle.cedar_names.specs.EqualityLaws.{entity_eq-decides}
use Rattle.cedar_names.specs.contracts.names.SlotIdPartialEq.TheImpl.{eq-value}
use Rattle.cedar_names.specs.declared.names.EntityUID.{EntityUID}
use Rattle.cedar_names.specs.declared.names.SlotId.{SlotId}
use Rattle.cedar_names.specs.Leaves.{slot_view}
use Rattle.cedar_names.specs.Names.{uid_name}
use Rattle.cedar_layers.specs.Policies.{SlotValues, slots_view}
use Rattle.cedar_layers.proofs.Slots.{option_map-get_slot}
use Rattle.std.specs.Map.{lookup}
use Rattle.std.specs.Option.{option_copied}
use Rattle.cedar_values.specs.Residuals.{partial_view}
use Rattle.cedar_layers.specs.Stores.{store_view}
use Rattle.cedar_operators.specs.Operands.{is_within}
use Rattle.cedar_interpreter.specs.declared.at_hand.Known.{Known}
use Rattle.cedar_interpreter.specs.Promises.{IsPromised}
use Rattle.cedar_interpreter.proofs.Within.{in_answered}
use Rattle.cedar_interpreter.proofs.ReadLaws.{as_stored, none_resolved, operator_value}
use Rattle.cedar_interpreter.specs.Settings.{given_for}
use Rattle.cedar_evaluator.specs.declared.evaluator.Evaluator.{Evaluator}
use Rattle.cedar_evaluator.specs.Evaluations.{variables_of, setting_of, calls_in}
use Rattle.cedar_interpreter.specs.Known.{within, known_view, known_for}
use Rattle.cedar_interpreter.proofs.Looked.{known_within, known_of_variable, IsFound, found_entity, lacking_entity}
use Rattle.cedar_evaluator.specs.Direct.{AnswersAt, AnswersFrom, IsTold, IsAtHand, IsComparison}
use Rattle.cedar_evaluator.proofs.Requests.{says}
use Rattle.cedar_evaluator.proofs.Sound.{evaluator_promised}

-- what holds of what is there
pub of_some : {A : Type 0} (P : A → Type 0) (r : Option A) (x : A) → r ≡ Some x → IfSome r P → P x
of_some P r x is h = subst (λ z. IfSome z P) is h

-- what is found under a slot is the entity that fills it
pub slot_found : (env : SlotValues) (i : SlotId) (o : Option (Bor EntityUID)) → option_copied o ≡ lookup (eq-value.it i) env.entries →
    IfSome o (λ u. slots_view env (slot_view i) ≡ Some (uid_name u.now))
slot_found env i (Some u) is = sym (option_map-get_slot env i) ∙ ap (option_map uid_name) (sym is)
slot_found env i None is = tt

-- ---- entities that are compared

named : (d e : EntityName) → plain (entity_literal d) ≡ plain (entity_literal e) → d ≡ e
named d e h = cc

equal_by_name : (d e : EntityName) → entity_eq d e ≡ value_eq (plain (entity_literal d)) (plain (entity_literal e))
equal_by_name d e =
    same_bools (entity_eq d e) (value_eq (plain (entity_literal d)) (plain (entity_literal e)))
    (λ h. ap (λ x. value_eq (plain (entity_literal d)) (plain (entity_literal x))) (sym ((entity_eq-decides d e).0 h)) ∙ value_eq-self (plain (entity_literal d)))
    (λ h. ap (λ x. entity_eq d x) (sym (named d e (value_eq-true _ _ h))) ∙ ((entity_eq-decides d d).1 refl))

-- `==` of two entities
pub equal_answered : (s : Setting) (d e : EntityName) →
    answers_bool (entity_eq d e) ≡ binary_answer s eq_operator (plain_represented (entity_literal d)) (plain_represented (entity_literal e))
unfolding binary_answer
equal_answered s d e = ap answers_bool (equal_by_name d e)

-- ---- what runs

module _ (s : Setting) (calls : StoredCalls) (n : ℕ) (t u : Term) where
  -- a false left side decides
  false_left : Runs s calls n t (answers_bool false) → Runs s calls (suc n) (both t u) (answers_bool false)
  unfolding bool_of
  false_left h = (answers_bool false, h, refl)

  -- beside a true one the right side does
  true_left : (x : Answer) → Runs s calls n t (answers_bool true) → Runs s calls n u x →
      Runs s calls (suc n) (both t u) (joined (both (literal (bool_literal true))) x)
  unfolding bool_of
  true_left x h g = (answers_bool true, h, (x, g, refl))

  true_bool : (b : Bool) → Runs s calls n t (answers_bool true) → Runs s calls n u (answers_bool b) →
      Runs s calls (suc n) (both t u) (answers_bool b)
  unfolding bool_of joined bool_or_failure
  true_bool b h g = (answers_bool true, h, (answers_bool b, g, refl))

  -- two values are compared
  compared : (op : BinaryOperator) (x y : Represented) (b : Bool) → Runs s calls (suc n) t (answers_value x) →
      Runs s calls (suc n) u (answers_value y) → answers_bool b ≡ binary_answer s op x y →
      Runs s calls (suc (suc n)) (binary op t u) (answers_bool b)
  unfolding binary_beside binary_of_parts
  compared op x y b h g is =
      let read = beside_residual s.store op (value x) (answers_value y) in (
        answers_value x,
        h,
        (
          answers_value y,
          g,
          as_stored (Runs s calls (suc n)) s.resolution read (binary_answer s op x y) (answers_bool b)
              (none_resolved s.resolution read (operator_value s op x y (plain_represented (bool_literal b)) is)) is,
        ),
      )

-- an entity's type is tested
type_tested : (s : Setting) (calls : StoredCalls) (n : ℕ) (t : Term) (d : EntityName) (k : Text) →
    Runs s calls n t (answers_value (plain_represented (entity_literal d))) →
    Runs s calls (suc n) (is_of_type t k) (answers_bool (text_eq d.type_name k))
unfolding is_part expecting entity_of
type_tested s calls n t d k h = (answers_value (plain_represented (entity_literal d)), h, refl)

-- ---- what is answered at once, with so many levels or more

above_one : (P : ℕ → Type 0) → ((n : ℕ) → P (suc n)) → (n : ℕ) → 1 ≤ n → P n
above_one P h n one =
    let levels : suc (n - 1) ≡ n = omega (arith, one) in
    subst P levels (h (n - 1))

above_two : (P : ℕ → Type 0) → ((n : ℕ) → P (suc (suc n))) → (n : ℕ) → 2 ≤ n → P n
above_two P h n two =
    let levels : suc (suc (n - 2)) ≡ n = omega (arith, two) in
    subst P levels (h (n - 2))

one_above : (n : ℕ) → 1 ≤ suc n
one_above n = omega arith

one_of_two : (n : ℕ) → 2 ≤ n → 1 ≤ n
one_of_two n two = omega (arith, two)

one_less : (k n : ℕ) → suc k ≤ n → k ≤ n - 1
one_less k n enough = omega (arith, enough)

levels_left : (k n : ℕ) → suc k ≤ n → suc (n - 1) ≡ n
levels_left k n enough = omega (arith, enough)

two_of_three : (n : ℕ) → 3 ≤ n → 2 ≤ n
two_of_three n three = omega (arith, three)

enough_for : (m k n : ℕ) → m ≤ k → k ≤ n → m ≤ n
enough_for m k n least enough = omega (arith, least, enough)

module _ {X : Type 0} {F : X → Type 0} {g : _} (v : Evaluator X F g) (slots : Slots) where
  -- a literal
  pub literal_direct : (t : Term) (l : Literal) → t ≡ literal l → AnswersFrom v slots 1 t (answers_value (plain_represented l))
  literal_direct t l is =
      above_one (λ m. AnswersAt v slots m t (answers_value (plain_represented l)))
      (λ m. subst (λ z. AnswersAt v slots (suc m) z (answers_value (plain_represented l))) (sym is) refl)

  -- a variable
  pub variable_direct : (x : Variable) (r : Represented) → partial_view (given_for v.given x) ≡ value r →
      AnswersFrom v slots 1 (variable x) (answers_value r)
  variable_direct x r is =
      above_one (λ m. AnswersAt v slots m (variable x) (answers_value r))
      (λ m. ap answers (sym is ∙ says (variables_of v.given) v.of_request x))

  -- a slot that an entity fills
  pub slot_direct : (i : Slot) (d : EntityName) → slots i ≡ Some d →
      AnswersFrom v slots 1 (slot i) (answers_value (plain_represented (entity_literal d)))
  unfolding slot_answer
  slot_direct i d is =
      above_one (λ m. AnswersAt v slots m (slot i) (answers_value (plain_represented (entity_literal d))))
      (λ m. sym (ap (slot_answer i) is))

  -- what is answered with two levels is with three
  pub one_level_more : (t : Term) (r : Option Bool) → IfSome r (λ b. AnswersFrom v slots 2 t (answers_bool b)) →
      IfSome r (λ b. AnswersFrom v slots 3 t (answers_bool b))
  one_level_more t (Some b) h = λ n three. h n (two_of_three n three)
  one_level_more t None h = tt

  -- a boolean
  pub bool_direct : (t : Term) (l : Literal) (r : Option Bool) → t ≡ literal l → IfSome r (λ b. l ≡ bool_literal b) →
      IfSome r (λ b. AnswersFrom v slots 2 t (answers_bool b))
  bool_direct t l (Some b) is that = λ n two. literal_direct t (bool_literal b) (is ∙ ap literal that) n (one_of_two n two)
  bool_direct t l None is that = tt

  -- two values that are compared
  pub compared_direct : (t u : Term) (op : BinaryOperator) (x y : Represented) (b : Bool) →
      AnswersFrom v slots 1 t (answers_value x) → AnswersFrom v slots 1 u (answers_value y) →
      answers_bool b ≡ binary_answer (setting_of v slots) op x y →
      AnswersFrom v slots 2 (binary op t u) (answers_bool b)
  compared_direct t u op x y b h k is =
      above_two (λ m. AnswersAt v slots m (binary op t u) (answers_bool b))
      (λ m. compared (setting_of v slots) (calls_in v) m t u op x y b (h (suc m) (one_above m)) (k (suc m) (one_above m)) is)

  -- an entity, whose type is tested
  pub type_direct : (t : Term) (d : EntityName) (k : Text) → AnswersFrom v slots 1 t (answers_value (plain_represented (entity_literal d))) →
      AnswersFrom v slots 2 (is_of_type t k) (answers_bool (text_eq d.type_name k))
  type_direct t d k h =
      above_two (λ m. AnswersAt v slots m (is_of_type t k) (answers_bool (text_eq d.type_name k)))
      (λ m. type_tested (setting_of v slots) (calls_in v) (suc m) t d k (h (suc m) (one_above m)))

  -- a conjunction whose left side is false
  pub beside_false_direct : (k : ℕ) (t u : Term) → AnswersFrom v slots k t (answers_bool false) →
      AnswersFrom v slots (suc k) (both t u) (answers_bool false)
  beside_false_direct k t u h n enough =
      subst (λ m. AnswersAt v slots m (both t u) (answers_bool false)) (levels_left k n enough)
      (false_left (setting_of v slots) (calls_in v) (n - 1) t u (h (n - 1) (one_less k n enough)))

  -- and one whose left side is true
  pub beside_true_bool : (m k : ℕ) (t u : Term) (b : Bool) → m ≤ k → AnswersFrom v slots k t (answers_bool true) →
      AnswersFrom v slots m u (answers_bool b) → AnswersFrom v slots (suc k) (both t u) (answers_bool b)
  beside_true_bool m k t u b least h j n enough =
      let left : k ≤ n - 1 = one_less k n enough in
      subst (λ z. AnswersAt v slots z (both t u) (answers_bool b)) (levels_left k n enough)
      (true_bool (setting_of v slots) (calls_in v) (n - 1) t u b (h (n - 1) left) (j (n - 1) (enough_for m k (n - 1) least left)))

  pub beside_true_direct : (m k : ℕ) (t u : Term) (r : Option Bool) → m ≤ k → AnswersFrom v slots k t (answers_bool true) →
      IfSome r (λ b. AnswersFrom v slots m u (answers_bool b)) → IfSome r (λ b. AnswersFrom v slots (suc k) (both t u) (answers_bool b))
  beside_true_direct m k t u (Some b) least h j = beside_true_bool m k t u b least h j
  beside_true_direct m k t u None least h j = tt

module _ {X : Type 0} {F : X → Type 0} {g : _} (v : Evaluator X F g) (slots : Slots) {A : Type 0} (name : A → EntityName) where
  -- an entity that is a literal
  pub literal_entity_direct : (t : Term) (l : Literal) (r : Option A) → t ≡ literal l → IfSome r (λ u. l ≡ entity_literal (name u)) →
      IfSome r (λ u. AnswersFrom v slots 1 t (answers_value (plain_represented (entity_literal (name u)))))
  literal_entity_direct t l (Some u) is that = literal_direct v slots t (entity_literal (name u)) (is ∙ ap literal that)
  literal_entity_direct t l None is that = tt

  -- one that fills a slot
  pub slot_entity_direct : (i : Slot) (r : Option A) → IfSome r (λ u. slots i ≡ Some (name u)) →
      IfSome r (λ u. AnswersFrom v slots 1 (slot i) (answers_value (plain_represented (entity_literal (name u)))))
  slot_entity_direct i (Some u) is = slot_direct v slots i (name u) is
  slot_entity_direct i None is = tt

  -- and one that a variable stands for
  pub variable_entity_direct : (x : Variable) (r : Option A) →
      IfSome r (λ u. partial_view (given_for v.given x) ≡ value (plain_represented (entity_literal (name u)))) →
      IfSome r (λ u. AnswersFrom v slots 1 (variable x) (answers_value (plain_represented (entity_literal (name u)))))
  variable_entity_direct x (Some u) is = variable_direct v slots x (plain_represented (entity_literal (name u))) is
  variable_entity_direct x None is = tt

module _ {X : Type 0} {F : X → Type 0} {g : _} (v : Evaluator X F g) (slots : Slots) (x : Variable) (t : Term) (d e : EntityName)
    (is : partial_view (given_for v.given x) ≡ value (plain_represented (entity_literal d)))
    (direct : AnswersFrom v slots 1 t (answers_value (plain_represented (entity_literal e)))) where
  -- a variable that equals an entity, or does not
  pub equal_direct : AnswersFrom v slots 2 (binary eq_operator (variable x) t) (answers_bool (entity_eq d e))
  equal_direct =
      compared_direct v slots (variable x) t eq_operator (plain_represented (entity_literal d)) (plain_represented (entity_literal e)) (entity_eq d e)
      (variable_direct v slots x (plain_represented (entity_literal d)) is) direct (equal_answered (setting_of v slots) d e)

  -- and one that is in it, or is not
  pub in_direct : (r : Option Bool) → r ≡ within (known_view (known_for v.given.known x)) d e →
      IfSome r (λ b. AnswersFrom v slots 2 (binary in_operator (variable x) t) (answers_bool b))
  in_direct (Some b) that =
      compared_direct v slots (variable x) t in_operator (plain_represented (entity_literal d)) (plain_represented (entity_literal e)) b
      (variable_direct v slots x (plain_represented (entity_literal d)) is) direct
      (in_answered (setting_of v slots) d e b (known_within (store_view v.given.entities.now) (partial_view (given_for v.given x)) (known_for v.given.known x) d e b (known_of_variable v.given x) is (sym that)))
  in_direct None that = tt

-- ---- what is a boolean, whatever it is

module _ {X : Type 0} {F : X → Type 0} {g : _} (v : Evaluator X F g) (x : Variable) where
  -- the store has the entity
  pub stored_at_hand : (f : Found) → IsFound (store_view v.given.entities.now) (partial_view (given_for v.given x)) f → f ≡ known_view (known_for v.given.known x) →
      ((d e : EntityName) → (b : Bool) × (within f d e ≡ Some b)) → IsAtHand v x
  stored_at_hand f there is known =
      (there.name, there.part, λ e. subst (λ (z : Found). (b : Bool) × (within z there.name e ≡ Some b)) is (known there.name e))

  pub found_at_hand : (k : Known) (y : StoredEntity) → known_view k ≡ known_view (known_for v.given.known x) → known_view k ≡ found y → IsAtHand v x
  unfolding within
  found_at_hand k y same is =
      stored_at_hand (found y) (found_entity (store_view v.given.entities.now) (partial_view (given_for v.given x)) (known_for v.given.known x) y (known_of_variable v.given x) (sym same ∙ is)) (sym is ∙ same)
      (λ d e. (is_within d (Some y) e, refl))

  pub lacking_at_hand : (k : Known) → known_view k ≡ known_view (known_for v.given.known x) → known_view k ≡ not_there → IsAtHand v x
  unfolding within
  lacking_at_hand k same is =
      stored_at_hand not_there (lacking_entity (store_view v.given.entities.now) (partial_view (given_for v.given x)) (known_for v.given.known x) (known_of_variable v.given x) (sym same ∙ is)) (sym is ∙ same)
      (λ d e. (is_within d None e, refl))

module _ {X : Type 0} {F : X → Type 0} {g : _} (v : Evaluator X F g) (slots : Slots) where
  told_from_two : (t : Term) (b : Bool) → AnswersFrom v slots 2 t (answers_bool b) → IsTold v slots t
  told_from_two t b h = (b, λ n three. h n (two_of_three n three))

  -- a literal
  pub literal_told : (t : Term) (l : Literal) (r : Option Bool) → t ≡ literal l → IfSome r (λ b. l ≡ bool_literal b) → is_some r ≡ true → IsTold v slots t
  literal_told t l (Some b) is that some = told_from_two t b (bool_direct v slots t l (Some b) is that)
  literal_told t l None is that some = absurd (cc)

  -- a comparison
  pub comparison_told : {A : Type 0} (name : A → EntityName) (op : BinaryOperator) (x : Variable) (t : Term) (r : Option A) → IsComparison op → IsAtHand v x →
      IfSome r (λ u. AnswersFrom v slots 1 t (answers_value (plain_represented (entity_literal (name u))))) → is_some r ≡ true →
      IsTold v slots (binary op (variable x) t)
  comparison_told name op x t (Some u) (inl same) (d, is, known) direct some =
      subst (λ (o : BinaryOperator). IsTold v slots (binary o (variable x) t)) (sym same)
      (told_from_two (binary eq_operator (variable x) t) (entity_eq d (name u)) (equal_direct v slots x t d (name u) is direct))
  comparison_told name op x t (Some u) (inr same) (d, is, known) direct some =
      let z = known (name u) in
      subst (λ (o : BinaryOperator). IsTold v slots (binary o (variable x) t)) (sym same)
      (told_from_two (binary in_operator (variable x) t) z.0 (in_direct v slots x t d (name u) is direct (Some z.0) (sym z.1)))
  comparison_told name op x t None (inl same) at direct some = absurd (cc)
  comparison_told name op x t None (inr same) at direct some = absurd (cc)

  -- beside booleans a false right side decides
  pub told_beside_false : (p a r : Term) → IsTold v slots p → IsTold v slots a → AnswersFrom v slots 3 r (answers_bool false) →
      AnswersFrom v slots 5 (both (both p a) r) (answers_bool false)
  told_beside_false p a r (true, h) (true, k) false_right =
      beside_true_bool v slots 3 4 (both p a) r false (omega arith) (beside_true_bool v slots 3 3 p a true (omega arith) h k) false_right
  told_beside_false p a r (true, h) (false, k) false_right =
      beside_false_direct v slots 4 (both p a) r (beside_true_bool v slots 3 3 p a false (omega arith) h k)
  told_beside_false p a r (false, h) told false_right =
      beside_false_direct v slots 4 (both p a) r (beside_false_direct v slots 3 p a h)

module _ {X : Type 0} {F : X → Type 0} {g : _} (v : Evaluator X F g) (slots : Slots) (n : ℕ) (t : Term) where
  -- a boolean decides
  pub bool_promised : (b : Bool) → Runs (setting_of v slots) (calls_in v) n t (answers_bool b) →
      (x : Answer) × IsPromised (setting_of v slots) (calls_in v) n t x × (decides b ≡ decided x)
  unfolding decided decided_bool bool_of
  bool_promised b h = (answers_bool b, evaluator_promised v slots n t (answers_bool b) h, refl)

  -- the right side decides beside a true left side
  pub beside_promised : (u : Term) (a : Answer) (d : Decided) → AnswersAt v slots n t (answers_bool true) →
      Meets (Runs (setting_of v slots) (calls_in v) n u) a →
      (d ≢ errs_with out_of_memory → d ≡ decided (joined (both (literal (bool_literal true))) a)) →
      d ≢ errs_with out_of_memory →
      (x : Answer) × IsPromised (setting_of v slots) (calls_in v) (suc n) (both t u) x × (d ≡ decided x)
  unfolding decided joined
  beside_promised u a d h meets is ok =
      let f = joined (both (literal (bool_literal true))) in
      let runs = meets (λ w. ok (is ok ∙ ap (λ z. decided (f z)) w)) in
      (f a, evaluator_promised v slots (suc n) (both t u) (f a) (true_left (setting_of v slots) (calls_in v) n t u a h runs), is ok)
