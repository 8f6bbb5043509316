-- What the operators answer to values is what they mean, wherever the store agrees with the world.
use Rattle.std.specs.Prelude.{◌≡◌, ℤ, Bool, true, false, cond, ◌||◌, List, [], ◌∷◌, Option, Some, None, is_some}
use Rattle.std.specs.Prelude.{option_map}
use Rattle.std.specs.Str.{chars}
use Rattle.std.specs.Cmp.Lexicographic.{bytes_decides}
use Rattle.std.specs.declared.cmp.Ordering.{Ordering}
use Rattle.std.specs.Ordering.{is_lt, is_le}
use Rattle.std.proofs.Common.{refl, sym, ap, ◌∙◌, subst}
use Rattle.std.proofs.Math.Bool.{or-false}
use Rattle.cedar_model.specs.Terms.{Text, EntityName, Literal, bool_literal, long_literal, text_literal, entity_literal}
use Rattle.cedar_model.specs.Terms.{ValueType, bool_type, long_type, string_type, set_type, record_type, entity_type}
use Rattle.cedar_model.specs.Terms.{extension_type, UnaryOperator, not_operator, neg_operator, is_empty_operator}
use Rattle.cedar_model.specs.Terms.{BinaryOperator, eq_operator, less_operator, less_eq_operator, add_operator}
use Rattle.cedar_model.specs.Terms.{sub_operator, mul_operator, in_operator, contains_operator, contains_all_operator}
use Rattle.cedar_model.specs.Terms.{contains_any_operator, get_tag_operator, has_tag_operator, PatternPart, Term}
use Rattle.cedar_model.specs.Terms.{literal, variable, slot, unknown, if_then_else, both, either, unary, binary, call}
use Rattle.cedar_model.specs.Terms.{get_attribute, has_attribute, extended_has, like, is_of_type, set_of, record_of}
use Rattle.cedar_model.specs.Values.{AbstractValue, AbstractValues, no_values, one_value, plain, Represented}
use Rattle.cedar_model.specs.Values.{plain_represented, set_represented, record_represented, extension_represented}
use Rattle.cedar_model.specs.Values.{RepresentedFields, abstract_value, abstract_fields, expression_of}
use Rattle.cedar_model.specs.Outcomes.{ErrorKind, entity_does_not_exist, entity_attribute_does_not_exist}
use Rattle.cedar_model.specs.Outcomes.{record_attribute_does_not_exist, type_error, integer_overflow, Outcome, gives}
use Rattle.cedar_model.specs.Outcomes.{errs, gives_bool, and_then, needing, bool_of, long_of, text_of, entity_of}
use Rattle.cedar_model.specs.Outcomes.{elements_of, value_type, text_eq, entity_eq, type_eq, is_long, matches, value_at}
use Rattle.cedar_model.specs.World.{WorldEntity, World, Functions}
use Rattle.cedar_model.specs.Meaning
use Rattle.cedar_model.specs.Failures.{Failure, entity_is_missing, failure_kind, of_meaning, PartialValue, value}
use Rattle.cedar_model.specs.Failures.{residual, Answer, answers, fails, answers_bool, answers_value, wrong_type}
use Rattle.cedar_model.specs.Settings.{StoredEntity, Setting, missing_entity, printed_entity, part_at, is_among, Found}
use Rattle.cedar_model.specs.Settings.{found, not_there, not_known, found_in, look_up}
use Rattle.cedar_model.specs.Operators
use Rattle.cedar_model.specs.Agreement.{Fits, HasType, HaveSameOutcome, outcome_value, no_slots, PartMeans, AgreesAt}
use Rattle.cedar_model.specs.Agreement.{AgreesWithFound, AgreesWithStore, EachStored}
use Rattle.cedar_model.proofs.Alike.{value_at-abstract_fields}

-- an answer is sound for an outcome: a value of this sort that is the outcome's, a residual that stands for it, or such
-- an error
module _ (F : Represented → Type 0) (R : Term → Outcome → Type 0) (E : Failure → Outcome → Type 0) where
  abbrev pub Sound : Answer → Outcome → Type 0
  Sound (answers (value v)) o = F v × (o ≡ gives (abstract_value v))
  Sound (answers (residual r)) o = R r o
  Sound (fails e) o = E e o

found_is : (o : Option StoredEntity) (b : Bool) (x : StoredEntity) → found_in o b ≡ found x → o ≡ Some x
unfolding found_in
found_is (Some y) b x e = cc
found_is None true x e = absurd (cc)
found_is None false x e = absurd (cc)

-- ---- unknowns

has_type_eq : (t : ValueType) → type_eq t t ≡ true
unfolding type_eq
has_type_eq bool_type = refl
has_type_eq long_type = refl
has_type_eq string_type = refl
has_type_eq set_type = refl
has_type_eq record_type = refl
has_type_eq (entity_type t) = (bytes_decides t t).1 refl
has_type_eq (extension_type t) = (bytes_decides t t).1 refl

module _ (w : World) (s : Setting) (F : Represented → Type 0) (R : Term → Outcome → Type 0)
    (E : Failure → Outcome → Type 0)
    (map_well : (n : Text) (v : Represented) → s.map n ≡ Some v → F v × (w.sigma n ≡ abstract_value v)) where
  typed_sound : (n : Text) (t : Option ValueType) (v : Represented) → HasType w n t → F v → w.sigma n ≡ abstract_value v
      → Sound F R E (Operators.typed_value t v) (gives (w.sigma n))
  unfolding Operators.typed_value
  typed_sound n None v h f e = (f, ap gives e)
  typed_sound n (Some t) v h f e =
      let g : type_eq (value_type (abstract_value v)) t ≡ true =
      ap (λ u. type_eq u t) (ap value_type (sym e) ∙ h) ∙ has_type_eq t in
      subst (λ b. Sound F R E (cond b (answers_value v) (fails (wrong_type t [] (abstract_value v))))
      (gives (w.sigma n))) (sym g) (f, ap gives e)

  mapped_sound : (n : Text) (t : Option ValueType) (o : Option Represented) → s.map n ≡ o → HasType w n t
      → R (unknown n t) (gives (w.sigma n)) → Sound F R E (Operators.mapped o n t) (gives (w.sigma n))
  unfolding Operators.mapped
  mapped_sound n t None e h r = r
  mapped_sound n t (Some v) e h r =
      let m = map_well n v e in typed_sound n t v h m.0 m.1

  -- an unknown, through the map
  pub unknown_means : (n : Text) (t : Option ValueType) → HasType w n t → R (unknown n t) (gives (w.sigma n))
      → Sound F R E (Operators.unknown_answer s.map n t) (gives (w.sigma n))
  unknown_means n t h r = mapped_sound n t (s.map n) refl h r

module _ (ans : Functions) (w : World) (s : Setting) (F : Represented → Type 0) (R : Term → Outcome → Type 0)
    (E : Failure → Outcome → Type 0) where
  -- the residual stands for each outcome that it has, also inside what adds nothing to fit
  abbrev pub Stands : Term → Type 0
  Stands t =
      (r : Term) (o : Outcome) → (Fits ans w t → Fits ans w r)
      → HaveSameOutcome (Meaning.meaning s.extensions ans w no_slots r) o → R r o

  abbrev pub StoredWell : PartialValue → Type 0
  StoredWell (value v) = F v
  StoredWell (residual t) = Fits ans w t × Stands t

  -- where an entity is missing from a partial store, its unknown stands for it, and values can be written
  pub record MissingWell (d : EntityName) : Type 0 where
    pub written_fits : (v : Represented) → F v → Fits ans w (expression_of v)
    pub written_means : (v : Represented) → F v
        → Meaning.meaning s.extensions ans w no_slots (expression_of v) ≡ gives (abstract_value v)
    pub stands : (r : Term) (o : Outcome) → Fits ans w r
        → HaveSameOutcome (Meaning.meaning s.extensions ans w no_slots r) o → R r o

  pub record ValuesWell : Type 0 where
    pub plain_well : (l : Literal) → F (plain_represented l)
    pub part_well : (fs : RepresentedFields) (k : Text) (v : Represented) → F (record_represented fs)
        → Operators.represented_at k fs ≡ Some v → F v
    pub errs_well : (e : Failure) (k : ErrorKind) → failure_kind e ≡ of_meaning k → E e (errs k)
    pub store_agrees : AgreesWithStore s.extensions ans w s.store
    pub stored_well : EachStored StoredWell s.store
    pub missing_well : (d : EntityName) → look_up s.store d ≡ not_known → MissingWell d
    pub unknown_well : (n : Text) (t : Option ValueType) → StoredWell (residual (unknown n t))
        → Sound F R E (Operators.unknown_answer s.map n t) (gives (w.sigma n))

  module _ (well : ValuesWell) where
    S : Answer → Outcome → Type 0
    S = Sound F R E

    type_errs : (e : Failure) → failure_kind e ≡ of_meaning type_error → E e (errs type_error)
    type_errs e h = well.errs_well e type_error h

    pub sound_bool : (b : Bool) → Sound F R E (answers_bool b) (gives_bool b)
    sound_bool b = (well.plain_well (bool_literal b), refl)

    sound_same_bool : (b c : Bool) → b ≡ c → Sound F R E (answers_bool b) (gives_bool c)
    sound_same_bool b c e = (well.plain_well (bool_literal b), ap gives_bool (sym e))

    sound_expecting : {A : Type 0} (o : Option A) (e : Failure) (next : A → Answer) (next' : A → Outcome)
        → failure_kind e ≡ of_meaning type_error → ((x : A) → Sound F R E (next x) (next' x))
        → Sound F R E (Operators.expecting o e next) (needing o next')
    unfolding Operators.expecting needing
    sound_expecting None e next next' h f = type_errs e h
    sound_expecting (Some x) e next next' h f = f x

    sound_long : (n : ℤ) (e : Failure) → failure_kind e ≡ of_meaning integer_overflow
        → Sound F R E (Operators.long_answer n e) (Meaning.long_outcome n)
    sound_long n e h = by (is_long n)
      where
        by : (b : Bool) → Sound F R E (cond b (answers_value (plain_represented (long_literal n))) (fails e))
            (cond b (gives (plain (long_literal n))) (errs integer_overflow))
        by true = (well.plain_well (long_literal n), refl)
        by false = well.errs_well e integer_overflow h

    pub unary_means : (op : UnaryOperator) (v : Represented)
        → Sound F R E (Operators.unary_answer op v) (Meaning.unary_meaning op (abstract_value v))
    unfolding Operators.unary_answer Meaning.unary_meaning failure_kind
    unary_means not_operator v =
        sound_expecting (bool_of (abstract_value v)) _ _ _ refl (λ b. sound_bool _)
    unary_means neg_operator v = sound_expecting (long_of (abstract_value v)) _ _ _ refl (λ n. sound_long _ _ refl)
    unary_means is_empty_operator v =
        sound_expecting (elements_of (abstract_value v)) _ _ _ refl (λ vs. sound_bool _)

    -- ---- the store

    -- what the store says of an entity is so in the world
    agrees_at : (d : EntityName) (x : Found) → look_up s.store d ≡ x
        → AgreesWithFound s.extensions ans w d x (w.store d)
    agrees_at d x e = subst (λ y. AgreesWithFound s.extensions ans w d y (w.store d)) e (well.store_agrees d)

    element_kind : (vs : AbstractValues) (f : Failure) → failure_kind f ≡ of_meaning type_error
        → failure_kind (Operators.element_failure vs f) ≡ of_meaning type_error
    unfolding Operators.element_failure Operators.unless_entity failure_kind
    element_kind no_values f h = h
    element_kind (one_value v vs) f h = by (entity_of v) (element_kind vs f h)
      where
        by : (o : Option EntityName) → failure_kind (Operators.element_failure vs f) ≡ of_meaning type_error
            → failure_kind (Operators.unless_entity o (Operators.entity_expected v) (Operators.element_failure vs f))
            ≡ of_meaning type_error
        by None k = refl
        by (Some e) k = k

    entities_kind : (v : AbstractValue)
        → failure_kind (Operators.entities_failure (elements_of v) v) ≡ of_meaning type_error
    unfolding Operators.entities_failure failure_kind
    entities_kind v = by (elements_of v)
      where
        by : (o : Option AbstractValues) → failure_kind (Operators.entities_failure o v) ≡ of_meaning type_error
        by None = refl
        by (Some vs) = element_kind vs _ refl

    -- a missing entity's unknown means that entity
    missing_means : (d : EntityName) → look_up s.store d ≡ not_known
        → w.sigma (printed_entity d) ≡ plain (entity_literal d)
    missing_means d e = agrees_at d not_known e

    missing_fits : (d : EntityName) → look_up s.store d ≡ not_known → Fits ans w (missing_entity d)
    unfolding value_type
    missing_fits d e = ap value_type (missing_means d e)

    ancestors : (d : EntityName) (x : StoredEntity) (o : Option WorldEntity)
        → AgreesWithFound s.extensions ans w d (found x) o → (c : EntityName)
        → is_among c x.ancestors ≡ Meaning.has_ancestor o c
    unfolding Meaning.has_ancestor
    ancestors d x None h c = absurd h
    ancestors d x (Some y) h c = sym (h.ancestors_agree c)

    no_ancestors : (d c : EntityName) → look_up s.store d ≡ not_there → false ≡ Meaning.has_ancestor (w.store d) c
    unfolding Meaning.has_ancestor
    no_ancestors d c e = ap (λ o. Meaning.has_ancestor o c) (sym (agrees_at d not_there e))

    in_means : (d : EntityName) (x : Found) (v : Represented) → look_up s.store d ≡ x → F v
        → Sound F R E (Operators.in_found x d v)
        (needing (Meaning.entities_of (abstract_value v)) (Meaning.in_meaning w d))
    unfolding Operators.in_found Meaning.meaning Meaning.binary_meaning and_then needing entity_of
    in_means d (found x) v e f =
        sound_expecting (Meaning.entities_of (abstract_value v)) _ _ _ (entities_kind (abstract_value v))
        (λ es. sound_same_bool _ _ (ap (λ test. Meaning.some_entity test es)
        (λ i c. entity_eq d c || ancestors d x (w.store d) (agrees_at d (found x) e) c i)))
    in_means d not_there v e f =
        sound_expecting (Meaning.entities_of (abstract_value v)) _ _ _ (entities_kind (abstract_value v))
        (λ es. sound_same_bool _ _ (ap (λ test. Meaning.some_entity test es)
        ((λ i c. sym (or-false (entity_eq d c)) i) ∙ (λ i c. entity_eq d c || no_ancestors d c e i))))
    in_means d not_known v e f =
        let m = well.missing_well d e in
        m.stands (binary in_operator (missing_entity d) (expression_of v)) _ (missing_fits d e, m.written_fits v f)
        (λ i. outcome_value (and_then (m.written_means v f i)
        (Meaning.binary_meaning s.extensions w in_operator (missing_means d e i))))

    on_entity_and_text_means : (next : EntityName → Text → Answer) (next' : EntityName → Text → Outcome)
        → ((d : EntityName) (t : Text) → Sound F R E (next d t) (next' d t)) → (v u : AbstractValue)
        → Sound F R E (Operators.on_entity_and_text next v u)
        (needing (entity_of v) (λ d. needing (text_of u) (next' d)))
    unfolding failure_kind
    on_entity_and_text_means next next' h v u =
        sound_expecting (entity_of v) _ _ _ refl (λ d. sound_expecting (text_of u) _ _ _ refl (λ t. h d t))

    -- a part that is stored, and what it means
    stored_part_means : (p : PartialValue) (u : AbstractValue) → StoredWell p → PartMeans s.extensions ans w p u
        → Sound F R E (answers p) (gives u)
    stored_part_means (value v) u h m = (h, ap gives (sym m))
    stored_part_means (residual t) u h m = h.1 t (gives u) (λ g. g) (ap outcome_value m)

    stored_tag_at : (o : Option PartialValue) (q : Option AbstractValue) (e : Failure)
        → failure_kind e ≡ of_meaning entity_attribute_does_not_exist → ((p : PartialValue) → o ≡ Some p → StoredWell p)
        → AgreesAt s.extensions ans w o q
        → Sound F R E (Operators.stored_tag o e) (Meaning.or_errs entity_attribute_does_not_exist q)
    unfolding Operators.stored_tag Meaning.or_errs
    stored_tag_at None None e h g a = well.errs_well e _ h
    stored_tag_at None (Some u) e h g a = absurd a
    stored_tag_at (Some p) None e h g a = absurd a
    stored_tag_at (Some p) (Some u) e h g a = stored_part_means p u (g p refl) a

    tag_in_world : (d : EntityName) (x : StoredEntity) (t : Text) (o : Option WorldEntity) → s.store.entity d ≡ Some x
        → AgreesWithFound s.extensions ans w d (found x) o
        → Sound F R E (Operators.stored_tag (part_at t x.tags) (Operators.tag_is_missing x d t))
        (Meaning.tag_meaning o t)
    unfolding Meaning.tag_meaning failure_kind
    tag_in_world d x t None e a = absurd a
    tag_in_world d x t (Some y) e a =
        stored_tag_at (part_at t x.tags) (y.tag t) _ refl (λ p h. (well.stored_well d x t p e).1 h) (a.tags_agree t)

    tag_means : (d : EntityName) (x : Found) (t : Text) → look_up s.store d ≡ x
        → Sound F R E (Operators.tag_found x d t) (Meaning.tag_meaning (w.store d) t)
    unfolding Operators.tag_found Meaning.tag_meaning failure_kind Meaning.meaning Meaning.binary_meaning and_then
        needing entity_of text_of
    tag_means d (found x) t e =
        tag_in_world d x t (w.store d) (found_is (s.store.entity d) s.store.is_partial x e) (agrees_at d (found x) e)
    tag_means d not_there t e =
        subst (λ o. E (entity_is_missing d) (Meaning.tag_meaning o t)) (sym (agrees_at d not_there e))
        (well.errs_well _ entity_does_not_exist refl)
    tag_means d not_known t e =
        let m = well.missing_well d e in
        m.stands (binary get_tag_operator (missing_entity d) (literal (text_literal t))) _ (missing_fits d e, tt)
        (λ i. outcome_value (Meaning.binary_meaning s.extensions w get_tag_operator (missing_means d e i)
        (plain (text_literal t))))

    present_at : (o : Option PartialValue) (q : Option AbstractValue) → AgreesAt s.extensions ans w o q
        → is_some o ≡ is_some q
    present_at None None a = refl
    present_at None (Some u) a = absurd a
    present_at (Some p) None a = absurd a
    present_at (Some p) (Some u) a = refl

    has_tag_in_world : (d : EntityName) (x : StoredEntity) (t : Text) (o : Option WorldEntity)
        → AgreesWithFound s.extensions ans w d (found x) o → is_some (part_at t x.tags) ≡ Meaning.has_tag_meaning o t
    unfolding Meaning.has_tag_meaning
    has_tag_in_world d x t None a = absurd a
    has_tag_in_world d x t (Some y) a = present_at (part_at t x.tags) (y.tag t) (a.tags_agree t)

    has_tag_means : (d : EntityName) (x : Found) (t : Text) → look_up s.store d ≡ x
        → Sound F R E (Operators.has_tag_found x d t) (gives_bool (Meaning.has_tag_meaning (w.store d) t))
    unfolding Operators.has_tag_found Meaning.has_tag_meaning Meaning.meaning Meaning.binary_meaning and_then needing
        entity_of text_of
    has_tag_means d (found x) t e =
        sound_same_bool _ _ (has_tag_in_world d x t (w.store d) (agrees_at d (found x) e))
    has_tag_means d not_there t e =
        sound_same_bool _ _ (ap (λ o. Meaning.has_tag_meaning o t) (sym (agrees_at d not_there e)))
    has_tag_means d not_known t e =
        let m = well.missing_well d e in
        m.stands (binary has_tag_operator (missing_entity d) (literal (text_literal t))) _ (missing_fits d e, tt)
        (λ i. outcome_value (Meaning.binary_meaning s.extensions w has_tag_operator (missing_means d e i)
        (plain (text_literal t))))

    -- ---- two operands

    comparison_kind : (v u : AbstractValue)
        → failure_kind (Operators.comparison_failure s.extensions v u) ≡ of_meaning type_error
    unfolding Operators.order_failure failure_kind
    comparison_kind v u =
        by (long_of v) (long_of u) (Operators.overloaded_type s.extensions v) (Operators.overloaded_type s.extensions u)
      where
        by : (m n : Option ℤ) (a b : Option Text)
            → failure_kind (Operators.order_failure s.extensions m n a b v u) ≡ of_meaning type_error
        by (Some m) n a b = refl
        by None (Some n) a b = refl
        by None None (Some a) b = refl
        by None None None (Some b) = refl
        by None None None None = refl

    comparison_means : (test : Ordering → Bool) (v u : AbstractValue)
        → Sound F R E (Operators.comparison_answer s.extensions test v u)
        (needing (Meaning.comparison s.extensions v u) (λ o. gives_bool (test o)))
    comparison_means test v u =
        sound_expecting (Meaning.comparison s.extensions v u) _ _ _ (comparison_kind v u) (λ o. sound_bool (test o))

    arithmetic_means : (op : BinaryOperator) (f : ℤ → ℤ → ℤ) (v u : Represented)
        → Sound F R E (Operators.arithmetic_answer op f v u)
        (Meaning.arithmetic f (abstract_value v) (abstract_value u))
    unfolding failure_kind
    arithmetic_means op f v u =
        sound_expecting (long_of (abstract_value v)) _ _ _ refl
        (λ m. sound_expecting (long_of (abstract_value u)) _ _ _ refl (λ n. sound_long _ _ refl))

    pub binary_means : (op : BinaryOperator) (v u : Represented) → F u
        → Sound F R E (Operators.binary_answer s op v u)
        (Meaning.binary_meaning s.extensions w op (abstract_value v) (abstract_value u))
    unfolding Operators.binary_answer Meaning.binary_meaning failure_kind
    binary_means eq_operator v u f = sound_bool _
    binary_means less_operator v u f = comparison_means is_lt (abstract_value v) (abstract_value u)
    binary_means less_eq_operator v u f = comparison_means is_le (abstract_value v) (abstract_value u)
    binary_means add_operator v u f = arithmetic_means add_operator _ v u
    binary_means sub_operator v u f = arithmetic_means sub_operator _ v u
    binary_means mul_operator v u f = arithmetic_means mul_operator _ v u
    binary_means in_operator v u f =
        sound_expecting (entity_of (abstract_value v)) _ _ _ refl (λ d. in_means d (look_up s.store d) u refl f)
    binary_means contains_operator v u f =
        sound_expecting (elements_of (abstract_value v)) _ _ _ refl (λ us. sound_bool _)
    binary_means contains_all_operator v u f =
        sound_expecting (elements_of (abstract_value v)) _ _ _ refl
        (λ us. sound_expecting (elements_of (abstract_value u)) _ _ _ refl (λ vs. sound_bool _))
    binary_means contains_any_operator v u f =
        sound_expecting (elements_of (abstract_value v)) _ _ _ refl
        (λ us. sound_expecting (elements_of (abstract_value u)) _ _ _ refl (λ vs. sound_bool _))
    binary_means get_tag_operator v u f =
        on_entity_and_text_means _ _ (λ d t. tag_means d (look_up s.store d) t refl) (abstract_value v)
        (abstract_value u)
    binary_means has_tag_operator v u f =
        on_entity_and_text_means _ _ (λ d t. has_tag_means d (look_up s.store d) t refl) (abstract_value v)
        (abstract_value u)

    pub like_means : (p : List PatternPart) (v : Represented)
        → Sound F R E (Operators.like_answer p v)
        (needing (text_of (abstract_value v)) (λ t. gives_bool (matches p (chars t))))
    unfolding failure_kind
    like_means p v = sound_expecting (text_of (abstract_value v)) _ _ _ refl (λ t. sound_bool _)

    pub is_means : (t : Text) (v : Represented)
        → Sound F R E (Operators.is_answer t v)
        (needing (entity_of (abstract_value v)) (λ e. gives_bool (text_eq e.type_name t)))
    unfolding failure_kind
    is_means t v = sound_expecting (entity_of (abstract_value v)) _ _ _ refl (λ e. sound_bool _)

    -- ---- attributes

    stored_means : (p : PartialValue) (u : AbstractValue) (e : Failure) → StoredWell p
        → PartMeans s.extensions ans w p u → Sound F R E (Operators.stored_attribute s.map (Some p) e) (gives u)
    unfolding Operators.stored_attribute Meaning.meaning
    stored_means (value v) u e h m = (h, ap gives (sym m))
    stored_means (residual (unknown n t)) u e h m =
        subst (λ o. Sound F R E (Operators.unknown_answer s.map n t) o) m (well.unknown_well n t h)
    stored_means (residual (literal l)) u e h m = h.1 (literal l) (gives u) (λ g. g) (ap outcome_value m)
    stored_means (residual (variable v)) u e h m = h.1 (variable v) (gives u) (λ g. g) (ap outcome_value m)
    stored_means (residual (slot i)) u e h m = h.1 (slot i) (gives u) (λ g. g) (ap outcome_value m)
    stored_means (residual (if_then_else a b c)) u e h m =
        h.1 (if_then_else a b c) (gives u) (λ g. g) (ap outcome_value m)
    stored_means (residual (both a b)) u e h m = h.1 (both a b) (gives u) (λ g. g) (ap outcome_value m)
    stored_means (residual (either a b)) u e h m = h.1 (either a b) (gives u) (λ g. g) (ap outcome_value m)
    stored_means (residual (unary op a)) u e h m = h.1 (unary op a) (gives u) (λ g. g) (ap outcome_value m)
    stored_means (residual (binary op a b)) u e h m = h.1 (binary op a b) (gives u) (λ g. g) (ap outcome_value m)
    stored_means (residual (call f ts)) u e h m = h.1 (call f ts) (gives u) (λ g. g) (ap outcome_value m)
    stored_means (residual (get_attribute a l)) u e h m =
        h.1 (get_attribute a l) (gives u) (λ g. g) (ap outcome_value m)
    stored_means (residual (has_attribute a l)) u e h m =
        h.1 (has_attribute a l) (gives u) (λ g. g) (ap outcome_value m)
    stored_means (residual (extended_has a l ls)) u e h m =
        h.1 (extended_has a l ls) (gives u) (λ g. g) (ap outcome_value m)
    stored_means (residual (like a q)) u e h m = h.1 (like a q) (gives u) (λ g. g) (ap outcome_value m)
    stored_means (residual (is_of_type a l)) u e h m = h.1 (is_of_type a l) (gives u) (λ g. g) (ap outcome_value m)
    stored_means (residual (set_of ts)) u e h m = h.1 (set_of ts) (gives u) (λ g. g) (ap outcome_value m)
    stored_means (residual (record_of fs)) u e h m = h.1 (record_of fs) (gives u) (λ g. g) (ap outcome_value m)

    attribute_at : (o : Option PartialValue) (q : Option AbstractValue) (e : Failure)
        → failure_kind e ≡ of_meaning entity_attribute_does_not_exist → ((p : PartialValue) → o ≡ Some p → StoredWell p)
        → AgreesAt s.extensions ans w o q
        → Sound F R E (Operators.stored_attribute s.map o e) (Meaning.or_errs entity_attribute_does_not_exist q)
    unfolding Operators.stored_attribute Meaning.or_errs
    attribute_at None None e h g a = well.errs_well e _ h
    attribute_at None (Some u) e h g a = absurd a
    attribute_at (Some p) None e h g a = absurd a
    attribute_at (Some p) (Some u) e h g a = stored_means p u e (g p refl) a

    attribute_in_world : (d : EntityName) (x : StoredEntity) (k : Text) (o : Option WorldEntity)
        → s.store.entity d ≡ Some x → AgreesWithFound s.extensions ans w d (found x) o
        → Sound F R E (Operators.stored_attribute s.map (part_at k x.attributes) (Operators.attribute_is_missing x d k))
        (Meaning.entity_attribute o k)
    unfolding Meaning.entity_attribute failure_kind
    attribute_in_world d x k None e a = absurd a
    attribute_in_world d x k (Some y) e a =
        attribute_at (part_at k x.attributes) (y.attribute k) _ refl (λ p h. (well.stored_well d x k p e).0 h)
        (a.attributes_agree k)

    entity_attribute_means : (d : EntityName) (x : Found) (k : Text) → look_up s.store d ≡ x
        → Sound F R E (Operators.attribute_found s.map x d k) (Meaning.entity_attribute (w.store d) k)
    unfolding Operators.attribute_found Meaning.entity_attribute failure_kind Meaning.meaning Meaning.attribute_meaning
        and_then
    entity_attribute_means d (found x) k e =
        attribute_in_world d x k (w.store d) (found_is (s.store.entity d) s.store.is_partial x e)
        (agrees_at d (found x) e)
    entity_attribute_means d not_there k e =
        subst (λ o. E (entity_is_missing d) (Meaning.entity_attribute o k)) (sym (agrees_at d not_there e))
        (well.errs_well _ entity_does_not_exist refl)
    entity_attribute_means d not_known k e =
        let m = well.missing_well d e in
        m.stands (get_attribute (missing_entity d) k) _ (missing_fits d e)
        (λ i. outcome_value (Meaning.attribute_meaning w (missing_means d e i) k))

    field_means : (fs : RepresentedFields) (k : Text) (o : Option Represented) (e : Failure)
        → failure_kind e ≡ of_meaning record_attribute_does_not_exist → ((v : Represented) → o ≡ Some v → F v)
        → Sound F R E (Operators.value_or_failure o e)
        (Meaning.or_errs record_attribute_does_not_exist (option_map abstract_value o))
    unfolding Operators.value_or_failure Meaning.or_errs
    field_means fs k None e h g = well.errs_well e _ h
    field_means fs k (Some v) e h g = (g v refl, refl)

    type_fails : (v : Represented) → E (Operators.container_expected v) (errs type_error)
    unfolding failure_kind
    type_fails v = well.errs_well _ type_error refl

    pub attribute_means : (v : Represented) (k : Text) → F v
        → Sound F R E (Operators.attribute_answer s v k) (Meaning.attribute_meaning w (abstract_value v) k)
    unfolding Operators.container_of Operators.attribute_in Meaning.attribute_meaning failure_kind
    attribute_means (plain_represented (bool_literal b)) k f = type_fails (plain_represented (bool_literal b))
    attribute_means (plain_represented (long_literal n)) k f = type_fails (plain_represented (long_literal n))
    attribute_means (plain_represented (text_literal t)) k f = type_fails (plain_represented (text_literal t))
    attribute_means (plain_represented (entity_literal d)) k f = entity_attribute_means d (look_up s.store d) k refl
    attribute_means (set_represented vs) k f = type_fails (set_represented vs)
    attribute_means (record_represented fs) k f =
        subst (λ q. Sound F R E (Operators.value_or_failure (Operators.represented_at k fs)
        (Operators.key_is_missing k (Operators.represented_names fs)))
        (Meaning.or_errs record_attribute_does_not_exist q)) (sym (value_at-abstract_fields k fs))
        (field_means fs k (Operators.represented_at k fs) _ refl (λ v e. well.part_well fs k v f e))
    attribute_means (extension_represented t j g ts) k f = type_fails (extension_represented t j g ts)

    -- ---- has

    has_in_world : (d : EntityName) (x : StoredEntity) (k : Text) (o : Option WorldEntity)
        → AgreesWithFound s.extensions ans w d (found x) o → is_some (part_at k x.attributes) ≡ Meaning.entity_has o k
    unfolding Meaning.entity_has
    has_in_world d x k None a = absurd a
    has_in_world d x k (Some y) a = present_at (part_at k x.attributes) (y.attribute k) (a.attributes_agree k)

    has_not : (d : EntityName) (k : Text) → look_up s.store d ≡ not_there → false ≡ Meaning.entity_has (w.store d) k
    unfolding Meaning.entity_has
    has_not d k e = ap (λ o. Meaning.entity_has o k) (sym (agrees_at d not_there e))

    entity_has_means : (d : EntityName) (x : Found) (k : Text) → look_up s.store d ≡ x
        → Sound F R E (Operators.has_found x d k) (gives_bool (Meaning.entity_has (w.store d) k))
    unfolding Operators.has_found Meaning.meaning Meaning.has_meaning and_then
    entity_has_means d (found x) k e =
        sound_same_bool _ _ (has_in_world d x k (w.store d) (agrees_at d (found x) e))
    entity_has_means d not_there k e = sound_same_bool _ _ (has_not d k e)
    entity_has_means d not_known k e =
        let m = well.missing_well d e in
        m.stands (has_attribute (missing_entity d) k) _ (missing_fits d e)
        (λ i. outcome_value (Meaning.has_meaning w (missing_means d e i) k))

    present_map : (o : Option Represented) → is_some o ≡ is_some (option_map abstract_value o)
    present_map None = refl
    present_map (Some v) = refl

    record_has : (fs : RepresentedFields) (k : Text)
        → is_some (Operators.represented_at k fs) ≡ is_some (value_at k (abstract_fields fs))
    record_has fs k =
        present_map (Operators.represented_at k fs) ∙ ap is_some (sym (value_at-abstract_fields k fs))

    pub has_means : (v : Represented) (k : Text)
        → Sound F R E (Operators.has_answer s v k) (Meaning.has_meaning w (abstract_value v) k)
    unfolding Operators.container_of Operators.has_in Meaning.has_meaning failure_kind
    has_means (plain_represented (bool_literal b)) k = type_fails (plain_represented (bool_literal b))
    has_means (plain_represented (long_literal n)) k = type_fails (plain_represented (long_literal n))
    has_means (plain_represented (text_literal t)) k = type_fails (plain_represented (text_literal t))
    has_means (plain_represented (entity_literal d)) k = entity_has_means d (look_up s.store d) k refl
    has_means (set_represented vs) k = type_fails (set_represented vs)
    has_means (record_represented fs) k = sound_same_bool _ _ (record_has fs k)
    has_means (extension_represented t j g ts) k = type_fails (extension_represented t j g ts)

    -- ---- extended `has`

    last_means : (d : EntityName) (x : Found) (k : Text) → look_up s.store d ≡ x
        → Sound F R E (Operators.last_found x d k) (gives_bool (Meaning.entity_has (w.store d) k))
    unfolding Operators.last_found Meaning.meaning Meaning.has_meaning Meaning.has_path and_then
    last_means d (found x) k e = sound_same_bool _ _ (has_in_world d x k (w.store d) (agrees_at d (found x) e))
    last_means d not_there k e = sound_same_bool _ _ (has_not d k e)
    last_means d not_known k e =
        let m = well.missing_well d e in
        m.stands (extended_has (missing_entity d) k []) _ (missing_fits d e)
        (λ i. outcome_value (Meaning.has_meaning w (missing_means d e i) k))

    pub last_in_means : (v : Represented) (k : Text)
        → Sound F R E (Operators.last_in s.store (Operators.container_of v) (Operators.container_expected v) k)
        (Meaning.has_meaning w (abstract_value v) k)
    unfolding Operators.container_of Operators.last_in Meaning.has_meaning failure_kind
    last_in_means (plain_represented (bool_literal b)) k = type_fails (plain_represented (bool_literal b))
    last_in_means (plain_represented (long_literal n)) k = type_fails (plain_represented (long_literal n))
    last_in_means (plain_represented (text_literal t)) k = type_fails (plain_represented (text_literal t))
    last_in_means (plain_represented (entity_literal d)) k = last_means d (look_up s.store d) k refl
    last_in_means (set_represented vs) k = type_fails (set_represented vs)
    last_in_means (record_represented fs) k = sound_same_bool _ _ (record_has fs k)
    last_in_means (extension_represented t j g ts) k = type_fails (extension_represented t j g ts)

    -- the rest of the way, from what stands at the attribute
    abbrev rest_of : ErrorKind → Option AbstractValue → Text → List Text → Outcome
    rest_of e q l ls =
        cond (is_some q) (and_then (Meaning.or_errs e q) (λ u. Meaning.has_path w u l ls)) (gives_bool false)

    walk_value : (o : Option Represented) (e : ErrorKind) (l : Text) (ls : List Text)
        → ((u : Represented) → o ≡ Some u → F u)
        → ((u : Represented) → F u → Sound F R E (Operators.path_answer s.store u l ls)
        (Meaning.has_path w (abstract_value u) l ls))
        → Sound F R E (Operators.after_walk (Operators.walk_to o) (λ u. Operators.path_answer s.store u l ls))
        (rest_of e (option_map abstract_value o) l ls)
    unfolding Operators.after_walk Operators.walk_to Meaning.or_errs and_then
    walk_value None e l ls f rest = sound_bool false
    walk_value (Some u) e l ls f rest = rest u (f u refl)

    walk_part : (p : PartialValue) (q : AbstractValue) (e : ErrorKind) (l : Text) (ls : List Text) → StoredWell p
        → PartMeans s.extensions ans w p q
        → ((u : Represented) → F u → Sound F R E (Operators.path_answer s.store u l ls)
        (Meaning.has_path w (abstract_value u) l ls))
        → Sound F R E (Operators.after_walk (Operators.walk_to_stored (Some p) l ls)
        (λ u. Operators.path_answer s.store u l ls)) (rest_of e (Some q) l ls)
    unfolding Operators.after_walk Operators.walk_to_stored Meaning.or_errs and_then Meaning.meaning
    walk_part (value v) q e l ls h m rest =
        subst (λ u. Sound F R E (Operators.path_answer s.store v l ls) (Meaning.has_path w u l ls)) m (rest v h)
    walk_part (residual t) q e l ls h m rest =
        h.1 (extended_has t l ls) _ (λ g. g) (λ i. outcome_value (and_then (m i) (λ u. Meaning.has_path w u l ls)))

    walk_stored : (o : Option PartialValue) (q : Option AbstractValue) (e : ErrorKind) (l : Text) (ls : List Text)
        → ((p : PartialValue) → o ≡ Some p → StoredWell p) → AgreesAt s.extensions ans w o q
        → ((u : Represented) → F u → Sound F R E (Operators.path_answer s.store u l ls)
        (Meaning.has_path w (abstract_value u) l ls))
        → Sound F R E (Operators.after_walk (Operators.walk_to_stored o l ls)
        (λ u. Operators.path_answer s.store u l ls)) (rest_of e q l ls)
    unfolding Operators.after_walk Operators.walk_to_stored Meaning.or_errs and_then
    walk_stored None None e l ls f a rest = sound_bool false
    walk_stored None (Some u) e l ls f a rest = absurd a
    walk_stored (Some p) None e l ls f a rest = absurd a
    walk_stored (Some p) (Some q) e l ls f a rest = walk_part p q e l ls (f p refl) a rest

    -- what an extended `has` means from an entity
    abbrev entity_path : Option WorldEntity → Text → Text → List Text → Outcome
    entity_path o k l ls =
        cond (Meaning.entity_has o k) (and_then (Meaning.entity_attribute o k) (λ u. Meaning.has_path w u l ls))
        (gives_bool false)

    walk_world : (d : EntityName) (x : StoredEntity) (k l : Text) (ls : List Text) (o : Option WorldEntity)
        → s.store.entity d ≡ Some x → AgreesWithFound s.extensions ans w d (found x) o
        → ((u : Represented) → F u → Sound F R E (Operators.path_answer s.store u l ls)
        (Meaning.has_path w (abstract_value u) l ls))
        → Sound F R E (Operators.after_walk (Operators.walk_to_stored (part_at k x.attributes) l ls)
        (λ u. Operators.path_answer s.store u l ls)) (entity_path o k l ls)
    unfolding Meaning.entity_has Meaning.entity_attribute
    walk_world d x k l ls None e a rest = absurd a
    walk_world d x k l ls (Some y) e a rest =
        walk_stored (part_at k x.attributes) (y.attribute k) entity_attribute_does_not_exist l ls
        (λ p h. (well.stored_well d x k p e).0 h) (a.attributes_agree k) rest

    walk_entity : (d : EntityName) (x : Found) (k l : Text) (ls : List Text) → look_up s.store d ≡ x
        → ((u : Represented) → F u → Sound F R E (Operators.path_answer s.store u l ls)
        (Meaning.has_path w (abstract_value u) l ls))
        → Sound F R E (Operators.after_walk (Operators.walk_found x d k l ls)
        (λ u. Operators.path_answer s.store u l ls)) (entity_path (w.store d) k l ls)
    unfolding Operators.after_walk Operators.walk_found Meaning.entity_has Meaning.meaning Meaning.has_path
        Meaning.has_meaning Meaning.attribute_meaning and_then needing bool_of
    walk_entity d (found x) k l ls e rest =
        walk_world d x k l ls (w.store d) (found_is (s.store.entity d) s.store.is_partial x e)
        (agrees_at d (found x) e) rest
    walk_entity d not_there k l ls e rest =
        subst (λ o. Sound F R E (answers_bool false) (entity_path o k l ls)) (sym (agrees_at d not_there e))
        (sound_bool false)
    walk_entity d not_known k l ls e rest =
        let m = well.missing_well d e in
        m.stands (extended_has (missing_entity d) k (l ∷ ls)) _ (missing_fits d e)
        (λ i. outcome_value (Meaning.has_path w (missing_means d e i) k (l ∷ ls)))

    pub step_means : (v : Represented) (k l : Text) (ls : List Text) → F v
        → ((u : Represented) → F u → Sound F R E (Operators.path_answer s.store u l ls)
        (Meaning.has_path w (abstract_value u) l ls))
        → Sound F R E (Operators.after_walk
        (Operators.walk_in s.store (Operators.container_of v) (Operators.container_expected v) k l ls)
        (λ u. Operators.path_answer s.store u l ls)) (Meaning.has_path w (abstract_value v) k (l ∷ ls))
    unfolding Operators.after_walk Operators.walk_in Operators.container_of Meaning.has_path Meaning.has_meaning
        Meaning.attribute_meaning and_then needing bool_of failure_kind
    step_means (plain_represented (bool_literal b)) k l ls f rest = type_fails (plain_represented (bool_literal b))
    step_means (plain_represented (long_literal n)) k l ls f rest = type_fails (plain_represented (long_literal n))
    step_means (plain_represented (text_literal t)) k l ls f rest = type_fails (plain_represented (text_literal t))
    step_means (plain_represented (entity_literal d)) k l ls f rest = walk_entity d (look_up s.store d) k l ls refl rest
    step_means (set_represented vs) k l ls f rest = type_fails (set_represented vs)
    step_means (record_represented fs) k l ls f rest =
        subst (λ q. Sound F R E (Operators.after_walk (Operators.walk_to (Operators.represented_at k fs))
        (λ u. Operators.path_answer s.store u l ls)) (rest_of record_attribute_does_not_exist q l ls))
        (sym (value_at-abstract_fields k fs))
        (walk_value (Operators.represented_at k fs) record_attribute_does_not_exist l ls
        (λ u e. well.part_well fs k u f e) rest)
    step_means (extension_represented t j g ts) k l ls f rest = type_fails (extension_represented t j g ts)

    pub path_means : (k : Text) (ls : List Text) (v : Represented) → F v
        → Sound F R E (Operators.path_answer s.store v k ls) (Meaning.has_path w (abstract_value v) k ls)
    unfolding Operators.path_answer Meaning.has_path
    path_means k [] v f = last_in_means v k
    path_means k (l ∷ ls) v f = step_means v k l ls f (path_means l ls)
