-- What the operators answer to alike parts is alike.
use Rattle.std.specs.Prelude.{◌≡◌, ℤ, Bool, true, false, cond, ◌&&◌, List, [], ◌∷◌, map, Option, Some, None, Result, Ok}
use Rattle.std.specs.Prelude.{Err, is_some, option_map}
use Rattle.std.proofs.Common.{refl, sym, ap, ◌∙◌, subst}
use Rattle.std.proofs.lemmas.Bool.{and_parts}
use Rattle.cedar_model.specs.Terms.{Text, EntityName, bool_literal, long_literal, text_literal, entity_literal}
use Rattle.cedar_model.specs.Terms.{UnaryOperator, not_operator, neg_operator, is_empty_operator, BinaryOperator}
use Rattle.cedar_model.specs.Terms.{eq_operator, less_operator, less_eq_operator, add_operator, sub_operator}
use Rattle.cedar_model.specs.Terms.{mul_operator, in_operator, contains_operator, contains_all_operator}
use Rattle.cedar_model.specs.Terms.{contains_any_operator, get_tag_operator, has_tag_operator, PatternPart, Term}
use Rattle.cedar_model.specs.Terms.{literal, variable, slot, unknown, if_then_else, both, either, unary, binary, call}
use Rattle.cedar_model.specs.Terms.{get_attribute, has_attribute, extended_has, like, is_of_type, set_of, record_of}
use Rattle.cedar_model.specs.Terms.{Terms, no_terms, one_term, Fields, no_fields, one_field}
use Rattle.cedar_model.specs.Values.{AbstractValue, plain, set_value, record_value, extension_value, AbstractValues}
use Rattle.cedar_model.specs.Values.{no_values, one_value, AbstractFields, no_values_at, one_value_at, Represented}
use Rattle.cedar_model.specs.Values.{plain_represented, set_represented, record_represented, extension_represented}
use Rattle.cedar_model.specs.Values.{RepresentedValues, no_represented, one_represented, RepresentedFields}
use Rattle.cedar_model.specs.Values.{no_represented_at, one_represented_at, abstract_value, abstract_values}
use Rattle.cedar_model.specs.Values.{abstract_fields, expression_of, expressions_of, expressions_at}
use Rattle.cedar_model.specs.Sets.{abstract_set}
use Rattle.cedar_model.specs.lemmas.Sets.{abstract_values-canonical_set}
use Rattle.cedar_model.specs.Shapes.{is_projectable, are_projectable, are_projectable_at}
use Rattle.cedar_model.specs.Outcomes.{bool_of, long_of, entity_of, fields_of_value, text_eq, is_long, value_at}
use Rattle.cedar_model.specs.Failures.{Failure, failure_kind, PartialValue, value, residual, Answer, answers, fails}
use Rattle.cedar_model.specs.Failures.{answers_bool, answers_value, answers_residual, part_expression}
use Rattle.cedar_model.specs.Settings.{Store, Setting, missing_entity, Found, found, not_there, not_known, look_up}
use Rattle.cedar_model.specs.Operators
use Rattle.cedar_model.specs.Rules
use Rattle.cedar_model.specs.Alike.{erased, erased_each, erased_at, AreAlikeParts, AreAlike}
use Rattle.cedar_model.proofs.Injections.{some_inj, is_some-option_map}

pub alike-parts-refl : (p : PartialValue) → AreAlikeParts p p
alike-parts-refl (value v) = refl
alike-parts-refl (residual r) = refl

pub alike-refl : (a : Answer) → AreAlike a a
alike-refl (answers p) = alike-parts-refl p
alike-refl (fails e) = refl

pub alike_equal : (a b : Answer) → a ≡ b → AreAlike a b
alike_equal a b e = subst (AreAlike a) e (alike-refl a)

-- ---- expressions of values

mutual
  abbrev_expression : AbstractValue → Term
  abbrev_expression (plain l) = literal l
  abbrev_expression (set_value vs) = set_of (abbrev_expressions vs)
  abbrev_expression (record_value fs) = record_of (abbrev_expressions_at fs)
  abbrev_expression (extension_value t k) = call [] no_terms

  abbrev_expressions : AbstractValues → Terms
  abbrev_expressions no_values = no_terms
  abbrev_expressions (one_value v vs) = one_term (abbrev_expression v) (abbrev_expressions vs)

  abbrev_expressions_at : AbstractFields → Fields
  abbrev_expressions_at no_values_at = no_fields
  abbrev_expressions_at (one_value_at k v fs) = one_field k (abbrev_expression v) (abbrev_expressions_at fs)

mutual
  unfolding abbrev_expression

  erased-expression_of : (v : Represented) → erased (expression_of v) ≡ abbrev_expression (abstract_value v)
  erased-expression_of (plain_represented l) = refl
  erased-expression_of (set_represented vs) = ap set_of (erased-expressions_of vs)
  erased-expression_of (record_represented fs) = ap record_of (erased-expressions_at fs)
  erased-expression_of (extension_represented t k f ts) = refl

  erased-expressions_of : (vs : RepresentedValues)
      → erased_each (expressions_of vs) ≡ abbrev_expressions (abstract_values vs)
  erased-expressions_of no_represented = refl
  erased-expressions_of (one_represented v vs) =
      λ i. one_term (erased-expression_of v i) (erased-expressions_of vs i)

  erased-expressions_at : (fs : RepresentedFields)
      → erased_at (expressions_at fs) ≡ abbrev_expressions_at (abstract_fields fs)
  erased-expressions_at no_represented_at = refl
  erased-expressions_at (one_represented_at k v fs) =
      λ i. one_field k (erased-expression_of v i) (erased-expressions_at fs i)

pub alike_expressions : (v w : Represented) → abstract_value v ≡ abstract_value w
    → erased (expression_of v) ≡ erased (expression_of w)
alike_expressions v w e = erased-expression_of v ∙ ap abbrev_expression e ∙ sym (erased-expression_of w)

pub alike_part_expressions : (p q : PartialValue) → AreAlikeParts p q
    → erased (part_expression p) ≡ erased (part_expression q)
unfolding part_expression
alike_part_expressions (value v) (value w) h = alike_expressions v w h
alike_part_expressions (value v) (residual r) h = absurd h
alike_part_expressions (residual r) (value v) h = absurd h
alike_part_expressions (residual r) (residual q) h = h

-- ---- projectable expressions have no calls

mutual
  pub erased-projectable : (t : Term) → is_projectable t ≡ true → erased t ≡ t
  erased-projectable (literal l) e = refl
  erased-projectable (variable v) e = refl
  erased-projectable (slot s) e = refl
  erased-projectable (unknown n t) e = refl
  erased-projectable (if_then_else c a b) e = absurd (cc)
  erased-projectable (both a b) e = absurd (cc)
  erased-projectable (either a b) e = absurd (cc)
  erased-projectable (unary op a) e = absurd (cc)
  erased-projectable (binary op a b) e = absurd (cc)
  erased-projectable (call f ts) e = absurd (cc)
  erased-projectable (get_attribute a k) e = absurd (cc)
  erased-projectable (has_attribute a k) e = absurd (cc)
  erased-projectable (extended_has a k ks) e = absurd (cc)
  erased-projectable (like a p) e = absurd (cc)
  erased-projectable (is_of_type a t) e = absurd (cc)
  erased-projectable (set_of ts) e = ap set_of (erased-projectable_each ts e)
  erased-projectable (record_of fs) e = ap record_of (erased-projectable_at fs e)

  erased-projectable_each : (ts : Terms) → are_projectable ts ≡ true → erased_each ts ≡ ts
  erased-projectable_each no_terms e = refl
  erased-projectable_each (one_term t ts) e =
      λ i. one_term (erased-projectable t (and_parts (is_projectable t) (are_projectable ts) e).0 i)
      (erased-projectable_each ts (and_parts (is_projectable t) (are_projectable ts) e).1 i)

  erased-projectable_at : (fs : Fields) → are_projectable_at fs ≡ true → erased_at fs ≡ fs
  erased-projectable_at no_fields e = refl
  erased-projectable_at (one_field k t fs) e =
      λ i. one_field k (erased-projectable t (and_parts (is_projectable t) (are_projectable_at fs) e).0 i)
      (erased-projectable_at fs (and_parts (is_projectable t) (are_projectable_at fs) e).1 i)

mutual
  projectable-erased : (t : Term) → is_projectable (erased t) ≡ is_projectable t
  projectable-erased (literal l) = refl
  projectable-erased (variable v) = refl
  projectable-erased (slot s) = refl
  projectable-erased (unknown n t) = refl
  projectable-erased (if_then_else c a b) = refl
  projectable-erased (both a b) = refl
  projectable-erased (either a b) = refl
  projectable-erased (unary op a) = refl
  projectable-erased (binary op a b) = refl
  projectable-erased (call f ts) = refl
  projectable-erased (get_attribute a k) = refl
  projectable-erased (has_attribute a k) = refl
  projectable-erased (extended_has a k ks) = refl
  projectable-erased (like a p) = refl
  projectable-erased (is_of_type a t) = refl
  projectable-erased (set_of ts) = projectable-erased_each ts
  projectable-erased (record_of fs) = projectable-erased_at fs

  projectable-erased_each : (ts : Terms) → are_projectable (erased_each ts) ≡ are_projectable ts
  projectable-erased_each no_terms = refl
  projectable-erased_each (one_term t ts) = λ i. projectable-erased t i && projectable-erased_each ts i

  projectable-erased_at : (fs : Fields) → are_projectable_at (erased_at fs) ≡ are_projectable_at fs
  projectable-erased_at no_fields = refl
  projectable-erased_at (one_field k t fs) = λ i. projectable-erased t i && projectable-erased_at fs i

pub alike_projectable : (r q : Term) → erased r ≡ erased q → is_projectable r ≡ is_projectable q
alike_projectable r q e = sym (projectable-erased r) ∙ ap is_projectable e ∙ projectable-erased q

fields-erased : (t : Term) → Rules.fields_of_record (erased t) ≡ option_map erased_at (Rules.fields_of_record t)
unfolding Rules.fields_of_record
fields-erased (literal l) = refl
fields-erased (variable v) = refl
fields-erased (slot s) = refl
fields-erased (unknown n t) = refl
fields-erased (if_then_else c a b) = refl
fields-erased (both a b) = refl
fields-erased (either a b) = refl
fields-erased (unary op a) = refl
fields-erased (binary op a b) = refl
fields-erased (call f ts) = refl
fields-erased (get_attribute a k) = refl
fields-erased (has_attribute a k) = refl
fields-erased (extended_has a k ks) = refl
fields-erased (like a p) = refl
fields-erased (is_of_type a t) = refl
fields-erased (set_of ts) = refl
fields-erased (record_of fs) = refl

pub alike_fields : (r q : Term) → erased r ≡ erased q
    → option_map erased_at (Rules.fields_of_record r) ≡ option_map erased_at (Rules.fields_of_record q)
alike_fields r q e = sym (fields-erased r) ∙ ap Rules.fields_of_record e ∙ fields-erased q

part_if : (b : Bool) (t : Term) (o : Option Term)
    → cond b (Some (erased t)) (option_map erased o) ≡ option_map erased (cond b (Some t) o)
part_if true t o = refl
part_if false t o = refl

term_at-erased : (k : Text) (fs : Fields)
    → Operators.term_at k (erased_at fs) ≡ option_map erased (Operators.term_at k fs)
unfolding Operators.term_at
term_at-erased k no_fields = refl
term_at-erased k (one_field l t fs) =
    ap (cond (text_eq k l) (Some (erased t))) (term_at-erased k fs) ∙ part_if (text_eq k l) t (Operators.term_at k fs)

pub alike_term_at : (k : Text) (fs gs : Fields) → erased_at fs ≡ erased_at gs
    → option_map erased (Operators.term_at k fs) ≡ option_map erased (Operators.term_at k gs)
alike_term_at k fs gs e =
    sym (term_at-erased k fs) ∙ ap (Operators.term_at k) e ∙ term_at-erased k gs

type-erased : (t : Term) → Rules.entity_type_of_residual (erased t) ≡ Rules.entity_type_of_residual t
unfolding Rules.entity_type_of_residual
type-erased (literal l) = refl
type-erased (variable v) = refl
type-erased (slot s) = refl
type-erased (unknown n t) = refl
type-erased (if_then_else c a b) = refl
type-erased (both a b) = refl
type-erased (either a b) = refl
type-erased (unary op a) = refl
type-erased (binary op a b) = refl
type-erased (call f ts) = refl
type-erased (get_attribute a k) = refl
type-erased (has_attribute a k) = refl
type-erased (extended_has a k ks) = refl
type-erased (like a p) = refl
type-erased (is_of_type a t) = refl
type-erased (set_of ts) = refl
type-erased (record_of fs) = refl

pub alike_residual_types : (r q : Term) → erased r ≡ erased q
    → Rules.entity_type_of_residual r ≡ Rules.entity_type_of_residual q
alike_residual_types r q e = sym (type-erased r) ∙ ap Rules.entity_type_of_residual e ∙ type-erased q

alike_types : (p q : PartialValue) → AreAlikeParts p q → Rules.entity_type_of p ≡ Rules.entity_type_of q
unfolding Rules.entity_type_of
alike_types (value v) (value w) h = ap (λ a. Rules.type_of_entity (entity_of a)) h
alike_types (value v) (residual r) h = absurd h
alike_types (residual r) (value v) h = absurd h
alike_types (residual r) (residual q) h = alike_residual_types r q h

-- ---- operators on values

pub expecting_alike : {A : Type 0} (o : Option A) (e f : Failure) (next next' : A → Answer)
    → failure_kind e ≡ failure_kind f → ((x : A) → AreAlike (next x) (next' x))
    → AreAlike (Operators.expecting o e next) (Operators.expecting o f next')
unfolding Operators.expecting
expecting_alike None e f next next' h g = h
expecting_alike (Some x) e f next next' h g = g x

long_alike : (n : ℤ) (e f : Failure) → failure_kind e ≡ failure_kind f
    → AreAlike (Operators.long_answer n e) (Operators.long_answer n f)
long_alike n e f h = by (is_long n)
  where
    by : (b : Bool) → AreAlike (cond b (answers_value (plain_represented (long_literal n))) (fails e))
        (cond b (answers_value (plain_represented (long_literal n))) (fails f))
    by true = refl
    by false = h

pub unary_alike : (op : UnaryOperator) (v w : Represented) → abstract_value v ≡ abstract_value w
    → AreAlike (Operators.unary_answer op v) (Operators.unary_answer op w)
unfolding Operators.unary_answer failure_kind
unary_alike not_operator v w h =
    rw h (alike-refl (Operators.unary_answer not_operator w))
unary_alike neg_operator v w h =
    rw h (expecting_alike (long_of (abstract_value w)) _ _ _ _ refl (λ n. long_alike _ _ _ refl))
unary_alike is_empty_operator v w h =
    rw h (alike-refl (Operators.unary_answer is_empty_operator w))

pub like_alike : (p : List PatternPart) (v w : Represented) → abstract_value v ≡ abstract_value w
    → AreAlike (Operators.like_answer p v) (Operators.like_answer p w)
like_alike p v w h = rw h (alike-refl (Operators.like_answer p w))

pub is_alike : (t : Text) (v w : Represented) → abstract_value v ≡ abstract_value w
    → AreAlike (Operators.is_answer t v) (Operators.is_answer t w)
is_alike t v w h = rw h (alike-refl (Operators.is_answer t w))

in_found_alike : (x : Found) (d : EntityName) (v w : Represented) → abstract_value v ≡ abstract_value w
    → AreAlike (Operators.in_found x d v) (Operators.in_found x d w)
unfolding Operators.in_found
in_found_alike (found x) d v w h = rw h (alike-refl (Operators.in_found (found x) d w))
in_found_alike not_there d v w h = rw h (alike-refl (Operators.in_found not_there d w))
in_found_alike not_known d v w h = ap (binary in_operator (missing_entity d)) (alike_expressions v w h)

arithmetic_alike : (op : BinaryOperator) (f : ℤ → ℤ → ℤ) (v v' w w' : Represented)
    → abstract_value v ≡ abstract_value v' → abstract_value w ≡ abstract_value w'
    → AreAlike (Operators.arithmetic_answer op f v w) (Operators.arithmetic_answer op f v' w')
unfolding failure_kind
arithmetic_alike op f v v' w w' h k =
    rw (h, k) (expecting_alike (long_of (abstract_value v')) _ _ _ _ refl
    (λ m. expecting_alike (long_of (abstract_value w')) _ _ _ _ refl (λ n. long_alike _ _ _ refl)))

pub binary_alike : (s : Setting) (op : BinaryOperator) (v v' w w' : Represented) → abstract_value v ≡ abstract_value v'
    → abstract_value w ≡ abstract_value w'
    → AreAlike (Operators.binary_answer s op v w) (Operators.binary_answer s op v' w')
unfolding Operators.binary_answer
binary_alike s eq_operator v v' w w' h k = rw (h, k) refl
binary_alike s less_operator v v' w w' h k = rw (h, k) (alike-refl (Operators.binary_answer s less_operator v' w'))
binary_alike s less_eq_operator v v' w w' h k =
    rw (h, k) (alike-refl (Operators.binary_answer s less_eq_operator v' w'))
binary_alike s add_operator v v' w w' h k = arithmetic_alike add_operator _ v v' w w' h k
binary_alike s sub_operator v v' w w' h k = arithmetic_alike sub_operator _ v v' w w' h k
binary_alike s mul_operator v v' w w' h k = arithmetic_alike mul_operator _ v v' w w' h k
binary_alike s in_operator v v' w w' h k =
    rw h (expecting_alike (entity_of (abstract_value v')) _ _ _ _ refl
    (λ d. in_found_alike (look_up s.store d) d w w' k))
binary_alike s contains_operator v v' w w' h k =
    rw (h, k) (alike-refl (Operators.binary_answer s contains_operator v' w'))
binary_alike s contains_all_operator v v' w w' h k =
    rw (h, k) (alike-refl (Operators.binary_answer s contains_all_operator v' w'))
binary_alike s contains_any_operator v v' w w' h k =
    rw (h, k) (alike-refl (Operators.binary_answer s contains_any_operator v' w'))
binary_alike s get_tag_operator v v' w w' h k =
    rw (h, k) (alike-refl (Operators.binary_answer s get_tag_operator v' w'))
binary_alike s has_tag_operator v v' w w' h k =
    rw (h, k) (alike-refl (Operators.binary_answer s has_tag_operator v' w'))

-- ---- records and entities, as values

abbrev container_parts : Operators.Container → Option AbstractFields × Option EntityName
container_parts (Operators.a_record fs) = (Some (abstract_fields fs), None)
container_parts (Operators.an_entity e) = (None, Some e)
container_parts Operators.no_container = (None, None)

container_is : (v : Represented)
    → container_parts (Operators.container_of v) ≡ (fields_of_value (abstract_value v), entity_of (abstract_value v))
unfolding Operators.container_of fields_of_value entity_of
container_is (plain_represented (bool_literal b)) = refl
container_is (plain_represented (long_literal n)) = refl
container_is (plain_represented (text_literal t)) = refl
container_is (plain_represented (entity_literal e)) = refl
container_is (set_represented vs) = refl
container_is (record_represented fs) = refl
container_is (extension_represented t k f ts) = refl

abbrev AreAlikeContainers : Operators.Container → Operators.Container → Type 0
AreAlikeContainers (Operators.a_record fs) (Operators.a_record gs) = abstract_fields fs ≡ abstract_fields gs
AreAlikeContainers (Operators.an_entity d) (Operators.an_entity e) = d ≡ e
AreAlikeContainers Operators.no_container Operators.no_container = Unit {0}
AreAlikeContainers c d = ⊥

containers_by_parts : (c d : Operators.Container) → container_parts c ≡ container_parts d → AreAlikeContainers c d
containers_by_parts (Operators.a_record fs) (Operators.a_record gs) e = some_inj (ap (λ p. p.0) e)
containers_by_parts (Operators.a_record fs) (Operators.an_entity d) e = let f = ap (λ p. p.0) e in absurd (cc)
containers_by_parts (Operators.a_record fs) Operators.no_container e = let f = ap (λ p. p.0) e in absurd (cc)
containers_by_parts (Operators.an_entity d) (Operators.a_record gs) e = let f = ap (λ p. p.0) e in absurd (cc)
containers_by_parts (Operators.an_entity d) (Operators.an_entity d') e = some_inj (ap (λ p. p.1) e)
containers_by_parts (Operators.an_entity d) Operators.no_container e = let f = ap (λ p. p.1) e in absurd (cc)
containers_by_parts Operators.no_container (Operators.a_record gs) e = let f = ap (λ p. p.0) e in absurd (cc)
containers_by_parts Operators.no_container (Operators.an_entity d) e = let f = ap (λ p. p.1) e in absurd (cc)
containers_by_parts Operators.no_container Operators.no_container e = tt

alike_containers : (v w : Represented) → abstract_value v ≡ abstract_value w
    → AreAlikeContainers (Operators.container_of v) (Operators.container_of w)
alike_containers v w h =
    containers_by_parts (Operators.container_of v) (Operators.container_of w)
    (container_is v ∙ ap (λ a. (fields_of_value a, entity_of a)) h ∙ sym (container_is w))

value_if : (b : Bool) (v : Represented) (o : Option Represented)
    → cond b (Some (abstract_value v)) (option_map abstract_value o) ≡ option_map abstract_value (cond b (Some v) o)
value_if true v o = refl
value_if false v o = refl

-- the value at a key, with its representation or without
pub value_at-abstract_fields : (k : Text) (fs : RepresentedFields)
    → value_at k (abstract_fields fs) ≡ option_map abstract_value (Operators.represented_at k fs)
unfolding value_at Operators.represented_at
value_at-abstract_fields k no_represented_at = refl
value_at-abstract_fields k (one_represented_at l v fs) =
    ap (cond (text_eq k l) (Some (abstract_value v))) (value_at-abstract_fields k fs)
    ∙ value_if (text_eq k l) v (Operators.represented_at k fs)

alike_represented_at : (k : Text) (fs gs : RepresentedFields) → abstract_fields fs ≡ abstract_fields gs
    → option_map abstract_value (Operators.represented_at k fs)
    ≡ option_map abstract_value (Operators.represented_at k gs)
alike_represented_at k fs gs e =
    sym (value_at-abstract_fields k fs) ∙ ap (value_at k) e ∙ value_at-abstract_fields k gs

alike_found_values : (o p : Option Represented) (e f : Failure) → failure_kind e ≡ failure_kind f
    → option_map abstract_value o ≡ option_map abstract_value p
    → AreAlike (Operators.value_or_failure o e) (Operators.value_or_failure p f)
unfolding Operators.value_or_failure
alike_found_values None None e f h k = h
alike_found_values None (Some w) e f h k = absurd (cc)
alike_found_values (Some v) None e f h k = absurd (cc)
alike_found_values (Some v) (Some w) e f h k = some_inj k

alike_present : {A B : Type 0} (f : A → B) (o p : Option A) → option_map f o ≡ option_map f p → is_some o ≡ is_some p
alike_present f o p e = sym (is_some-option_map f o) ∙ ap is_some e ∙ is_some-option_map f p

attribute_in_alike : (s : Setting) (c d : Operators.Container) (e f : Failure) (k : Text)
    → failure_kind e ≡ failure_kind f → AreAlikeContainers c d
    → AreAlike (Operators.attribute_in s c e k) (Operators.attribute_in s d f k)
unfolding Operators.attribute_in failure_kind
attribute_in_alike s (Operators.a_record fs) (Operators.a_record gs) e f k h a =
    alike_found_values (Operators.represented_at k fs) (Operators.represented_at k gs) _ _ refl
    (alike_represented_at k fs gs a)
attribute_in_alike s (Operators.a_record fs) (Operators.an_entity d) e f k h a = absurd a
attribute_in_alike s (Operators.a_record fs) Operators.no_container e f k h a = absurd a
attribute_in_alike s (Operators.an_entity d) (Operators.a_record gs) e f k h a = absurd a
attribute_in_alike s (Operators.an_entity d) (Operators.an_entity d') e f k h a =
    alike_equal (Operators.attribute_found s.map (look_up s.store d) d k)
    (Operators.attribute_found s.map (look_up s.store d') d' k)
    (ap (λ x. Operators.attribute_found s.map (look_up s.store x) x k) a)
attribute_in_alike s (Operators.an_entity d) Operators.no_container e f k h a = absurd a
attribute_in_alike s Operators.no_container (Operators.a_record gs) e f k h a = absurd a
attribute_in_alike s Operators.no_container (Operators.an_entity d) e f k h a = absurd a
attribute_in_alike s Operators.no_container Operators.no_container e f k h a = h

pub attribute_alike : (s : Setting) (v w : Represented) (k : Text) → abstract_value v ≡ abstract_value w
    → AreAlike (Operators.attribute_answer s v k) (Operators.attribute_answer s w k)
unfolding failure_kind
attribute_alike s v w k h =
    attribute_in_alike s (Operators.container_of v) (Operators.container_of w) (Operators.container_expected v)
    (Operators.container_expected w) k refl (alike_containers v w h)

has_in_alike : (s : Store) (c d : Operators.Container) (e f : Failure) (k : Text) → failure_kind e ≡ failure_kind f
    → AreAlikeContainers c d → AreAlike (Operators.has_in s c e k) (Operators.has_in s d f k)
unfolding Operators.has_in
has_in_alike s (Operators.a_record fs) (Operators.a_record gs) e f k h a =
    ap (λ b. plain (bool_literal b))
    (alike_present abstract_value (Operators.represented_at k fs) (Operators.represented_at k gs)
    (alike_represented_at k fs gs a))
has_in_alike s (Operators.a_record fs) (Operators.an_entity d) e f k h a = absurd a
has_in_alike s (Operators.a_record fs) Operators.no_container e f k h a = absurd a
has_in_alike s (Operators.an_entity d) (Operators.a_record gs) e f k h a = absurd a
has_in_alike s (Operators.an_entity d) (Operators.an_entity d') e f k h a =
    alike_equal (Operators.has_found (look_up s d) d k) (Operators.has_found (look_up s d') d' k)
    (ap (λ x. Operators.has_found (look_up s x) x k) a)
has_in_alike s (Operators.an_entity d) Operators.no_container e f k h a = absurd a
has_in_alike s Operators.no_container (Operators.a_record gs) e f k h a = absurd a
has_in_alike s Operators.no_container (Operators.an_entity d) e f k h a = absurd a
has_in_alike s Operators.no_container Operators.no_container e f k h a = h

pub has_alike : (s : Setting) (v w : Represented) (k : Text) → abstract_value v ≡ abstract_value w
    → AreAlike (Operators.has_answer s v k) (Operators.has_answer s w k)
unfolding failure_kind
has_alike s v w k h =
    has_in_alike s.store (Operators.container_of v) (Operators.container_of w) (Operators.container_expected v)
    (Operators.container_expected w) k refl (alike_containers v w h)

last_in_alike : (s : Store) (c d : Operators.Container) (e f : Failure) (k : Text) → failure_kind e ≡ failure_kind f
    → AreAlikeContainers c d → AreAlike (Operators.last_in s c e k) (Operators.last_in s d f k)
unfolding Operators.last_in
last_in_alike s (Operators.a_record fs) (Operators.a_record gs) e f k h a =
    ap (λ b. plain (bool_literal b))
    (alike_present abstract_value (Operators.represented_at k fs) (Operators.represented_at k gs)
    (alike_represented_at k fs gs a))
last_in_alike s (Operators.a_record fs) (Operators.an_entity d) e f k h a = absurd a
last_in_alike s (Operators.a_record fs) Operators.no_container e f k h a = absurd a
last_in_alike s (Operators.an_entity d) (Operators.a_record gs) e f k h a = absurd a
last_in_alike s (Operators.an_entity d) (Operators.an_entity d') e f k h a =
    alike_equal (Operators.last_found (look_up s d) d k) (Operators.last_found (look_up s d') d' k)
    (ap (λ x. Operators.last_found (look_up s x) x k) a)
last_in_alike s (Operators.an_entity d) Operators.no_container e f k h a = absurd a
last_in_alike s Operators.no_container (Operators.a_record gs) e f k h a = absurd a
last_in_alike s Operators.no_container (Operators.an_entity d) e f k h a = absurd a
last_in_alike s Operators.no_container Operators.no_container e f k h a = h

abbrev pub AreAlikeSteps : Operators.Walk → Operators.Walk → Type 0
AreAlikeSteps (Operators.walks_on v) (Operators.walks_on w) = abstract_value v ≡ abstract_value w
AreAlikeSteps (Operators.walks_on v) (Operators.stops a) = ⊥
AreAlikeSteps (Operators.stops a) (Operators.walks_on v) = ⊥
AreAlikeSteps (Operators.stops a) (Operators.stops b) = AreAlike a b

alike_steps_refl : (x : Operators.Walk) → AreAlikeSteps x x
alike_steps_refl (Operators.walks_on v) = refl
alike_steps_refl (Operators.stops a) = alike-refl a

alike_step_to : (o p : Option Represented) → option_map abstract_value o ≡ option_map abstract_value p
    → AreAlikeSteps (Operators.walk_to o) (Operators.walk_to p)
unfolding Operators.walk_to
alike_step_to None None e = refl
alike_step_to None (Some w) e = absurd (cc)
alike_step_to (Some v) None e = absurd (cc)
alike_step_to (Some v) (Some w) e = some_inj e

step_in_alike : (s : Store) (c d : Operators.Container) (e f : Failure) (k l : Text) (ls : List Text)
    → failure_kind e ≡ failure_kind f → AreAlikeContainers c d
    → AreAlikeSteps (Operators.walk_in s c e k l ls) (Operators.walk_in s d f k l ls)
unfolding Operators.walk_in
step_in_alike s (Operators.a_record fs) (Operators.a_record gs) e f k l ls h a =
    alike_step_to (Operators.represented_at k fs) (Operators.represented_at k gs) (alike_represented_at k fs gs a)
step_in_alike s (Operators.a_record fs) (Operators.an_entity d) e f k l ls h a = absurd a
step_in_alike s (Operators.a_record fs) Operators.no_container e f k l ls h a = absurd a
step_in_alike s (Operators.an_entity d) (Operators.a_record gs) e f k l ls h a = absurd a
step_in_alike s (Operators.an_entity d) (Operators.an_entity d') e f k l ls h a =
    subst (λ x. AreAlikeSteps (Operators.walk_found (look_up s d) d k l ls)
    (Operators.walk_found (look_up s x) x k l ls)) a (alike_steps_refl (Operators.walk_found (look_up s d) d k l ls))
step_in_alike s (Operators.an_entity d) Operators.no_container e f k l ls h a = absurd a
step_in_alike s Operators.no_container (Operators.a_record gs) e f k l ls h a = absurd a
step_in_alike s Operators.no_container (Operators.an_entity d) e f k l ls h a = absurd a
step_in_alike s Operators.no_container Operators.no_container e f k l ls h a = h

-- a step from values that are alike
pub step_alike : (s : Store) (k l : Text) (ls : List Text) (v w : Represented) → abstract_value v ≡ abstract_value w
    → AreAlikeSteps (Operators.walk_in s (Operators.container_of v) (Operators.container_expected v) k l ls)
    (Operators.walk_in s (Operators.container_of w) (Operators.container_expected w) k l ls)
unfolding failure_kind
step_alike s k l ls v w h =
    step_in_alike s (Operators.container_of v) (Operators.container_of w) (Operators.container_expected v)
    (Operators.container_expected w) k l ls refl (alike_containers v w h)

after_step_alike : (x y : Operators.Walk) (next : Represented → Answer) → AreAlikeSteps x y
    → ((v w : Represented) → abstract_value v ≡ abstract_value w → AreAlike (next v) (next w))
    → AreAlike (Operators.after_walk x next) (Operators.after_walk y next)
unfolding Operators.after_walk
after_step_alike (Operators.walks_on v) (Operators.walks_on w) next h f = f v w h
after_step_alike (Operators.walks_on v) (Operators.stops a) next h f = absurd h
after_step_alike (Operators.stops a) (Operators.walks_on v) next h f = absurd h
after_step_alike (Operators.stops a) (Operators.stops b) next h f = h

pub path_alike : (s : Store) (k : Text) (ls : List Text) (v w : Represented) → abstract_value v ≡ abstract_value w
    → AreAlike (Operators.path_answer s v k ls) (Operators.path_answer s w k ls)
unfolding Operators.path_answer failure_kind
path_alike s k [] v w h =
    last_in_alike s (Operators.container_of v) (Operators.container_of w) (Operators.container_expected v)
    (Operators.container_expected w) k refl (alike_containers v w h)
path_alike s k (l ∷ ls) v w h =
    after_step_alike (Operators.walk_in s (Operators.container_of v) (Operators.container_expected v) k l ls)
    (Operators.walk_in s (Operators.container_of w) (Operators.container_expected w) k l ls)
    (λ u. Operators.path_answer s u l ls)
    (step_in_alike s (Operators.container_of v) (Operators.container_of w) (Operators.container_expected v)
    (Operators.container_expected w) k l ls refl (alike_containers v w h)) (path_alike s l ls)

-- ---- operators on parts

differ_alike : (op : BinaryOperator) (p p' q q' : PartialValue) → AreAlikeParts p p' → AreAlikeParts q q'
    → Rules.differ_by_type op p q ≡ Rules.differ_by_type op p' q'
unfolding Rules.differ_by_type
differ_alike eq_operator p p' q q' h k = λ i. Rules.are_apart (alike_types p p' h i) (alike_types q q' k i)
differ_alike less_operator p p' q q' h k = refl
differ_alike less_eq_operator p p' q q' h k = refl
differ_alike add_operator p p' q q' h k = refl
differ_alike sub_operator p p' q q' h k = refl
differ_alike mul_operator p p' q q' h k = refl
differ_alike in_operator p p' q q' h k = refl
differ_alike contains_operator p p' q q' h k = refl
differ_alike contains_all_operator p p' q q' h k = refl
differ_alike contains_any_operator p p' q q' h k = refl
differ_alike get_tag_operator p p' q q' h k = refl
differ_alike has_tag_operator p p' q q' h k = refl

kept_by : (b : Bool) (r q : Term) → erased r ≡ erased q
    → AreAlike (cond b (answers_bool false) (answers_residual r)) (cond b (answers_bool false) (answers_residual q))
kept_by true r q h = refl
kept_by false r q h = h

kept_alike : (op : BinaryOperator) (p p' q q' : PartialValue) → AreAlikeParts p p' → AreAlikeParts q q'
    → AreAlike (Rules.kept_binary op p q) (Rules.kept_binary op p' q')
kept_alike op p p' q q' h k =
    rw (differ_alike op p p' q q' h k)
    (kept_by (Rules.differ_by_type op p' q') (binary op (part_expression p) (part_expression q))
    (binary op (part_expression p') (part_expression q'))
    (λ i. binary op (alike_part_expressions p p' h i) (alike_part_expressions q q' k i)))

pub binary_parts_alike : (s : Setting) (op : BinaryOperator) (p p' q q' : PartialValue) → AreAlikeParts p p'
    → AreAlikeParts q q' → AreAlike (Rules.binary_of_parts s op p q) (Rules.binary_of_parts s op p' q')
unfolding Rules.binary_of_parts
binary_parts_alike s op (value v) (value v') (value w) (value w') h k = binary_alike s op v v' w w' h k
binary_parts_alike s op (value v) (value v') (value w) (residual r) h k = absurd k
binary_parts_alike s op (value v) (value v') (residual r) (value w') h k = absurd k
binary_parts_alike s op (value v) (value v') (residual r) (residual r') h k =
    kept_alike op (value v) (value v') (residual r) (residual r') h k
binary_parts_alike s op (value v) (residual r) q q' h k = absurd h
binary_parts_alike s op (residual r) (value v) q q' h k = absurd h
binary_parts_alike s op (residual r) (residual r') (value w) (value w') h k =
    kept_alike op (residual r) (residual r') (value w) (value w') h k
binary_parts_alike s op (residual r) (residual r') (value w) (residual q) h k = absurd k
binary_parts_alike s op (residual r) (residual r') (residual q) (value w) h k = absurd k
binary_parts_alike s op (residual r) (residual r') (residual q) (residual q') h k =
    kept_alike op (residual r) (residual r') (residual q) (residual q') h k

pub on_part_alike : (f f' : Represented → Answer) (h h' : Term → Term)
    → ((v w : Represented) → abstract_value v ≡ abstract_value w → AreAlike (f v) (f' w))
    → ((r q : Term) → erased r ≡ erased q → erased (h r) ≡ erased (h' q)) → (x y : Answer) → AreAlike x y
    → AreAlike (Rules.on_part f h x) (Rules.on_part f' h' y)
unfolding Rules.on_part
on_part_alike f f' h h' F H (answers (value v)) (answers (value w)) a = F v w a
on_part_alike f f' h h' F H (answers (value v)) (answers (residual r)) a = absurd a
on_part_alike f f' h h' F H (answers (residual r)) (answers (value w)) a = absurd a
on_part_alike f f' h h' F H (answers (residual r)) (answers (residual q)) a = H r q a
on_part_alike f f' h h' F H (answers p) (fails e) a = absurd a
on_part_alike f f' h h' F H (fails e) (answers p) a = absurd a
on_part_alike f f' h h' F H (fails e) (fails f₂) a = a

is_annotated_alike : (o : Option Text) (r q : Term) (t : Text) → erased r ≡ erased q
    → AreAlike (Rules.is_annotated o r t) (Rules.is_annotated o q t)
unfolding Rules.is_annotated
is_annotated_alike None r q t h = ap (λ x. is_of_type x t) h
is_annotated_alike (Some u) r q t h = refl

pub is_part_alike : (t : Text) (x y : Answer) → AreAlike x y → AreAlike (Rules.is_part t x) (Rules.is_part t y)
unfolding Rules.is_part
is_part_alike t (answers (value v)) (answers (value w)) a = is_alike t v w a
is_part_alike t (answers (value v)) (answers (residual r)) a = absurd a
is_part_alike t (answers (residual r)) (answers (value w)) a = absurd a
is_part_alike t (answers (residual r)) (answers (residual q)) a =
    rw (alike_residual_types r q a) (is_annotated_alike (Rules.entity_type_of_residual q) r q t a)
is_part_alike t (answers p) (fails e) a = absurd a
is_part_alike t (fails e) (answers p) a = absurd a
is_part_alike t (fails e) (fails f) a = a

has_fields_alike : (o p : Option Fields) (b c : Bool) (r q : Term) (k : Text)
    → option_map erased_at o ≡ option_map erased_at p → b ≡ c → erased r ≡ erased q
    → AreAlike (Rules.has_in_fields o b r k) (Rules.has_in_fields p c q k)
unfolding Rules.has_in_fields
has_fields_alike None None b c r q k e f h = ap (λ x. has_attribute x k) h
has_fields_alike None (Some gs) b c r q k e f h = absurd (cc)
has_fields_alike (Some fs) None b c r q k e f h = absurd (cc)
has_fields_alike (Some fs) (Some gs) true true r q k e f h =
    ap (λ x. plain (bool_literal x))
    (alike_present erased (Operators.term_at k fs) (Operators.term_at k gs) (alike_term_at k fs gs (some_inj e)))
has_fields_alike (Some fs) (Some gs) true false r q k e f h = absurd (cc)
has_fields_alike (Some fs) (Some gs) false true r q k e f h = absurd (cc)
has_fields_alike (Some fs) (Some gs) false false r q k e f h = ap (λ x. has_attribute x k) h

pub has_part_alike : (s : Setting) (k : Text) (x y : Answer) → AreAlike x y
    → AreAlike (Rules.has_part s k x) (Rules.has_part s k y)
unfolding Rules.has_part
has_part_alike s k (answers (value v)) (answers (value w)) a = has_alike s v w k a
has_part_alike s k (answers (value v)) (answers (residual r)) a = absurd a
has_part_alike s k (answers (residual r)) (answers (value w)) a = absurd a
has_part_alike s k (answers (residual r)) (answers (residual q)) a =
    has_fields_alike (Rules.fields_of_record r) (Rules.fields_of_record q) (is_projectable r) (is_projectable q) r q k
    (alike_fields r q a) (alike_projectable r q a) a
has_part_alike s k (answers p) (fails e) a = absurd a
has_part_alike s k (fails e) (answers p) a = absurd a
has_part_alike s k (fails e) (fails f) a = a

bool_or_failure_alike : (v w : Represented) → abstract_value v ≡ abstract_value w
    → AreAlike (Rules.bool_or_failure (bool_of (abstract_value v)) v)
    (Rules.bool_or_failure (bool_of (abstract_value w)) w)
unfolding Rules.bool_or_failure failure_kind
bool_or_failure_alike v w h = rw h (by (bool_of (abstract_value w)))
  where
    by : (o : Option Bool) → AreAlike (Rules.bool_or_failure o v) (Rules.bool_or_failure o w)
    by None = refl
    by (Some b) = refl

pub joined_alike : (with_left with_left' : Term → Term)
    → ((r q : Term) → erased r ≡ erased q → erased (with_left r) ≡ erased (with_left' q)) → (x y : Answer)
    → AreAlike x y → AreAlike (Rules.joined with_left x) (Rules.joined with_left' y)
unfolding Rules.joined
joined_alike h h' H (answers (value v)) (answers (value w)) a = bool_or_failure_alike v w a
joined_alike h h' H (answers (value v)) (answers (residual r)) a = absurd a
joined_alike h h' H (answers (residual r)) (answers (value w)) a = absurd a
joined_alike h h' H (answers (residual r)) (answers (residual q)) a = H r q a
joined_alike h h' H (answers p) (fails e) a = absurd a
joined_alike h h' H (fails e) (answers p) a = absurd a
joined_alike h h' H (fails e) (fails f) a = a

-- ---- parts in order

abbrev AreAlikeLists : List PartialValue → List PartialValue → Type 0
AreAlikeLists [] [] = Unit {0}
AreAlikeLists [] (q ∷ qs) = ⊥
AreAlikeLists (p ∷ ps) [] = ⊥
AreAlikeLists (p ∷ ps) (q ∷ qs) = AreAlikeParts p q × AreAlikeLists ps qs

abbrev pub AreAlikeResults : Result (List PartialValue) Failure → Result (List PartialValue) Failure → Type 0
AreAlikeResults (Ok ps) (Ok qs) = AreAlikeLists ps qs
AreAlikeResults (Ok ps) (Err e) = ⊥
AreAlikeResults (Err e) (Ok ps) = ⊥
AreAlikeResults (Err e) (Err f) = failure_kind e ≡ failure_kind f

pub part_then_alike : (p q : PartialValue) (r z : Result (List PartialValue) Failure) → AreAlikeParts p q
    → AreAlikeResults r z → AreAlikeResults (Rules.part_then p r) (Rules.part_then q z)
unfolding Rules.part_then
part_then_alike p q (Ok ps) (Ok qs) h k = (h, k)
part_then_alike p q (Ok ps) (Err e) h k = absurd k
part_then_alike p q (Err e) (Ok ps) h k = absurd k
part_then_alike p q (Err e) (Err f) h k = k

add_value_alike : (p q : PartialValue) (o z : Option (List Represented)) → AreAlikeParts p q
    → option_map (map abstract_value) o ≡ option_map (map abstract_value) z
    → option_map (map abstract_value) (Rules.add_value p o) ≡ option_map (map abstract_value) (Rules.add_value q z)
unfolding Rules.add_value
add_value_alike (value v) (value w) None None h k = refl
add_value_alike (value v) (value w) None (Some ws) h k = absurd (cc)
add_value_alike (value v) (value w) (Some vs) None h k = absurd (cc)
add_value_alike (value v) (value w) (Some vs) (Some ws) h k =
    let e : map abstract_value vs ≡ map abstract_value ws = some_inj k in λ i. Some (h i ∷ e i)
add_value_alike (value v) (residual r) o z h k = absurd h
add_value_alike (residual r) (value v) o z h k = absurd h
add_value_alike (residual r) (residual q) o z h k = refl

pub values_alike : (ps qs : List PartialValue) → AreAlikeLists ps qs
    → option_map (map abstract_value) (Rules.values_of_parts ps)
    ≡ option_map (map abstract_value) (Rules.values_of_parts qs)
unfolding Rules.values_of_parts
values_alike [] [] h = refl
values_alike [] (q ∷ qs) h = absurd h
values_alike (p ∷ ps) [] h = absurd h
values_alike (p ∷ ps) (q ∷ qs) h =
    add_value_alike p q (Rules.values_of_parts ps) (Rules.values_of_parts qs) h.0 (values_alike ps qs h.1)

terms_alike : (ps qs : List PartialValue) → AreAlikeLists ps qs
    → erased_each (Rules.terms_of_parts ps) ≡ erased_each (Rules.terms_of_parts qs)
terms_alike [] [] h = refl
terms_alike [] (q ∷ qs) h = absurd h
terms_alike (p ∷ ps) [] h = absurd h
terms_alike (p ∷ ps) (q ∷ qs) h = λ i. one_term (alike_part_expressions p q h.0 i) (terms_alike ps qs h.1 i)

set_parts_alike : (o z : Option (List Represented)) (ps qs : List PartialValue)
    → option_map (map abstract_value) o ≡ option_map (map abstract_value) z → AreAlikeLists ps qs
    → AreAlike (Rules.set_of_parts o ps) (Rules.set_of_parts z qs)
unfolding Rules.set_of_parts
set_parts_alike None None ps qs e h = ap set_of (terms_alike ps qs h)
set_parts_alike None (Some ws) ps qs e h = absurd (cc)
set_parts_alike (Some vs) None ps qs e h = absurd (cc)
set_parts_alike (Some vs) (Some ws) ps qs e h =
    ap set_value (abstract_values-canonical_set vs ∙ ap abstract_set (some_inj e)
    ∙ sym (abstract_values-canonical_set ws))

pub set_answer_alike : (r z : Result (List PartialValue) Failure) → AreAlikeResults r z
    → AreAlike (Rules.set_answer r) (Rules.set_answer z)
unfolding Rules.set_answer
set_answer_alike (Ok ps) (Ok qs) h =
    set_parts_alike (Rules.values_of_parts ps) (Rules.values_of_parts qs) ps qs (values_alike ps qs h) h
set_answer_alike (Ok ps) (Err e) h = absurd h
set_answer_alike (Err e) (Ok ps) h = absurd h
set_answer_alike (Err e) (Err f) h = h
