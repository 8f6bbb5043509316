-- What is told of a condition is what is told of the expression that it stands for, and so what that means.
use Rattle.std.specs.Prelude.{not, ◌||◌, option_map}
use Rattle.std.specs.declared.cmp.Ordering.{Ordering}
use Rattle.std.specs.Ordering.{is_lt, is_le}
use Rattle.std.proofs.Math.Bool.{or-false}
use Rattle.std.proofs.Common.{◌≡◌, ◌∙◌, Bool, true, false, cond, ◌&&◌, Option, Some, None, refl, sym}
use Rattle.std.specs.Rc.{rc_str_bytes}
use Rattle.std.specs.Str.{chars}
use Rattle.cedar_model.specs.Terms.{Text, EntityName, bool_literal, long_literal, text_literal, entity_literal, ValueType}
use Rattle.cedar_model.specs.Terms.{Term, unknown, not_operator}
use Rattle.cedar_model.specs.Values.{AbstractValue, plain, set_value, record_value, extension_value, Represented}
use Rattle.cedar_model.specs.Values.{plain_represented, set_represented, record_represented, extension_represented}
use Rattle.cedar_model.specs.Values.{expression_of}
use Rattle.cedar_model.specs.Outcomes.{gives, errs, gives_bool, needing, bool_of, text_eq, entity_eq, entity_of}
use Rattle.cedar_model.specs.Outcomes.{elements_of, text_of, matches}
use Rattle.cedar_model.specs.Sets.{has_value}
use Rattle.cedar_model.specs.Meaning.{meaning, and_then_bool, unary_meaning, entities_of, some_entity}
use Rattle.cedar_model.specs.Settings.{StoredEntity, is_among}
use Rattle.cedar_model.specs.World.{World, Slots, Extensions, Functions}
use Rattle.cedar_names.specs.EqualityLaws.{text_eq-decides}
use Rattle.cedar_names.specs.Names.{uid_name, type_text}
use Rattle.cedar_names.specs.Leaves.{pattern_view, type_view}
use Rattle.cedar_filter.specs.declared.conditions.Operand.{Operand}
use Rattle.cedar_filter.specs.declared.conditions.Operand.TheVariants as operands
use Rattle.cedar_filter.specs.declared.conditions.Comparison.{Comparison}
use Rattle.cedar_filter.specs.declared.conditions.Comparison.TheVariants.{Equal, Less, LessEq}
use Rattle.cedar_filter.specs.declared.conditions.Condition.{Condition}
use Rattle.cedar_filter.specs.declared.conditions.Condition.TheVariants.{Known, And', Or', Not', If', Holds, Compare}
use Rattle.cedar_filter.specs.declared.conditions.Condition.TheVariants.{In, Has, Like, Is, Contains}
use Rattle.cedar_filter.specs.declared.truths.Truth.{Truth}
use Rattle.cedar_filter.specs.declared.truths.Truth.TheVariants as truths
use Rattle.cedar_filter.specs.Rows.{Told, tells, untold, told_then, told_needing, told_bool, tells_bool, is_extension}
use Rattle.cedar_filter.specs.Rows.{comparison_told, attribute_told, has_told, in_told, binary_told, told, condition_told}
use Rattle.cedar_filter.specs.Rows.{HasRow}
use Rattle.cedar_filter.specs.Conditions.{operator_of, operand_term, condition_term, known_told, compared_told}
use Rattle.cedar_filter.specs.Conditions.{contains_told, operand_told, within_told, condition_says}
use Rattle.cedar_filter.specs.Truths.{truth_told}
use Rattle.cedar_layers.specs.Stores.{entity_name, entity_view}
use Rattle.cedar_layers.specs.declared.policies.entities.Entity.{Entity}
use Rattle.cedar_filter.specs.declared.filters.Filter.{Filter}
use Rattle.cedar_filter.specs.Filters.{filter_term, IsToldOf}
use Rattle.cedar_filter.proofs.Telling.{follows, bool_follows, tells_follows, Follows}

-- ---- what is a truth already

-- a truth or an error, or nothing
abbrev IsTruth : Told → Type 0
IsTruth r = told_bool r tells_bool ≡ r

then_truth : (r : Told) (next : AbstractValue → Told) → ((v : AbstractValue) → IsTruth (next v)) → IsTruth (told_then r next)
then_truth (tells (gives v)) next h = h v
then_truth (tells (errs e)) next h = refl
then_truth untold next h = refl

needing_truth : {A : Type 0} (q : Option A) (next : A → Told) → ((y : A) → IsTruth (next y)) → IsTruth (told_needing q next)
needing_truth None next h = refl
needing_truth (Some y) next h = h y

bool_truth : (b : Bool) → IsTruth (tells_bool b)
unfolding bool_of
bool_truth b = refl

where_truth : (b : Bool) (r : Told) → IsTruth r → IsTruth (cond b r untold)
where_truth true r h = h
where_truth false r h = refl

unless_truth : (b : Bool) (r : Told) → IsTruth r → IsTruth (cond b untold r)
unless_truth true r h = refl
unless_truth false r h = h

order_truth : (test : Ordering → Bool) (o : Option Ordering) → IsTruth (tells (needing o (λ p. gives_bool (test p))))
unfolding needing bool_of
order_truth test None = refl
order_truth test (Some p) = refl

comparison_truth : (test : Ordering → Bool) (u v : AbstractValue) → IsTruth (comparison_told test u v)
comparison_truth test u v = unless_truth (is_extension u && is_extension v) _ (order_truth test _)

compared_truth : (c : Comparison) (u v : AbstractValue) → IsTruth (compared_told c u v)
compared_truth Equal u v = bool_truth _
compared_truth Less u v = comparison_truth is_lt u v
compared_truth LessEq u v = comparison_truth is_le u v

-- what is asked of a truth once more
normal : (r : Told) → IsTruth (told_bool r tells_bool)
normal r = then_truth r _ (λ v. needing_truth (bool_of v) _ bool_truth)

-- ---- connectives

choice : (q : Option Bool) (s t : Told) → IsTruth s → IsTruth t →
    told_bool (told_needing q (λ b. cond b s t)) tells_bool ≡ told_bool (told_needing q tells_bool) (λ b. cond b s t)
unfolding bool_of
choice None s t g h = refl
choice (Some true) s t g h = g
choice (Some false) s t g h = h

chosen : (r s t : Told) → IsTruth s → IsTruth t →
    told_bool (told_bool r (λ b. cond b s t)) tells_bool ≡ told_bool (told_bool r tells_bool) (λ b. cond b s t)
chosen (tells (gives v)) s t g h = choice (bool_of v) s t g h
chosen (tells (errs e)) s t g h = refl
chosen untold s t g h = refl

-- a choice between what are no truths yet
choice_made : (q : Option Bool) (s t : Told) →
    told_bool (told_needing q (λ b. cond b s t)) tells_bool
    ≡ told_bool (told_needing q tells_bool) (λ b. cond b (told_bool s tells_bool) (told_bool t tells_bool))
unfolding bool_of
choice_made None s t = refl
choice_made (Some true) s t = refl
choice_made (Some false) s t = refl

if_made : (r s t : Told) →
    told_bool (told_bool r (λ b. cond b s t)) tells_bool
    ≡ told_bool (told_bool r tells_bool) (λ b. cond b (told_bool s tells_bool) (told_bool t tells_bool))
if_made (tells (gives v)) s t = choice_made (bool_of v) s t
if_made (tells (errs e)) s t = refl
if_made untold s t = refl

not_needed : (q : Option Bool) →
    told_bool (tells (needing q (λ b. gives_bool (not b)))) tells_bool ≡ told_bool (told_needing q tells_bool) (λ b. tells_bool (not b))
unfolding needing bool_of
not_needed None = refl
not_needed (Some b) = refl

not_made : (r : Told) →
    told_bool (told_then r (λ v. tells (unary_meaning not_operator v))) tells_bool ≡ told_bool (told_bool r tells_bool) (λ b. tells_bool (not b))
unfolding unary_meaning
not_made (tells (gives v)) = not_needed (bool_of v)
not_made (tells (errs e)) = refl
not_made untold = refl

-- ---- the whole

module _ (n : Text) (a : Option ValueType) (e : EntityName) (x : StoredEntity) where
  known_is_told : (v : Represented) → told n e x (expression_of v) ≡ known_told v
  known_is_told (plain_represented l) = refl
  known_is_told (set_represented vs) = refl
  known_is_told (record_represented fs) = refl
  known_is_told (extension_represented t k f ts) = refl

  row_told : (b : Bool) → b ≡ true → cond b (tells (gives (plain (entity_literal e)))) untold ≡ tells (gives (plain (entity_literal e)))
  row_told true is = refl
  row_told false is = absurd (cc)

  operand_is_told : (o : Operand) → told n e x (operand_term (unknown n a) o) ≡ operand_told e x o
  operand_is_told (operands.Known v) = known_is_told v.what
  operand_is_told operands.Row = row_told (text_eq n n) ((text_eq-decides n n).1 refl)
  operand_is_told (operands.Attribute' p o k) = λ i. told_then (operand_is_told o i) (λ v. attribute_told e x v (rc_str_bytes k))

  has_truth : (v : AbstractValue) (k : Text) → IsTruth (has_told e x v k)
  unfolding bool_of
  has_truth (plain (bool_literal b)) k = refl
  has_truth (plain (long_literal i)) k = refl
  has_truth (plain (text_literal t)) k = refl
  has_truth (plain (entity_literal d)) k = where_truth (entity_eq d e) _ (bool_truth _)
  has_truth (set_value vs) k = refl
  has_truth (record_value fs) k = bool_truth _
  has_truth (extension_value t j) k = refl

  within_truth : (b : EntityName) (u : AbstractValue) → IsTruth (within_told e x b u)
  within_truth b u = needing_truth (entity_of u) _ (λ d. where_truth (entity_eq d e) _ (bool_truth _))

  contains_truth : (u : AbstractValue) (v : Represented) → IsTruth (contains_told u v)
  contains_truth u v = then_truth (known_told v) _ (λ z. needing_truth (elements_of u) _ (λ us. bool_truth _))

  operator_told : (c : Comparison) (u v : AbstractValue) → binary_told e x (operator_of c) u v ≡ compared_told c u v
  operator_told Equal u v = refl
  operator_told Less u v = refl
  operator_told LessEq u v = refl

  in_within : (b : EntityName) (u : AbstractValue) → in_told e x u (plain (entity_literal b)) ≡ within_told e x b u
  unfolding entities_of some_entity
  in_within b u = λ i. told_needing (entity_of u) (λ d. cond (entity_eq d e) (tells_bool (or-false (entity_eq d b || is_among b x.ancestors) i)) untold)

  pub says_told : (c : Condition) → condition_told n e x (condition_term (unknown n a) c) ≡ condition_says e x c
  says_told (Known b) = bool_truth b
  says_told (And' p s q t) =
      chosen (told n e x (condition_term (unknown n a) s)) _ _ (normal (told n e x (condition_term (unknown n a) t))) (bool_truth false)
      ∙ (λ i. told_bool (says_told s i) (λ b. cond b (says_told t i) (tells_bool false)))
  says_told (Or' p s q t) =
      chosen (told n e x (condition_term (unknown n a) s)) _ _ (bool_truth true) (normal (told n e x (condition_term (unknown n a) t)))
      ∙ (λ i. told_bool (says_told s i) (λ b. cond b (tells_bool true) (says_told t i)))
  says_told (Not' p s) =
      not_made (told n e x (condition_term (unknown n a) s)) ∙ (λ i. told_bool (says_told s i) (λ b. tells_bool (not b)))
  says_told (If' p c q s r t) =
      if_made (told n e x (condition_term (unknown n a) c)) _ _
      ∙ (λ i. told_bool (says_told c i) (λ b. cond b (says_told s i) (says_told t i)))
  says_told (Holds o) = λ i. told_bool (operand_is_told o i) tells_bool
  says_told (Compare c o q) =
      (λ i. told_bool (told_then (operand_is_told o i) (λ u. told_then (operand_is_told q i) (λ v. operator_told c u v i))) tells_bool)
      ∙ then_truth (operand_told e x o) _ (λ u. then_truth (operand_told e x q) _ (compared_truth c u))
  says_told (In o u) =
      (λ i. told_bool (told_then (operand_is_told o i) (λ v. in_within (uid_name u.value) v i)) tells_bool)
      ∙ then_truth (operand_told e x o) _ (within_truth (uid_name u.value))
  says_told (Has o k) =
      (λ i. told_bool (told_then (operand_is_told o i) (λ v. has_told e x v (rc_str_bytes k))) tells_bool)
      ∙ then_truth (operand_told e x o) _ (λ v. has_truth v (rc_str_bytes k))
  says_told (Like o p) =
      (λ i. told_bool (told_then (operand_is_told o i) (λ v. told_needing (text_of v) (λ t. tells_bool (matches (pattern_view p) (chars t))))) tells_bool)
      ∙ then_truth (operand_told e x o) _ (λ v. needing_truth (text_of v) _ (λ t. bool_truth _))
  says_told (Is o t) =
      (λ i. told_bool (told_then (operand_is_told o i) (λ v. told_needing (entity_of v) (λ d. tells_bool (text_eq d.type_name (type_text t))))) tells_bool)
      ∙ then_truth (operand_told e x o) _ (λ v. needing_truth (entity_of v) _ (λ d. bool_truth _))
  says_told (Contains o v) =
      (λ i. told_bool (told_then (operand_is_told o i) (λ u. told_then (known_is_told v.what i) (λ z. told_needing (elements_of u) (λ us. tells_bool (has_value z us))))) tells_bool)
      ∙ then_truth (operand_told e x o) _ (λ u. contains_truth u v.what)

-- ---- what a truth says

module _ (n : Text) (e : EntityName) (x : StoredEntity) (t : Term) where
  condition_follows : (X : Extensions) (ans : Functions) (w : World) (slots : Slots) → HasRow X ans w n e x →
      Follows (condition_told n e x t) (and_then_bool (meaning X ans w slots t) gives_bool)
  condition_follows X ans w slots h =
      bool_follows (told n e x t) (meaning X ans w slots t) tells_bool gives_bool (follows X ans w slots n e x h t) (λ b. tells_follows (gives_bool b))

  pub truth_is_told : (r : Truth) → truth_told r ≡ condition_told n e x t → IsToldOf n e x t r
  truth_is_told truths.Holds is = λ X ans w slots h. condition_follows X ans w slots h (gives_bool true) (sym is)
  truth_is_told truths.Fails is = λ X ans w slots h. condition_follows X ans w slots h (gives_bool false) (sym is)
  truth_is_told (truths.Errs k) is = λ X ans w slots h. condition_follows X ans w slots h _ (sym is)
  truth_is_told truths.Untold is = λ X ans w slots h. tt

-- the same of a filter and a row
pub filter_told : (f : Filter) (d : Entity) (r : Truth) → truth_told r ≡ condition_says (entity_name d) (entity_view d) f.condition →
    truth_told r ≡ condition_told (rc_str_bytes f.row.name) (entity_name d) (entity_view d) (filter_term f)
filter_told f d r is =
    is ∙ sym (says_told (rc_str_bytes f.row.name) (option_map type_view f.row.type_annotation) (entity_name d) (entity_view d) f.condition)

pub filter_means : (f : Filter) (d : Entity) (r : Truth) → truth_told r ≡ condition_says (entity_name d) (entity_view d) f.condition →
    IsToldOf (rc_str_bytes f.row.name) (entity_name d) (entity_view d) (filter_term f) r
filter_means f d r is =
    truth_is_told (rc_str_bytes f.row.name) (entity_name d) (entity_view d) (filter_term f) r (filter_told f d r is)
