-- An answer that computes is allowed.
use Rattle.std.specs.Prelude.{◌≡◌, ◌≢◌, ℕ, Bool, true, Option}
use Rattle.std.proofs.Common.{refl, subst}
use Rattle.cedar_model.specs.Terms.{Text, Term}
use Rattle.cedar_model.specs.Outcomes
use Rattle.cedar_model.specs.World
use Rattle.cedar_model.specs.Meaning
use Rattle.cedar_model.specs.Failures
use Rattle.cedar_model.specs.Settings
use Rattle.cedar_model.specs.Operators
use Rattle.cedar_model.specs.Rules
use Rattle.cedar_model.specs.Agreement
use Rattle.cedar_model.specs.examples.Setting.{some_setting, some_extensions, some_calls}
use Rattle.cedar_model.specs.laws.Levels.{FunctionsAnswer}
use Rattle.cedar_model.proofs.Total.{total}

abbrev pub some_answer : (arity : Text → Option ℕ) → FunctionsAnswer some_calls arity
some_answer arity f vs e = (Failures.answers_bool true, refl)

-- all that the rules compute with
unfoldable pub opened : Unit {0}
unfolding Outcomes.and_then Outcomes.needing Outcomes.bool_of Outcomes.long_of Outcomes.text_of Outcomes.entity_of
    Outcomes.elements_of Outcomes.fields_of_value Outcomes.value_type Outcomes.type_eq Outcomes.has_text
    Outcomes.value_at Outcomes.is_long Outcomes.some_end Outcomes.matches Outcomes.escaped World.variable_value
    Meaning.is_empty Meaning.unary_meaning Meaning.extension_order Meaning.order_of Meaning.has_each Meaning.has_some
    Meaning.add_entity Meaning.entities_of_set Meaning.entities_of Meaning.some_entity Meaning.has_ancestor
    Failures.failure_kind Failures.part_expression Settings.type_annotation Settings.entry_part Settings.context_value
    Settings.variable_part Settings.part_at Settings.is_among Settings.found_in Operators.expecting
    Operators.slot_answer Operators.typed_value Operators.mapped Operators.unary_answer Operators.overloaded_type
    Operators.order_failure Operators.unless_entity Operators.element_failure Operators.entities_failure
    Operators.in_found Operators.stored_tag Operators.tag_found Operators.has_tag_found Operators.binary_answer
    Operators.represented_at Operators.term_at Operators.represented_names Operators.field_names Operators.container_of
    Operators.value_or_failure Operators.stored_attribute Operators.attribute_found Operators.attribute_in
    Operators.has_found Operators.has_in Operators.walk_to Operators.walk_to_stored Operators.walk_found
    Operators.walk_in Operators.last_found Operators.last_in Operators.after_walk Operators.path_answer
    Operators.residual_in Operators.attribute_residual_found Operators.tag_residual_found
    Operators.attribute_residual_of Operators.tag_residual_of Operators.binary_residual Rules.beside_residual
    Rules.best_of_kind Rules.best Rules.bool_or_failure Rules.joined Rules.on_part Rules.annotated_type
    Rules.entity_type_of_residual Rules.type_of_entity Rules.entity_type_of Rules.are_apart Rules.differ_by_type
    Rules.binary_of_parts Rules.binary_beside Rules.is_annotated Rules.is_part Rules.fields_of_record
    Rules.has_in_fields Rules.has_part Rules.part_then Rules.field_part_then Rules.add_value Rules.values_of_parts
    Rules.add_value_at Rules.values_of_field_parts Rules.set_of_parts Rules.set_answer Rules.record_of_parts
    Rules.record_answer
opened = tt

abbrev pub answer_at : Bool → ℕ → Term → Failures.Answer
answer_at is_partial n t = (total (some_setting is_partial) some_calls (some_answer some_extensions.arity) n t).0

pub computed_at : (is_partial : Bool) (n : ℕ) (t : Term) (a : Failures.Answer) → answer_at is_partial n t ≡ a
    → Rules.Runs (some_setting is_partial) some_calls n t a
computed_at is_partial n t a e =
    subst (Rules.Runs (some_setting is_partial) some_calls n t) e
    (total (some_setting is_partial) some_calls (some_answer some_extensions.arity) n t).1

pub computed : (is_partial : Bool) (n : ℕ) (t : Term) (a : Failures.Answer) → answer_at is_partial n t ≡ a
    → a ≢ Failures.limit → Rules.Allows (some_setting is_partial) some_calls t a
computed is_partial n t a e ne = (
  ne,
  n,
  subst (Rules.Runs (some_setting is_partial) some_calls n t) e
      (total (some_setting is_partial) some_calls (some_answer some_extensions.arity) n t).1,
)

-- all that the meaning computes with
unfoldable pub meaning_opened : Unit {0}
unfolding opened Meaning.or_errs Meaning.tag_meaning Meaning.has_tag_meaning Meaning.binary_meaning
    Meaning.entity_attribute Meaning.entity_has Meaning.attribute_meaning Meaning.has_meaning Meaning.has_path
    Meaning.function_meaning Meaning.call_meaning Meaning.value_then Meaning.field_then Meaning.and_then_all
    Meaning.slot_meaning Meaning.meaning Agreement.entity_of_entry Agreement.fields_of_context Agreement.value_of_part
    Agreement.world_entity
meaning_opened = tt
