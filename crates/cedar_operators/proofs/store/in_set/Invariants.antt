use Rattle.std.proofs.Common.{◌≡◌, drop, option_map, option_copied}
use Rattle.cedar_model.specs.Values.{set_value, abstract_values}
use Rattle.cedar_names.specs.Names.{uid_name}
use Rattle.cedar_layers.specs.Stores.{entity_view}
use Rattle.cedar_operators.specs.Operands.{element_answer, is_within, right_expected}
use Rattle.cedar_operators.proofs.Elements.{elements_in, answer_from}
use Rattle.cedar_operators.proofs.store.in_set.Given as goal

abbrev pub invariant-elements : goal.invariant-elements
invariant-elements l =
    answer_from l.is_found (is_within (uid_name l.fn.uid) (option_map entity_view (option_copied l.fn.entity))) (right_expected (set_value (abstract_values l.fn.set.all))) (elements_in (drop l.element-index l.element-items)) ≡ element_answer (is_within (uid_name l.fn.uid) (option_map entity_view (option_copied l.fn.entity))) (right_expected (set_value (abstract_values l.fn.set.all))) (abstract_values l.fn.set.all)
