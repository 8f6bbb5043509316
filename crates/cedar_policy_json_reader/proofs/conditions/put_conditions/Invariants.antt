use Rattle.std.proofs.Common.{◌≡◌, ◌++◌, drop, map}
use Rattle.json.specs.Value.{items_view}
use Rattle.cedar_expressions.specs.View.{view}
use Rattle.cedar_functions.specs.Functions.{knowledge}
use Rattle.cedar_policy_json_reader.specs.Expressions.{expression_said}
use Rattle.cedar_policy_json_reader.specs.Policies.{conditions_from}
use Rattle.cedar_policy_json_reader.specs.Refusals.{made_of}
use Rattle.cedar_policy_json_reader.proofs.conditions.put_conditions.Given as goal

abbrev pub invariant-items : goal.invariant-items
invariant-items l =
    (l.index ≡ l.item-index) × (conditions_from (expression_said (knowledge l.functions) l.limit) 0 (items_view l.item-items)
    ≡ made_of (λ ts. map view l.conditions.items ++ ts)
    (conditions_from (expression_said (knowledge l.functions) l.limit) l.index (items_view (drop l.item-index l.item-items))))
