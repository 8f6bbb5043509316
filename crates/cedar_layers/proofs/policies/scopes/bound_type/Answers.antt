use Rattle.std.proofs.Common.{◌&&◌, sym, ap, ◌∙◌}
use Rattle.cedar_layers.specs.Policies.{policy_view}
use Rattle.cedar_layers.specs.Scopes.{asked_type}
use Rattle.cedar_layers.proofs.Asking.{is_bool, found_of_first}
use Rattle.cedar_layers.proofs.policies.scopes.bound_type.Goals as goal

pub returns-else-are_booleans : goal.returns-else-are_booleans
returns-else-are_booleans c =
    found_of_first (policy_view c.args.policy.now) c.asked_type-of_principal.result c.requires.none
    (sym (λ i. is_bool (c.principal_constraint-2.ensures.view i) && is_bool (c.action_constraint.ensures.view i)) ∙ sym c.are_booleans.ensures ∙ c.if-are_booleans.false)
    (c.asked_type-of_principal.ensures ∙ ap asked_type c.principal_constraint.ensures.view)
