use Rattle.std.proofs.Common.{◌≡◌, ◌||◌, map}
use Rattle.cedar_model.specs.Terms.{EntityName}
use Rattle.cedar_model.specs.Settings.{is_among}
use Rattle.cedar_names.specs.Names.{uid_name}
use Rattle.cedar_layers.specs.Policies.{policy_view}
use Rattle.cedar_layers.specs.PolicySets.{policies_view, policies_left}
use Rattle.cedar_scope_actions.specs.Named.{is_named_action}
use Rattle.cedar_scope_actions.proofs.named.named_actions.Given as goal

-- what is in, and what the policies that are left name, is what all of them name
abbrev pub invariant-policies : goal.invariant-policies
invariant-policies l =
    (n : EntityName) → (is_among n (map uid_name l.actions.keys) || is_named_action (map policy_view (policies_left l.policy-iterator)) n)
    ≡ is_named_action (policies_view l.fn.policies) n
