use Rattle.std.proofs.Common.{◌≡◌, ◌++◌, map}
use Rattle.cedar_layers.specs.Policies.{policy_view}
use Rattle.cedar_layers.specs.PolicySets.{policies_left, policies_view}
use Rattle.cedar_linked_text.specs.LinkedTexts.{named}
use Rattle.cedar_linked_text.proofs.named.named_policies.Given as goal

-- those that have their names, and those that are left
abbrev pub invariant-policies : goal.invariant-policies
invariant-policies l =
    map policy_view l.all.items ++ map named (map policy_view (policies_left l.policy-iterator)) ≡ map named (policies_view l.fn.policies)
