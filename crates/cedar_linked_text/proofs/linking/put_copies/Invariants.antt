use Rattle.std.proofs.Common.{◌≡◌, ◌++◌, map, drop}
use Rattle.cedar_layers.specs.Policies.{policy_view}
use Rattle.cedar_linked_text.proofs.linking.put_copies.Given as goal

-- those that are copied, and those that are left
abbrev pub invariant-policies : goal.invariant-policies
invariant-policies l =
    map policy_view l.all.items ++ map policy_view (drop l.policy-index l.fn.policies) ≡ map policy_view l.initial.all.items ++ map policy_view l.fn.policies
