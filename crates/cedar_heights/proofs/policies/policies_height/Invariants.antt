use Rattle.std.proofs.Common.{◌≡◌, max, map}
use Rattle.cedar_layers.specs.Policies.{policy_view, decides_as}
use Rattle.cedar_layers.specs.PolicySets.{policies_view, policies_left}
use Rattle.cedar_heights.specs.Capped.{capped}
use Rattle.cedar_heights.specs.Heights.{greatest_condition}
use Rattle.cedar_heights.proofs.policies.policies_height.Given as goal

-- what is found and what is left are together as high as all
abbrev pub invariant-policies : goal.invariant-policies
invariant-policies l =
    max (capped (greatest_condition (map decides_as (map policy_view (policies_left l.policy-iterator))))) l.found
    ≡ capped (greatest_condition (map decides_as (policies_view l.fn.policies)))
