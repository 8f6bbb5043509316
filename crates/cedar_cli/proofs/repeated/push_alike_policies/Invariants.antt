use Rattle.std.proofs.Common.{map, string_bytes}
use Rattle.cedar_layers.specs.PolicySets.{policies_left, stored_policies}
use Rattle.cedar_cli.proofs.Stating.{AreAlikeSoFar}
use Rattle.cedar_cli.proofs.repeated.push_alike_policies.Given as goal

abbrev pub invariant-policies : goal.invariant-policies
invariant-policies l =
    AreAlikeSoFar l.fn.places.source (stored_policies l.fn.policies) (map (λ p. p.now) l.before.items)
    (policies_left l.policy-iterator) (string_bytes l.fn.warnings) (string_bytes l.warnings)
