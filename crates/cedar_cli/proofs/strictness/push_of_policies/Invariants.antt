use Rattle.std.proofs.Common.{string_bytes}
use Rattle.cedar_layers.specs.PolicySets.{policies_left, stored_policies}
use Rattle.cedar_cli.specs.Strict.{finding_view}
use Rattle.cedar_cli.proofs.Stating.{AreFoundSoFar}
use Rattle.cedar_cli.proofs.strictness.push_of_policies.Given as goal

abbrev pub invariant-policies : goal.invariant-policies
invariant-policies l =
    AreFoundSoFar (finding_view l.fn.finding) l.fn.places.source (stored_policies l.fn.policies)
    (policies_left l.policy-iterator) (string_bytes l.fn.warnings) (string_bytes l.warnings)
