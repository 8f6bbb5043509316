use Rattle.std.proofs.Common.{◌≡◌, ◌++◌}
use Rattle.cedar_model.specs.Chains.{all_residuals}
use Rattle.cedar_authorizer.specs.responses.Rows.{located_view, rows_view}
use Rattle.cedar_authorizer.specs.responses.Readers.{left, AreAmong}
use Rattle.cedar_authorizer.specs.reauthorization.Policies.{AreCarriedFrom}
use Rattle.cedar_authorizer.proofs.Carrying.{decided, carried_on}
use Rattle.cedar_authorizer.proofs.reauthorization.policies.carry_policies.Given as goal

abbrev pub invariant-policies : goal.invariant-policies
invariant-policies l =
    (decided l.policies.items ++ carried_on (left l.policy-iterator) ≡ all_residuals (rows_view l.response))
    × AreCarriedFrom (located_view l.response) l.policies.items
    × AreAmong (left l.policy-iterator) (located_view l.response)
