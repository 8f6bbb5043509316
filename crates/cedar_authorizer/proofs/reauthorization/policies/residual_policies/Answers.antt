use Rattle.std.proofs.Common.{ap, ◌∙◌, map}
use Rattle.std.proofs.lemmas.List.Elements.{All-same}
use Rattle.cedar_layers.specs.Policies.{policy_view, decides_as}
use Rattle.cedar_layers.specs.PolicySets.{policies_view}
use Rattle.cedar_authorizer.specs.responses.Rows.{located_view}
use Rattle.cedar_authorizer.specs.reauthorization.Policies.{IsCarriedFrom}
use Rattle.cedar_authorizer.proofs.Carrying.{once, twice}
use Rattle.cedar_authorizer.proofs.Unwrapped.{policies_unwrapped}
use Rattle.cedar_authorizer.proofs.reauthorization.policies.residual_policies.Goals as goal

pub returns-in-Ok-clause-set : goal.returns-in-Ok-clause-set
returns-in-Ok-clause-set c =
    once (policies_view c.in-Ok.set) _ (ap (map decides_as) c.in-Ok.ensures.view ∙ c.in_ok-policies.ensures.policies)
    c.in-Ok.set.distinct

pub returns-in-Ok-clause-places : goal.returns-in-Ok-clause-places
returns-in-Ok-clause-places c = All-same (IsCarriedFrom (located_view c.args.response.now)) _ _ c.in-Ok.ensures.whole c.in_ok-policies.ensures.places

pub returns-in-Err-clause-set : goal.returns-in-Err-clause-set
returns-in-Err-clause-set c =
    twice (map policy_view c.in_ok-policies.policies.items) _ c.in-Err.error c.from.result c.in_ok-policies.ensures.policies
    c.from.ensures c.in-Err.ensures.occupied

pub returns-in-Err-clause-memory : goal.returns-in-Err-clause-memory
returns-in-Err-clause-memory c = policies_unwrapped c.in-Err.error c.from.result c.from.ensures
