use Rattle.cedar_authorizer.specs.responses.Rows.{mode_of, rows_view}
use Rattle.cedar_authorizer.proofs.Concretes.{decided_concretely}
use Rattle.cedar_authorizer.proofs.responses.partial_response.PartialResponse.concrete_decision.Goals as goal

pub returns : goal.returns
returns c =
    decided_concretely (mode_of c.args.self.now) (rows_view c.args.self.now) _ _ _ _ c.has_true_permit.ensures c.has_true_forbid.ensures c.has_residual_forbid.ensures c.decide_concretely.ensures
