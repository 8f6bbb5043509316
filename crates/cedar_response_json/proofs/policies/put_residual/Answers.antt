use Rattle.std.proofs.Common.{ap, ◌∙◌}
use Rattle.cedar_model.specs.Responses.{reported_residual}
use Rattle.cedar_expressions.specs.View.{view}
use Rattle.cedar_response_json.proofs.Rows.{put_row, clause_residual}
use Rattle.cedar_response_json.proofs.policies.put_residual.Goals as goal

pub returns : goal.returns
returns c =
    put_row _ _ c.args.effect c.args.id.now c.args.residual.now.1.value c.in_ok-clause.clause.value (reported_residual (view c.args.residual.now.0.value)) c.in_ok-put_reported.ensures
    (ap view c.in_ok-clause.ensures.cases ∙ clause_residual (view c.args.residual.now.0.value))
