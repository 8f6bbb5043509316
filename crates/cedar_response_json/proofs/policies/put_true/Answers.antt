use Rattle.std.proofs.Common.{◌∙◌}
use Rattle.cedar_model.specs.Responses.{reported_true}
use Rattle.cedar_response_json.proofs.Rows.{put_row, clause_true}
use Rattle.cedar_response_json.proofs.policies.put_true.Goals as goal

pub returns : goal.returns
returns c = put_row _ _ c.args.effect c.args.id.now c.args.annotations.now.value c.in_ok-clause.clause.value reported_true c.in_ok-put_reported.ensures (c.in_ok-clause.ensures ∙ clause_true)
