use Rattle.cedar_json_writer.specs.Trees.{json_view}
use Rattle.cedar_cli.proofs.Composed.{of_ok}
use Rattle.cedar_cli_explain.specs.Explained.{IsDecidedBeside, IsExplainedAsJson}
use Rattle.cedar_cli_explain.proofs.answers.authorize_and_explain_as_json.Goals as goal

pub returns-clause-answered : goal.returns-clause-answered
returns-clause-answered c =
    let text = c.args.policies.text.now in
    let q = c.args.asked.now in
    let j = json_view c.in_ok-explanation.explanation in
    of_ok (IsDecidedBeside text q c.args.way j) (IsExplainedAsJson text q c.args.way c.args.has_values)
    (λ p h. record { explanation = j; explanation_is = c.in_ok-explanation.ensures.answered; decided = h })
    c.decide_beside-printed.result c.decide_beside-printed.ensures.answered
