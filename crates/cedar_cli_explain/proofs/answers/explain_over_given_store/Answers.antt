use Rattle.cedar_extensions.specs.Extensions.{extensions_view, calls_of}
use Rattle.cedar_json_writer.specs.Trees.{json_view}
use Rattle.cedar_cli.specs.Reasons.{IsRequestUnread, IsAskedUnread, for_request}
use Rattle.cedar_cli.proofs.Composed.{of_ok, of_err}
use Rattle.cedar_cli.proofs.Reasoned.{because}
use Rattle.cedar_cli_explain.specs.Explained.{IsExplainedBy, IsExplainedOver}
use Rattle.cedar_cli_explain.proofs.answers.explain_over_given_store.Goals as goal

pub returns-clause-answered : goal.returns-clause-answered
returns-clause-answered g c =
    let x = c.args.extensions.now in
    let e = c.args.explaining in
    let s = c.in_ok-store.store.entities in
    of_ok
    (λ j. IsExplainedOver (extensions_view x) (calls_of x) e.text.now e.policies.now s c.args.asked.now e.way e.has_values (json_view j))
    (λ j. IsExplainedBy (extensions_view x) (calls_of x) e.text.now e.policies.now c.args.asked.now e.way e.has_values (json_view j))
    (λ j h. record { entities = s; store_is = c.in_ok-store.ensures.given; over = h })
    c.explain_over_store-explanation.result c.explain_over_store-explanation.ensures.answered

pub returns-clause-refused : goal.returns-clause-refused
returns-clause-refused g c =
    let x = c.args.extensions.now in
    let q = c.args.asked.now in
    of_err _ _
    (λ r. because (IsRequestUnread (extensions_view x) (calls_of x) q)
    (IsAskedUnread (extensions_view x) (calls_of x) q) (λ h. for_request h) r)
    c.explain_over_store-explanation.result c.explain_over_store-explanation.ensures.refused
