use Rattle.cedar_extensions.specs.Extensions.{extensions_view, calls_of}
use Rattle.cedar_cli.specs.Explained.{IsExplainedBy, IsExplainedOver}
use Rattle.cedar_cli.specs.Reasons.{IsRequestUnread, IsAskedUnread, for_request}
use Rattle.cedar_cli.proofs.Composed.{of_ok, of_err}
use Rattle.cedar_cli.proofs.Reasoned.{because}
use Rattle.cedar_cli.proofs.explanations.explain_over_given_store.Goals as goal

pub returns-clause-answered : goal.returns-clause-answered
returns-clause-answered g c =
    let x = c.args.extensions.now in
    let e = c.args.explaining in
    let text = e.deciding.places.now.source.text.now in
    let ps = e.deciding.policies.now in
    let s = c.in_ok-store.store.entities in
    of_ok (IsExplainedOver (extensions_view x) (calls_of x) text ps s c.args.asked.now e.deciding.way e.has_values)
    (IsExplainedBy (extensions_view x) (calls_of x) text ps c.args.asked.now e.deciding.way e.has_values)
    (λ p h. record { entities = s; store_is = c.in_ok-store.ensures.given; over = h })
    c.explain_over_store-printed.result c.explain_over_store-printed.ensures.answered

pub returns-clause-refused : goal.returns-clause-refused
returns-clause-refused g c =
    let x = c.args.extensions.now in
    let q = c.args.asked.now in
    of_err _ _
    (λ r. because (IsRequestUnread (extensions_view x) (calls_of x) q)
    (IsAskedUnread (extensions_view x) (calls_of x) q) (λ h. for_request h) r)
    c.explain_over_store-printed.result c.explain_over_store-printed.ensures.refused
