use Rattle.cedar_extensions.specs.Extensions.{extensions_view, calls_of}
use Rattle.cedar_cli.specs.Authorized.{IsAnsweredBy, IsAnsweredOver}
use Rattle.cedar_cli.specs.Reasons.{IsRequestUnread, IsAskedUnread, for_request}
use Rattle.cedar_cli.proofs.Composed.{of_ok, of_err}
use Rattle.cedar_cli.proofs.Reasoned.{because}
use Rattle.cedar_cli.proofs.decisions.authorize_over_given_store.Goals as goal

pub returns-clause-answered : goal.returns-clause-answered
returns-clause-answered g c =
    let x = c.args.extensions.now in
    let text = c.args.deciding.places.now.source.text.now in
    let ps = c.args.deciding.policies.now in
    let s = c.in_ok-store.store.entities in
    of_ok (IsAnsweredOver (extensions_view x) (calls_of x) text ps s c.args.asked.now c.args.deciding.way)
    (IsAnsweredBy (extensions_view x) (calls_of x) text ps c.args.asked.now c.args.deciding.way)
    (λ p h. record { entities = s; store_is = c.in_ok-store.ensures.given; answered = h })
    c.authorize_over_store-printed.result c.authorize_over_store-printed.ensures.answered

pub returns-clause-refused : goal.returns-clause-refused
returns-clause-refused g c =
    let x = c.args.extensions.now in
    let q = c.args.asked.now in
    of_err _ _
    (λ r. because (IsRequestUnread (extensions_view x) (calls_of x) q)
    (IsAskedUnread (extensions_view x) (calls_of x) q) (λ h. for_request h) r)
    c.authorize_over_store-printed.result c.authorize_over_store-printed.ensures.refused
