use Rattle.cedar_extensions.specs.Extensions.{extensions_view, calls_of}
use Rattle.cedar_response_json.specs.Extensions.{names_of}
use Rattle.cedar_cli.specs.Stopped.{IsPartlyUnansweredOver, IsPartlyUnansweredBy, for_stages}
use Rattle.cedar_cli.proofs.Composed.{of_ok, of_err}
use Rattle.cedar_cli.proofs.Reasoned.{because}
use Rattle.cedar_cli_relays.specs.Saved.{IsSavedOver, IsSavedBy}
use Rattle.cedar_cli_relays.proofs.relays.save_over_given_store.Goals as goal

pub returns-clause-answered : goal.returns-clause-answered
returns-clause-answered g c =
    let x = c.args.extensions.now in
    let text = c.args.source.text.now in
    let ps = c.args.policies.now in
    let s = c.in_ok-store.store.entities in
    let q = c.args.asked.now in
    let steps = c.args.steps.now in
    let w = c.args.way in
    of_ok (IsSavedOver (extensions_view x) (calls_of x) (names_of x) text ps s q steps w)
    (IsSavedBy (extensions_view x) (calls_of x) (names_of x) text ps q steps w)
    (λ p h. record { store = s; store_is = c.in_ok-store.ensures.given; over = h })
    c.save_over_store-saved.result c.save_over_store-saved.ensures.answered

pub returns-clause-refused : goal.returns-clause-refused
returns-clause-refused g c =
    let x = c.args.extensions.now in
    let ps = c.args.policies.now in
    let s = c.in_ok-store.store.entities in
    let q = c.args.asked.now in
    let steps = c.args.steps.now in
    let w = c.args.way in
    of_err _ _
    (λ r. because (IsPartlyUnansweredOver (extensions_view x) (calls_of x) ps s q steps w)
    (IsPartlyUnansweredBy (extensions_view x) (calls_of x) ps q steps w)
    (λ h. for_stages s c.in_ok-store.ensures.given h) r)
    c.save_over_store-saved.result c.save_over_store-saved.ensures.refused
