use Rattle.cedar_extensions.specs.Extensions.{extensions_view, calls_of}
use Rattle.cedar_functions.specs.Functions.{these, signatures_of}
use Rattle.cedar_response_json.specs.Extensions.{names_of}
use Rattle.cedar_cli.specs.Stopped.{IsPartlyUnansweredBy, IsPartlyUnanswered, for_answer}
use Rattle.cedar_cli.proofs.Composed.{of_ok, of_err}
use Rattle.cedar_cli.proofs.Reasoned.{because}
use Rattle.cedar_cli_relays.specs.Saved.{IsSavedBy, IsSaved}
use Rattle.cedar_cli_relays.proofs.relays.partially_authorize_and_save.Goals as goal

pub returns-clause-answered : goal.returns-clause-answered
returns-clause-answered g c =
    let x = c.args.extensions.now in
    let text = c.args.policies.text.now in
    let parsed = c.in_ok-parsed.parsed in
    let q = c.args.asked.now in
    let steps = c.args.steps.now in
    let w = c.args.way in
    of_ok (IsSavedBy (extensions_view x) (calls_of x) (names_of x) text parsed.policies q steps w)
    (IsSaved (extensions_view x) (calls_of x) (names_of x) (these (signatures_of x)) text q steps w)
    (λ s h. record { parsed = parsed; policies_are = c.in_ok-parsed.ensures.read; by = h })
    c.save_parsed-saved.result c.save_parsed-saved.ensures.answered

pub returns-clause-refused : goal.returns-clause-refused
returns-clause-refused g c =
    let x = c.args.extensions.now in
    let text = c.args.policies.text.now in
    let parsed = c.in_ok-parsed.parsed in
    let q = c.args.asked.now in
    let steps = c.args.steps.now in
    let w = c.args.way in
    of_err _ _
    (λ r. because (IsPartlyUnansweredBy (extensions_view x) (calls_of x) parsed.policies q steps w)
    (IsPartlyUnanswered (these (signatures_of x)) (extensions_view x) (calls_of x) text q steps w)
    (λ h. for_answer parsed c.in_ok-parsed.ensures.read h) r)
    c.save_parsed-saved.result c.save_parsed-saved.ensures.refused
