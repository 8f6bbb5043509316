use Rattle.cedar_extensions.specs.Extensions.{extensions_view, calls_of}
use Rattle.cedar_functions.specs.Functions.{these, signatures_of}
use Rattle.cedar_response_json.specs.Extensions.{names_of}
use Rattle.cedar_cli.proofs.Reasoned.{because}
use Rattle.cedar_cli_relays.specs.Unresumed.{IsNotTakenOn, IsNotResumed, for_response}
use Rattle.cedar_cli_relays.proofs.relays.resume.Goals as goal

pub returns-in-Err-resume_response-clause-refused : goal.returns-in-Err-resume_response-clause-refused
returns-in-Err-resume_response-clause-refused g c =
    let x = c.args.extensions.now in
    let first = c.in-Ok.response in
    let text = c.args.line.text.now in
    let asked = c.args.asked.now in
    let steps = c.args.steps.now in
    because (IsNotTakenOn (extensions_view x) (calls_of x) (names_of x) first asked steps c.args.way)
    (IsNotResumed (extensions_view x) (calls_of x) (names_of x) (these (signatures_of x)) text asked steps c.args.way)
    (λ h. for_response first c.in-Ok.ensures.said h) c.in-Err-resume_response.refusal
    c.in-Err-resume_response.ensures.refused
