use Rattle.cedar_extensions.specs.Extensions.{extensions_view, calls_of}
use Rattle.cedar_response_json.specs.Extensions.{names_of}
use Rattle.cedar_cli.specs.Stopped.{AreNotTakenFrom}
use Rattle.cedar_cli.proofs.Reasoned.{because}
use Rattle.cedar_cli_relays.specs.Saved.{configuration_as}
use Rattle.cedar_cli_relays.specs.Unresumed.{IsNotTakenOn, for_steps}
use Rattle.cedar_cli_relays.proofs.relays.resume_response.Goals as goal

pub returns-in-Err-saved-clause-refused : goal.returns-in-Err-saved-clause-refused
returns-in-Err-saved-clause-refused g c =
    let x = c.args.extensions.now in
    let first = c.args.response in
    let store = c.in-Ok.store.entities in
    let steps = c.args.steps.now in
    let w = c.args.way in
    because (AreNotTakenFrom (configuration_as (extensions_view x) (calls_of x) first w) first store steps)
    (IsNotTakenOn (extensions_view x) (calls_of x) (names_of x) first c.args.asked.now steps w)
    (λ h. for_steps store c.in-Ok.ensures.given h) c.in-Err-saved.refusal c.in-Err-saved.ensures.refused
