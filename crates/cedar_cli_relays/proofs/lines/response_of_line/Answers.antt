use Rattle.std.proofs.Common.{subst, IfOk}
use Rattle.std.specs.Prelude.{IfErr}
use Rattle.cedar_extensions.specs.Extensions.{extensions_view, calls_of}
use Rattle.cedar_functions.specs.Functions.{Knowledge}
use Rattle.cedar_response_json.specs.Extensions.{names_of}
use Rattle.cedar_cli.specs.Reasons.{IsToldFor}
use Rattle.cedar_cli_relays.specs.Saved.{SaysResponse}
use Rattle.cedar_cli_relays.specs.Unresumed.{IsLineUnread}
use Rattle.cedar_cli_relays.proofs.lines.response_of_line.Goals as goal

pub returns-in-Ok-clause-said : goal.returns-in-Ok-clause-said
returns-in-Ok-clause-said g c =
    let x = c.args.extensions.now in
    subst (λ (k : Knowledge). IfOk c.response_said-response.result
    (SaysResponse (extensions_view x) (calls_of x) (names_of x) k c.args.source.text.now))
    c.in-Ok.ensures c.response_said-response.ensures.said

pub returns-in-Ok-clause-refused : goal.returns-in-Ok-clause-refused
returns-in-Ok-clause-refused g c =
    let x = c.args.extensions.now in
    subst (λ (k : Knowledge). IfErr c.response_said-response.result
    (IsToldFor (IsLineUnread (extensions_view x) (calls_of x) (names_of x) k c.args.source.text.now)))
    c.in-Ok.ensures c.response_said-response.ensures.refused
