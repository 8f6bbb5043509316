use Rattle.std.proofs.Common.{Some, ap, ◌∙◌}
use Rattle.json.specs.Json.{Json}
use Rattle.cedar_cli_tests.specs.Tested.{verdict_of}
use Rattle.cedar_cli_tests.proofs.one.refuse_for.Goals as goal

pub returns : goal.returns
returns c =
    (c.trim_end.result.now, c.in_ok-verdict.ensures ∙ ap (λ (j : Json). verdict_of (Some j)) c.in_ok-told.ensures)
