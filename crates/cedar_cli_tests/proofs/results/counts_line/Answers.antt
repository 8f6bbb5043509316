use Rattle.std.proofs.Common.{ap, ◌∙◌, ◌++◌, codes}
use Rattle.json.specs.Json.{Json}
use Rattle.cedar_cli_tests.specs.Tested.{json_text}
use Rattle.cedar_cli_tests.proofs.results.counts_line.Goals as goal

pub returns : goal.returns
returns c = c.in_ok-told.ensures ∙ ap (λ (j : Json). json_text j ++ codes "\n") c.in_ok-counts.ensures
