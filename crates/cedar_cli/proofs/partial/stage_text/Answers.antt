use Rattle.std.proofs.Common.{ap, ◌∙◌, ◌++◌, codes}
use Rattle.cedar_cli.specs.Printing.{partial_word}
use Rattle.cedar_cli.specs.Stages.{IsWordOf}
use Rattle.cedar_cli.proofs.Composed.{of_ok}
use Rattle.cedar_cli.proofs.partial.stage_text.Goals as goal

pub returns : goal.returns
returns c =
    let lines = c.as_str.result.now in
    of_ok _ _ (λ s h. (lines, h ∙ ap (λ d. partial_word d ++ (codes "\n" ++ (lines ++ codes "\n"))) c.decision.ensures.given))
    c.text_below_word-text.result c.text_below_word-text.ensures
