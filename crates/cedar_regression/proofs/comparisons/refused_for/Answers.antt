use Rattle.std.proofs.Common.{ap, ◌∙◌, ◌++◌, codes}
use Rattle.json.specs.Print.{print}
use Rattle.json.specs.Tree.{json_tokens}
use Rattle.cedar_regression.proofs.comparisons.refused_for.Goals as goal

pub returns-clause-line : goal.returns-clause-line
returns-clause-line c =
    (c.trim_end.result.now, c.in_ok-line.ensures ∙ ap (λ d. print (json_tokens d) ++ codes "\n") c.in_ok-document.ensures)
