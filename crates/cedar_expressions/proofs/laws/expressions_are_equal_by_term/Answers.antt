use Rattle.cedar_expressions.specs.View.{view, kind_view}
use Rattle.cedar_names.specs.EqualityLaws.{term_eq-decides}
use Rattle.cedar_expressions.proofs.laws.expressions_are_equal_by_term.Goals as goal

pub returns-clause-expressions : goal.returns-clause-expressions
returns-clause-expressions c = λ a b. term_eq-decides (view a) (view b)

pub returns-clause-kinds : goal.returns-clause-kinds
returns-clause-kinds c = λ a b. term_eq-decides (kind_view a) (kind_view b)
