use Rattle.cedar_laws.proofs.OneAnswer.{one_answer, runs_equal}
use Rattle.cedar_laws.proofs.determinism.runs_are_equal.Goals as goal

pub returns-clause-expressions : goal.returns-clause-expressions
returns-clause-expressions g c = λ one s levels t. one_answer _ one s levels t

pub returns-clause-runs : goal.returns-clause-runs
returns-clause-runs g c = λ one mode s levels ps. runs_equal _ one mode s levels ps
