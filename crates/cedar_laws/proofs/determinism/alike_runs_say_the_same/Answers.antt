use Rattle.cedar_laws.proofs.AlikeRows.{report_the_same, answer_alike, rows_equal}
use Rattle.cedar_laws.proofs.determinism.alike_runs_say_the_same.Goals as goal

pub returns-clause-reports : goal.returns-clause-reports
returns-clause-reports c = report_the_same

pub returns-clause-answers : goal.returns-clause-answers
returns-clause-answers c = answer_alike

pub returns-clause-equal : goal.returns-clause-equal
returns-clause-equal c = rows_equal
