use Rattle.cedar_laws.proofs.Lasting.{run_lasts, runs_stay}
use Rattle.cedar_laws.proofs.levels.levels_keep_runs.Goals as goal

pub returns-clause-keep : goal.returns-clause-keep
returns-clause-keep g c = λ mode s n m ps rows errors more. run_lasts _ mode s n m more ps rows errors

pub returns-clause-change : goal.returns-clause-change
returns-clause-change g c =
    λ functional mode s n m ps rows later_rows errors later_errors more.
    runs_stay _ mode s n m more functional ps rows later_rows errors later_errors
