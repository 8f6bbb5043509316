use Rattle.cedar_model.proofs.Configured.{setting_with}
use Rattle.cedar_model.proofs.Limits.{has_none, none_has, no_earlier}
use Rattle.cedar_model.proofs.chains.limits_show_in_the_last.Goals as goal

pub returns-clause-seen : goal.returns-clause-seen
returns-clause-seen g c = λ errors. (has_none errors, none_has errors)

pub returns-clause-none : goal.returns-clause-none
returns-clause-none g c = λ mode resolution X levels.
    no_earlier mode (setting_with X resolution) _ levels
