use Rattle.cedar_model.proofs.MoreLevels.{allowed_by_rule, rule_is_allowed}
use Rattle.cedar_model.proofs.levels.allowed_is_by_the_rules.Goals as goal

pub returns : goal.returns
returns g c = λ s t a ne. (allowed_by_rule s _ t a, rule_is_allowed s _ t a ne)
