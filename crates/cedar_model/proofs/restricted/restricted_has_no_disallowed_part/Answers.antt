use Rattle.cedar_model.proofs.RestrictedAnswers.{none_disallowed}
use Rattle.cedar_model.proofs.Disallowing.{disallowed_part}
use Rattle.cedar_model.proofs.restricted.restricted_has_no_disallowed_part.Goals as goal

pub returns-clause-none : goal.returns-clause-none
returns-clause-none g = none_disallowed

pub returns-clause-feature : goal.returns-clause-feature
returns-clause-feature g = disallowed_part
