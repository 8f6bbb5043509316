use Rattle.cedar_model.proofs.Resolved
use Rattle.cedar_model.proofs.resolutions.resolutions_need_levels.Goals as goal

pub returns-clause-three : goal.returns-clause-three
returns-clause-three g = Resolved.stored_need_three

pub returns-clause-two : goal.returns-clause-two
returns-clause-two g = Resolved.shallow_needs_two

pub returns-clause-looping : goal.returns-clause-looping
returns-clause-looping g = Resolved.never_answers

pub returns-clause-grown : goal.returns-clause-grown
returns-clause-grown g = Resolved.residuals_grow

pub returns-clause-unsound : goal.returns-clause-unsound
returns-clause-unsound g = Resolved.unsound_grow

pub returns-clause-last_two : goal.returns-clause-last_two
returns-clause-last_two g = Resolved.last_needs_two
