use Rattle.std.proofs.Common.{refl}
use Rattle.cedar_model.proofs.Exemplified.{chain_opened}
use Rattle.cedar_model.proofs.chain_examples.responses_say.Goals as goal

pub returns-clause-forbid_decides : goal.returns-clause-forbid_decides
unfolding chain_opened
returns-clause-forbid_decides c = (refl, refl, refl)

pub returns-clause-all_are_carried : goal.returns-clause-all_are_carried
unfolding chain_opened
returns-clause-all_are_carried c = refl

pub returns-clause-carried_by_report : goal.returns-clause-carried_by_report
unfolding chain_opened
returns-clause-carried_by_report c = (refl, refl, refl)

pub returns-clause-forbid_errors_first : goal.returns-clause-forbid_errors_first
unfolding chain_opened
returns-clause-forbid_errors_first c = refl

pub returns-clause-other_readers : goal.returns-clause-other_readers
unfolding chain_opened
returns-clause-other_readers c = (refl, refl, refl, refl, refl, refl)

pub returns-clause-get_finds_the_permit : goal.returns-clause-get_finds_the_permit
unfolding chain_opened
returns-clause-get_finds_the_permit c = (refl, refl)

pub returns-clause-residual_forbid_holds : goal.returns-clause-residual_forbid_holds
unfolding chain_opened
returns-clause-residual_forbid_holds c = (refl, refl, refl, refl, refl, refl, refl)

pub returns-clause-residual_permit_may : goal.returns-clause-residual_permit_may
unfolding chain_opened
returns-clause-residual_permit_may c = (refl, refl, refl)

pub returns-clause-early_deny : goal.returns-clause-early_deny
unfolding chain_opened
returns-clause-early_deny c = (refl, refl, refl, refl)
