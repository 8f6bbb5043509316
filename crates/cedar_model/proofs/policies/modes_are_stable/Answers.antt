use Rattle.cedar_model.proofs.Counted
use Rattle.cedar_model.proofs.policies.modes_are_stable.Goals as goal

pub returns-clause-order : goal.returns-clause-order
returns-clause-order c = Counted.order

pub returns-clause-forbids : goal.returns-clause-forbids
returns-clause-forbids c = Counted.forbids

pub returns-clause-permits : goal.returns-clause-permits
returns-clause-permits c = Counted.permits

pub returns-clause-erring : goal.returns-clause-erring
returns-clause-erring c = Counted.erring_skipped

pub returns-clause-erring_permit : goal.returns-clause-erring_permit
returns-clause-erring_permit c = Counted.erring_permit

pub returns-clause-erring_forbid : goal.returns-clause-erring_forbid
returns-clause-erring_forbid c = Counted.erring_forbid

pub returns-clause-skipping : goal.returns-clause-skipping
returns-clause-skipping c = Counted.skipping
