use Rattle.cedar_model.proofs.Stability.{order_same, forbid_keeps, permit_keeps, erring_same}
use Rattle.cedar_model.proofs.Stability.{erring_permit_same, erring_forbid_alone}
use Rattle.cedar_model.proofs.authorizations.exact_responses_are_stable.Goals as goal

pub returns-clause-order : goal.returns-clause-order
returns-clause-order c = order_same

pub returns-clause-forbids : goal.returns-clause-forbids
returns-clause-forbids c = forbid_keeps

pub returns-clause-permits : goal.returns-clause-permits
returns-clause-permits c = permit_keeps

pub returns-clause-erring : goal.returns-clause-erring
returns-clause-erring c = erring_same

pub returns-clause-erring_permit : goal.returns-clause-erring_permit
returns-clause-erring_permit c = erring_permit_same

pub returns-clause-erring_forbid : goal.returns-clause-erring_forbid
returns-clause-erring_forbid c = erring_forbid_alone
