use Rattle.cedar_authorizer.proofs.Outcomes.{decided_out, left_out, failed_out, left_there}
use Rattle.cedar_authorizer.proofs.authorizer.outcome_of.Goals as goal

pub returns-in-Ok-Left-clause-outcome : goal.returns-in-Ok-Left-clause-outcome
returns-in-Ok-Left-clause-outcome g c = decided_out _ _ c.in-Ok-Left.is_true c.in-Ok-Left.field-0-is c.in-Ok-Left.ensures.decides

pub returns-in_ok-new-in-Ok-Right-clause-outcome : goal.returns-in_ok-new-in-Ok-Right-clause-outcome
returns-in_ok-new-in-Ok-Right-clause-outcome g c = left_out _ _ c.in-Ok-Right.residual c.in_ok-new-in-Ok-Right.field-0.value c.in-Ok-Right.field-0-is c.in_ok-new-in-Ok-Right.ensures.ok c.in-Ok-Right.ensures.decides

pub returns-in_ok-new-in-Ok-Right-clause-place : goal.returns-in_ok-new-in-Ok-Right-clause-place
returns-in_ok-new-in-Ok-Right-clause-place g c = left_there _ _ c.in-Ok-Right.residual c.in_ok-new-in-Ok-Right.field-0.value c.in-Ok-Right.field-0-is c.in_ok-new-in-Ok-Right.ensures.ok c.in-Ok-Right.ensures.place

pub returns-in-Err-clause-outcome : goal.returns-in-Err-clause-outcome
returns-in-Err-clause-outcome g c =
    failed_out _ c.in-Err.error c.failed_outcome.result c.in-Err.ensures.decides c.failed_outcome.ensures.memory c.failed_outcome.ensures.outcome

pub returns-in-Err-clause-place : goal.returns-in-Err-clause-place
returns-in-Err-clause-place g c = c.failed_outcome.ensures.place _
