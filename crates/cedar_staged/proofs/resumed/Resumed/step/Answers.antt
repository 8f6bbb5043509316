use Rattle.std.specs.Prelude.{Ok}
use Rattle.std.proofs.Common.{refl}
use Rattle.cedar_authorizer.specs.Configured.{configuration}
use Rattle.cedar_authorizer.specs.Steps.{step_by}
use Rattle.cedar_staged.proofs.Seen.{none_seen, step_seen, why_not_seen}
use Rattle.cedar_staged.proofs.resumed.Resumed.step.Goals as goal

pub returns-then-has_limit-clause-unchanged : goal.returns-then-has_limit-clause-unchanged
returns-then-has_limit-clause-unchanged g c = (refl, refl, refl, refl)

pub returns-in-Ok-clause-unchanged : goal.returns-in-Ok-clause-unchanged
returns-in-Ok-clause-unchanged g c = c.take.ensures.unchanged

pub returns-in-Err-clause-unchanged : goal.returns-in-Err-clause-unchanged
returns-in-Err-clause-unchanged g c = (refl, refl, refl, refl)

pub take-requires-clause-step : goal.take-requires-clause-step
take-requires-clause-step g c =
    let s = c.args.self.now in
    step_seen (configuration s.authorizer) (step_by c.args.values.now c.args.entities.now) (Ok c.in-Ok.response)
    c.deref-3.result.now s.response.value c.deref-3.ensures c.in-Ok.ensures.step

pub returns-in-Err-clause-refused : goal.returns-in-Err-clause-refused
returns-in-Err-clause-refused g c =
    let s = c.args.self.now in
    why_not_seen (configuration s.authorizer) c.args.values.now c.args.entities.now c.in-Err.error c.refusal.result
    c.deref-3.result.now s.response.value c.deref-3.ensures
    (none_seen c.has_limit.result c.deref-2.result.now c.deref.result.now s.response.value c.if-has_limit.false c.has_limit.ensures c.deref-2.ensures.value c.deref.ensures)
    c.in-Err.ensures.step c.refusal.ensures
