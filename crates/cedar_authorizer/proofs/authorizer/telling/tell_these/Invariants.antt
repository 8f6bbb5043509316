use Rattle.std.specs.Prelude.{map}
use Rattle.std.proofs.Common.{drop}
use Rattle.cedar_model.specs.Agreement.{no_slots}
use Rattle.cedar_decisions.specs.Decisions.{mode_view}
use Rattle.cedar_evaluator.specs.Evaluations.{setting_of, calls_in, limit_of}
use Rattle.cedar_authorizer.specs.Telling.{deciding_these}
use Rattle.cedar_authorizer.proofs.Telling.{IsToldSoFar}
use Rattle.cedar_authorizer.proofs.authorizer.telling.tell_these.Given as goal

abbrev pub invariant-policies : goal.invariant-policies
invariant-policies g l =
    IsToldSoFar (mode_view l.fn.mode) (setting_of l.fn.evaluator no_slots) (calls_in l.fn.evaluator) (limit_of l.fn.evaluator) (deciding_these (map (λ p. p.now) l.fn.policies)) l.sheet (deciding_these (map (λ p. p.now) (drop l.policy-index l.policies)))
