use Rattle.std.proofs.Common.{drop, map}
use Rattle.cedar_model.specs.Agreement.{no_slots}
use Rattle.cedar_decisions.specs.Decisions.{mode_view}
use Rattle.cedar_layers.specs.PolicySets.{policies_left, stored_policies}
use Rattle.cedar_evaluator.specs.Evaluations.{setting_of, calls_in, limit_of}
use Rattle.cedar_authorizer.proofs.Within.{IsRunSoFar}
use Rattle.cedar_authorizer.proofs.authorizer.sheets.run_within.Given as goal

abbrev pub invariant-policies : goal.invariant-policies
invariant-policies g l =
    IsRunSoFar (mode_view l.fn.mode) (setting_of l.fn.evaluator no_slots) (calls_in l.fn.evaluator) (limit_of l.fn.evaluator) (stored_policies l.fn.policies) l.sheet (policies_left l.policy-iterator) (drop l.next (map (λ p. p.now) l.fn.within))
