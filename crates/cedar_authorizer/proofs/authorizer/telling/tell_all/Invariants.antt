use Rattle.std.specs.Prelude.{map}
use Rattle.cedar_model.specs.Agreement.{no_slots}
use Rattle.cedar_decisions.specs.Decisions.{mode_view}
use Rattle.cedar_layers.specs.Policies.{policy_view, decides_as}
use Rattle.cedar_layers.specs.PolicySets.{policies_left}
use Rattle.cedar_evaluator.specs.Evaluations.{setting_of, calls_in, limit_of}
use Rattle.cedar_authorizer.specs.Responding.{considered}
use Rattle.cedar_authorizer.proofs.Telling.{IsToldSoFar}
use Rattle.cedar_authorizer.proofs.authorizer.telling.tell_all.Given as goal

abbrev pub invariant-policies : goal.invariant-policies
invariant-policies g l =
    IsToldSoFar (mode_view l.fn.mode) (setting_of l.fn.evaluator no_slots) (calls_in l.fn.evaluator) (limit_of l.fn.evaluator) (considered l.fn.policies) l.sheet (map decides_as (map policy_view (policies_left l.policy-iterator)))
