-- The condition is a conjunction, and the slots are the policy's.
use Rattle.std.proofs.Common.{IfOk, subst₂}
use Rattle.cedar_model.specs.Terms.{Term}
use Rattle.cedar_model.specs.World.{Slots}
use Rattle.cedar_explain.specs.Reached.{IsReached, IsExplained}
use Rattle.cedar_explain.proofs.Whole.{whole_each, whole_needed, whole_parts, whole_decides}
use Rattle.cedar_explain.proofs.policies.explain_policy.Goals as goal

pub returns-clause-parts : goal.returns-clause-parts
returns-clause-parts g c =
    whole_parts _ _ _ c.explained-explained.result
    (subst₂ (λ (s : Slots) (t : Term). IfOk c.explained-explained.result (IsExplained (IsReached c.args.evaluator.now s) t)) c.env.ensures
    c.in_ok-condition.ensures.view c.explained-explained.ensures)

pub returns-clause-reached : goal.returns-clause-reached
returns-clause-reached g c =
    whole_each _ _ _ c.explained-explained.result
    (subst₂ (λ (s : Slots) (t : Term). IfOk c.explained-explained.result (IsExplained (IsReached c.args.evaluator.now s) t)) c.env.ensures
    c.in_ok-condition.ensures.view c.explained-explained.ensures)

pub returns-clause-decides : goal.returns-clause-decides
returns-clause-decides g c =
    whole_decides _ _ _ c.explained-explained.result
    (subst₂ (λ (s : Slots) (t : Term). IfOk c.explained-explained.result (IsExplained (IsReached c.args.evaluator.now s) t)) c.env.ensures
    c.in_ok-condition.ensures.view c.explained-explained.ensures)

pub returns-clause-needed : goal.returns-clause-needed
returns-clause-needed g c =
    whole_needed _ _ _ c.explained-explained.result
    (subst₂ (λ (s : Slots) (t : Term). IfOk c.explained-explained.result (IsExplained (IsReached c.args.evaluator.now s) t)) c.env.ensures
    c.in_ok-condition.ensures.view c.explained-explained.ensures)
