-- The condition is satisfied in which the part is taken to be so.
use Rattle.std.proofs.Common.{◌∙◌, ap₂, sym}
use Rattle.cedar_model.specs.Terms.{Term}
use Rattle.cedar_expressions.specs.View.{view}
use Rattle.cedar_layers.specs.Policies.{slots_view, policy_view}
use Rattle.cedar_explain.specs.Assuming.{assuming}
use Rattle.cedar_explain.specs.Views.{part_told}
use Rattle.cedar_explain.proofs.Taken.{satisfied_as}
use Rattle.cedar_explain.proofs.lacks.would_apply.Goals as goal

pub returns : goal.returns
returns g c = λ is.
    satisfied_as c.args.evaluator.now (policy_view c.args.lack.policy.now) (part_told c.args.lack.part.now).term c.args.lack.truth
    c.in_ok-explanation.explanation (slots_view c.env.result.now) (view c.in_ok-taken.taken) c.env.ensures
    (c.in_ok-taken.ensures ∙ ap₂ (λ (u t : Term). assuming u c.args.lack.truth t) c.expression.ensures c.requires)
    c.in_ok-explanation.ensures (sym c.outcome.ensures ∙ c.is_satisfied.ensures is)
