use Rattle.std.proofs.Common.{sym, ap, ◌∙◌, subst, IfSome}
use Rattle.cedar_model.specs.Terms.{both}
use Rattle.cedar_model.specs.Failures.{answers_bool}
use Rattle.cedar_expressions.specs.View.{view, kind_view}
use Rattle.cedar_expressions.proofs.Levels as levels
use Rattle.cedar_layers.specs.Policies.{slots_view}
use Rattle.cedar_evaluator.specs.Direct.{AnswersFrom}
use Rattle.cedar_evaluator.proofs.Direct.{one_level_more}
use Rattle.cedar_evaluator.proofs.evaluator.Evaluator.direct_part.Goals as goal

pub returns-in-And : goal.returns-in-And
returns-in-And g c =
    subst (λ t. IfSome c.direct_pair.result (λ b. AnswersFrom c.args.self.now (slots_view c.args.slots.now) 3 t (answers_bool b)))
    ((λ i. both (view (c.deref.ensures i)) (view (c.deref-in-And.ensures i)))
    ∙ sym (levels.kind_view-And _ _) ∙ sym (ap kind_view c.in-And.is) ∙ c.expr_kind.ensures.view) c.direct_pair.ensures

pub returns-in_default : goal.returns-in_default
returns-in_default g c =
    one_level_more c.args.self.now (slots_view c.args.slots.now) (view c.args.e.now) c.direct_test.result c.direct_test.ensures
