use Rattle.std.proofs.Common.{sym, ap, ◌∙◌, suc, subst, arith}
use Rattle.std.specs.declared.alloc.Global.{Global}
use Rattle.std.specs.declared.vec.Vec.{Vec}
use Rattle.cedar_model.specs.Terms.{set_of}
use Rattle.cedar_expressions.specs.declared.expr.Expr.{Expr}
use Rattle.cedar_expressions.specs.View.{view, kind_view, terms_view}
use Rattle.cedar_expressions.proofs.Levels as levels
use Rattle.cedar_interpreter.specs.Settings.{evaluation_setting, calls_in}
use Rattle.cedar_interpreter.specs.Direct.{IsDirectValue}
use Rattle.cedar_interpreter.proofs.DirectLaws.{direct_above, literal_direct}
use Rattle.cedar_interpreter.proofs.direct_evaluators.EvaluatorAboveDirectEvaluator.evaluate.Goals as goal

pub returns-in-Lit : goal.returns-in-Lit
returns-in-Lit g c r k speaks low =
    direct_above (evaluation_setting r c.args.within.now) (calls_in c.args.within.now) g.T.DirectEvaluator.height k _ (view c.args.e.now) c.literal_value.result (λ j some. literal_direct (evaluation_setting r c.args.within.now) (calls_in c.args.within.now) j _ c.literal_value.result c.literal_value.ensures) low
    (sym (levels.kind_view-Lit _) ∙ sym (ap kind_view c.in-Lit.is) ∙ c.expr_kind.ensures.view)

pub returns-in-Var : goal.returns-in-Var
returns-in-Var g c r k speaks low =
    direct_above (evaluation_setting r c.args.within.now) (calls_in c.args.within.now) g.T.DirectEvaluator.height k _ (view c.args.e.now) c.value_of_variable.result (λ j some. c.value_of_variable.ensures r (suc j) speaks (omega arith)) low
    (sym (levels.kind_view-Var _) ∙ sym (ap kind_view c.in-Var.is) ∙ c.expr_kind.ensures.view)

pub returns-in-UnaryApp : goal.returns-in-UnaryApp
returns-in-UnaryApp g c r k speaks low =
    direct_above (evaluation_setting r c.args.within.now) (calls_in c.args.within.now) g.T.DirectEvaluator.height k _ (view c.args.e.now) c.evaluate_unary.result (λ j some. rw (c.deref-in-UnaryApp.ensures) at c.evaluate_unary.ensures r j speaks some) low
    (sym (levels.kind_view-UnaryApp _ _) ∙ sym (ap kind_view c.in-UnaryApp.is) ∙ c.expr_kind.ensures.view)

pub returns-in-BinaryApp : goal.returns-in-BinaryApp
returns-in-BinaryApp g c r k speaks low =
    direct_above (evaluation_setting r c.args.within.now) (calls_in c.args.within.now) g.T.DirectEvaluator.height k _ (view c.args.e.now) c.evaluate_binary.result (λ j some. rw (c.deref-in-BinaryApp.ensures, c.deref-in-BinaryApp-2.ensures) at c.evaluate_binary.ensures r j speaks some) low
    (sym (levels.kind_view-BinaryApp _ _ _) ∙ sym (ap kind_view c.in-BinaryApp.is) ∙ c.expr_kind.ensures.view)

pub returns-in-GetAttr : goal.returns-in-GetAttr
returns-in-GetAttr g c r k speaks low =
    direct_above (evaluation_setting r c.args.within.now) (calls_in c.args.within.now) g.T.DirectEvaluator.height k _ (view c.args.e.now) c.evaluate_attribute.result (λ j some. rw (c.deref-in-GetAttr.ensures) at c.evaluate_attribute.ensures r j speaks some) low
    (sym (levels.kind_view-GetAttr _ _) ∙ sym (ap kind_view c.in-GetAttr.is) ∙ c.expr_kind.ensures.view)

pub returns-in-HasAttr : goal.returns-in-HasAttr
returns-in-HasAttr g c r k speaks low =
    direct_above (evaluation_setting r c.args.within.now) (calls_in c.args.within.now) g.T.DirectEvaluator.height k _ (view c.args.e.now) c.evaluate_has.result (λ j some. rw (c.deref-in-HasAttr.ensures) at c.evaluate_has.ensures r j speaks some) low
    (sym (levels.kind_view-HasAttr _ _) ∙ sym (ap kind_view c.in-HasAttr.is) ∙ c.expr_kind.ensures.view)

pub returns-in-ExtHasAttr : goal.returns-in-ExtHasAttr
returns-in-ExtHasAttr g c r k speaks low =
    direct_above (evaluation_setting r c.args.within.now) (calls_in c.args.within.now) g.T.DirectEvaluator.height k _ (view c.args.e.now) c.evaluate_extended_has.result (λ j some. rw (c.deref-in-ExtHasAttr.ensures, c.deref-in-ExtHasAttr-2.ensures) at c.evaluate_extended_has.ensures r j speaks some) low
    (sym (levels.kind_view-ExtHasAttr _ _) ∙ sym (ap kind_view c.in-ExtHasAttr.is) ∙ c.expr_kind.ensures.view)

pub returns-in-Like : goal.returns-in-Like
returns-in-Like g c r k speaks low =
    direct_above (evaluation_setting r c.args.within.now) (calls_in c.args.within.now) g.T.DirectEvaluator.height k _ (view c.args.e.now) c.evaluate_like.result (λ j some. rw (c.deref-in-Like.ensures) at c.evaluate_like.ensures r j speaks some) low
    (sym (levels.kind_view-Like _ _) ∙ sym (ap kind_view c.in-Like.is) ∙ c.expr_kind.ensures.view)

pub returns-in-Is : goal.returns-in-Is
returns-in-Is g c r k speaks low =
    direct_above (evaluation_setting r c.args.within.now) (calls_in c.args.within.now) g.T.DirectEvaluator.height k _ (view c.args.e.now) c.evaluate_is.result (λ j some. rw (c.deref-in-Is.ensures) at c.evaluate_is.ensures r j speaks some) low
    (sym (levels.kind_view-Is _ _) ∙ sym (ap kind_view c.in-Is.is) ∙ c.expr_kind.ensures.view)

pub returns-in-Set : goal.returns-in-Set
returns-in-Set g c r k speaks low =
    direct_above (evaluation_setting r c.args.within.now) (calls_in c.args.within.now) g.T.DirectEvaluator.height k _ (view c.args.e.now) c.evaluate_set.result (λ j some. subst (λ l. IsDirectValue (evaluation_setting r c.args.within.now) (calls_in c.args.within.now) (suc j) (set_of (terms_view l)) c.evaluate_set.result) (c.as_slice.ensures.value ∙ ap (λ (v : Vec Expr Global). v.items) c.deref-in-Set.ensures) (c.evaluate_set.ensures r j speaks some)) low
    (sym (levels.kind_view-Set _) ∙ sym (ap kind_view c.in-Set.is) ∙ c.expr_kind.ensures.view)

pub returns-in-Record : goal.returns-in-Record
returns-in-Record g c r k speaks low =
    direct_above (evaluation_setting r c.args.within.now) (calls_in c.args.within.now) g.T.DirectEvaluator.height k _ (view c.args.e.now) c.evaluate_record.result (λ j some. rw (c.deref-in-Record.ensures) at c.evaluate_record.ensures r j speaks some) low
    (sym (levels.kind_view-Record _) ∙ sym (ap kind_view c.in-Record.is) ∙ c.expr_kind.ensures.view)

pub returns-in-If : goal.returns-in-If
returns-in-If g c r k speaks low =
    direct_above (evaluation_setting r c.args.within.now) (calls_in c.args.within.now) g.T.DirectEvaluator.height k _ (view c.args.e.now) c.evaluate_if.result (λ j some. rw (c.deref.ensures, c.deref-in-If.ensures, c.deref-in-If-2.ensures) at c.evaluate_if.ensures r j speaks some) low
    (sym (levels.kind_view-If _ _ _) ∙ sym (ap kind_view c.in-If.is) ∙ c.expr_kind.ensures.view)

pub returns-in-And : goal.returns-in-And
returns-in-And g c r k speaks low =
    direct_above (evaluation_setting r c.args.within.now) (calls_in c.args.within.now) g.T.DirectEvaluator.height k _ (view c.args.e.now) c.evaluate_and_or.result (λ j some. rw (c.deref-in-And.ensures, c.deref-in-And-2.ensures) at c.evaluate_and_or.ensures r j speaks some) low
    (sym (levels.kind_view-And _ _) ∙ sym (ap kind_view c.in-And.is) ∙ c.expr_kind.ensures.view)

pub returns-in-Or : goal.returns-in-Or
returns-in-Or g c r k speaks low =
    direct_above (evaluation_setting r c.args.within.now) (calls_in c.args.within.now) g.T.DirectEvaluator.height k _ (view c.args.e.now) c.evaluate_and_or-in-Or.result (λ j some. rw (c.deref-in-Or.ensures, c.deref-in-Or-2.ensures) at c.evaluate_and_or-in-Or.ensures r j speaks some) low
    (sym (levels.kind_view-Or _ _) ∙ sym (ap kind_view c.in-Or.is) ∙ c.expr_kind.ensures.view)
