use Rattle.std.proofs.Common.{suc, sym, ap, ◌∙◌, arith}
use Rattle.cedar_expressions.specs.View.{view, kind_view}
use Rattle.cedar_expressions.proofs.Levels as levels
use Rattle.cedar_interpreter.specs.Settings.{evaluation_setting, calls_in}
use Rattle.cedar_interpreter.proofs.DirectLaws.{direct_above, literal_direct}
use Rattle.cedar_interpreter.proofs.direct_evaluators.LeafEvaluatorDirectEvaluator.evaluate.Goals as goal

pub returns-in-Lit : goal.returns-in-Lit
returns-in-Lit g c r k speaks low =
    direct_above (evaluation_setting r c.args.within.now) (calls_in c.args.within.now) 0 k _ (view c.args.e.now) c.literal_value.result (λ j some. literal_direct (evaluation_setting r c.args.within.now) (calls_in c.args.within.now) j _ c.literal_value.result c.literal_value.ensures) low
    (sym (levels.kind_view-Lit _) ∙ sym (ap kind_view c.in-Lit.is) ∙ c.expr_kind.ensures.view)

pub returns-in-Var : goal.returns-in-Var
returns-in-Var g c r k speaks low =
    direct_above (evaluation_setting r c.args.within.now) (calls_in c.args.within.now) 0 k _ (view c.args.e.now) c.value_of_variable.result (λ j some. c.value_of_variable.ensures r (suc j) speaks (omega arith)) low
    (sym (levels.kind_view-Var _) ∙ sym (ap kind_view c.in-Var.is) ∙ c.expr_kind.ensures.view)
