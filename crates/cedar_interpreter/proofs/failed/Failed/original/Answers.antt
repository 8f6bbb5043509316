use Rattle.std.proofs.Common.{sym, ap, ◌∙◌}
use Rattle.cedar_model.specs.Rules.{kept}
use Rattle.cedar_expressions.specs.View.{view}
use Rattle.cedar_interpreter.proofs.KeptLaws.{keeps_original}
use Rattle.cedar_interpreter.proofs.failed.Failed.original.Goals as goal

pub returns : goal.returns
returns c = keeps_original c.args.failed.value.error (view c.args.expr.now) c.args.failed.value.ordinary ∙ ap kept (sym c.in_ok-clone.ensures.cases.0)
