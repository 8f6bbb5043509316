use Rattle.std.proofs.Common.{◌≡◌, ◌≤◌, length, drop}
use Rattle.cedar_expressions.specs.View.{terms_view}
use Rattle.cedar_interpreter.proofs.DirectEvaluatorLaws.{AreSoFar}
use Rattle.cedar_interpreter.proofs.direct_evaluators.EvaluatorAbove.values.Given as goal

abbrev pub invariant-parts : goal.invariant-parts
invariant-parts g l = record {
  many : l.part-index ≡ length l.values.items;
  bound : l.part-index ≤ length l.fn.parts;
  direct : AreSoFar l.fn.within g.T.DirectEvaluator.height (terms_view l.fn.parts) (terms_view (drop l.part-index l.fn.parts)) l.values.items;
}
