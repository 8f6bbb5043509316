use Rattle.std.proofs.Common.{◌≡◌, ◌++◌, ◌+◌, length}
use Rattle.cedar_expressions.specs.View.{terms_view}
use Rattle.cedar_restricted.specs.Keys.{texts_of}
use Rattle.cedar_restricted.proofs.Collected.{names_under}
use Rattle.cedar_interpreter.proofs.DirectEvaluatorLaws.{AreSoFar}
use Rattle.cedar_interpreter.specs.DirectEvaluators.{parts_under}
use Rattle.cedar_interpreter.proofs.direct_evaluators.EvaluatorAbove.pairs.Given as goal

abbrev pub invariant-pairs : goal.invariant-pairs
invariant-pairs g l = record {
  names : texts_of l.keys.items ++ names_under l.key-iterator ≡ names_under l.fn.pairs.entries;
  lengths : length l.keys.items ≡ length l.values.items;
  many : length l.values.items + length (parts_under l.key-iterator) ≡ length (parts_under l.fn.pairs.entries);
  direct : AreSoFar l.fn.within g.T.DirectEvaluator.height (terms_view (parts_under l.fn.pairs.entries)) (terms_view (parts_under l.key-iterator)) l.values.items;
}
