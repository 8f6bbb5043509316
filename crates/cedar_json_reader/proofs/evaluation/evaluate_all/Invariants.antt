use Rattle.std.proofs.Common.{◌≡◌, ◌++◌, List, All}
use Rattle.std.specs.Vec.Iter.{into_iter_items}
use Rattle.cedar_restricted.specs.Evaluators.{extensions_read, calls_in, limit_of}
use Rattle.cedar_json_reader.specs.SaidEntities.{SaidEntity}
use Rattle.cedar_json_reader.specs.StatedEntities.{stated_views}
use Rattle.cedar_json_reader.specs.Evaluated.{AreEvaluated}
use Rattle.cedar_json_reader.specs.FailedEntities.{IsAllAnswered}
use Rattle.cedar_json_reader.proofs.evaluation.evaluate_all.Given as goal

-- what was taken is evaluated, and then comes what is left
abbrev pub invariant-stated : goal.invariant-stated
invariant-stated g l =
    (done : List SaidEntity) × (stated_views l.fn.stated.items ≡ done ++ stated_views (into_iter_items l.entity-iterator))
    × AreEvaluated (extensions_read l.evaluator) (calls_in l.evaluator) (limit_of l.evaluator) done l.entities.items
    × All (IsAllAnswered (extensions_read l.evaluator) (calls_in l.evaluator) (limit_of l.evaluator)) done
