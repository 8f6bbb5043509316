use Rattle.std.proofs.Common.{◌≡◌, ◌++◌, List}
use Rattle.std.specs.Vec.Iter.{into_iter_items}
use Rattle.cedar_model.specs.Terms.{Text, Term, Fields}
use Rattle.cedar_expressions.specs.Records.{put_fields, fields_in_order}
use Rattle.cedar_layers.specs.Parts.{parts_view}
use Rattle.cedar_restricted.specs.Evaluators.{extensions_read, calls_in, limit_of}
use Rattle.cedar_json_reader.specs.Lists.{pairs_said}
use Rattle.cedar_json_reader.specs.Evaluated.{AreAnswered}
use Rattle.cedar_json_reader.specs.FailedEntities.{AreAllAnswered}
use Rattle.cedar_json_reader.proofs.evaluation.parts.Given as goal

-- what was taken is answered, and then comes what is left
abbrev pub invariant-pairs : goal.invariant-pairs
invariant-pairs g l =
    (fs : Fields) × (fields_in_order (pairs_said l.fn.pairs.items) ≡ put_fields fs (pairs_said (into_iter_items l.key-iterator)))
    × AreAnswered (extensions_read l.evaluator) (calls_in l.evaluator) (limit_of l.evaluator) fs (parts_view l.parts.map.entries)
    × (done : List (Text × Term)) × (pairs_said l.fn.pairs.items ≡ done ++ pairs_said (into_iter_items l.key-iterator))
    × AreAllAnswered (extensions_read l.evaluator) (calls_in l.evaluator) (limit_of l.evaluator) done
