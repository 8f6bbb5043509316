use Rattle.std.proofs.Common.{◌≡◌, List, ◌++◌, take, map}
use Rattle.cedar_expressions.specs.View.{terms_view, fields_view}
use Rattle.cedar_json_writer.specs.ReadBack.{AreKept, FieldsAreKept}
use Rattle.cedar_json_writer.specs.Trees.{json_view, members_seen}
use Rattle.cedar_json_writer.proofs.Written.{Entry, written_expr, written_pair}
use Rattle.cedar_json_writer.proofs.expressions.+written.Given as goal

abbrev pub invariant-set_to_json-parts : goal.invariant-set_to_json-parts
invariant-set_to_json-parts l =
    (map json_view l.items.items ≡ map written_expr (take l.part-index l.parts)) × AreKept (terms_view (take l.part-index l.parts))

abbrev pub invariant-pairs_to_json-pairs : goal.invariant-pairs_to_json-pairs
invariant-pairs_to_json-pairs l =
    (done : List Entry) × (l.pairs.entries ≡ done ++ l.key-iterator) × (members_seen l.members.items ≡ map written_pair done) × FieldsAreKept (fields_view done)
