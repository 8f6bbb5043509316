use Rattle.std.proofs.Common.{◌≡◌, ◌++◌, List}
use Rattle.std.specs.Vec.Iter.{into_iter_items}
use Rattle.cedar_names.specs.declared.names.EntityUID.{EntityUID}
use Rattle.cedar_json_reader.specs.StatedEntities.{names_of}
use Rattle.cedar_json_reader.specs.Evaluated.{AreAmong}
use Rattle.cedar_json_reader.proofs.evaluation.set_of.Given as goal

-- what was taken is in the set, and then comes what is left
abbrev pub invariant-uids : goal.invariant-uids
invariant-uids l = (done : List EntityUID) × (l.fn.uids.items ≡ done ++ into_iter_items l.uid-iterator) × AreAmong (names_of l.set.keys) (names_of done)
