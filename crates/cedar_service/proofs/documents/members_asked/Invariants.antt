use Rattle.std.proofs.Common.{◌≡◌, ◌++◌}
use Rattle.std.specs.Vec.Iter.{into_iter_items}
use Rattle.cedar_service.proofs.Without.{kept}
use Rattle.cedar_service.proofs.documents.members_asked.Given as goal

abbrev pub invariant-members : goal.invariant-members
invariant-members l =
    l.rest.items ++ kept (into_iter_items l.member-iterator) ≡ kept l.fn.members.items
