use Rattle.std.proofs.Common.{[], ◌∷◌, ap, map}
use Rattle.cedar_names.specs.Names.{uid_name}
use Rattle.cedar_lints.proofs.Passing.{known_more, known_all}
use Rattle.cedar_lints.proofs.knowing.Known.add_each.Goals as goal

pub uids-preserved : goal.uids-preserved
uids-preserved c =
    known_more _ _ _ (uid_name c.in-Some.uid.now ∷ []) (map uid_name c.next.new.self)
    (map uid_name c.uids.uid-iterator) (ap (map uid_name) c.in-Some.ensures.steps) c.in_ok-add.ensures
    c.uids.invariant

pub returns : goal.returns
returns c = known_all _ _ _ (ap (map uid_name) c.in-None.ensures.steps.0) c.uids.invariant
