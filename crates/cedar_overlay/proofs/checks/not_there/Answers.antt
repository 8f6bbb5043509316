use Rattle.std.proofs.Common.{sym, ap, ◌∙◌, map}
use Rattle.cedar_names.specs.Names.{uid_name}
use Rattle.cedar_layers.specs.Stores.{stored_entity}
use Rattle.cedar_hierarchy.specs.Sorting.{named_in}
use Rattle.cedar_overlay.proofs.Checked.{looked_up_none, looked_up_next, looked_up_one, looked_up_all}
use Rattle.cedar_overlay.proofs.checks.not_there.Goals as goal

pub uids-init : goal.uids-init
uids-init c =
    looked_up_none (stored_entity c.args.entities.now) (named_in c.args.names.now.keys) (map uid_name c.args.uids.now.keys) (map uid_name c.into_iter-uid-iterator.result)
    (ap (map uid_name) c.into_iter-uid-iterator.ensures.into_iter_gives.0)

pub uids-preserved : goal.uids-preserved
uids-preserved c =
    looked_up_next (stored_entity c.args.entities.now) (named_in c.args.names.now.keys) (map uid_name c.args.uids.now.keys) (map uid_name c.uids.uid-iterator) (map uid_name c.next.new.self)
    (uid_name c.in-Some.uid.now) (ap (map uid_name) c.in-Some.ensures.steps) (sym c.is_there.ensures ∙ c.if-not-is_there.false) c.uids.invariant

pub returns-then-not-is_there : goal.returns-then-not-is_there
returns-then-not-is_there c = (
  looked_up_one (stored_entity c.args.entities.now) (named_in c.args.names.now.keys) (map uid_name c.args.uids.now.keys) (map uid_name c.uids.uid-iterator) (map uid_name c.next.new.self)
      (uid_name c.in-Some.uid.now) (ap (map uid_name) c.in-Some.ensures.steps) c.uids.invariant,
  sym c.is_there.ensures ∙ c.if-not-is_there.true,
)

pub returns : goal.returns
returns c =
    looked_up_all (stored_entity c.args.entities.now) (named_in c.args.names.now.keys) (map uid_name c.args.uids.now.keys) (map uid_name c.uids.uid-iterator)
    (ap (map uid_name) c.in-None.ensures.steps.0) c.uids.invariant
