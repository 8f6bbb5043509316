use Rattle.std.proofs.Common.{ap, map}
use Rattle.cedar_names.specs.Names.{uid_name}
use Rattle.cedar_layers.specs.Stores.{stored_entity}
use Rattle.cedar_overlay.proofs.Noted.{noted_none, noted_next, noted_all}
use Rattle.cedar_overlay.proofs.base.missing_of.Goals as goal

pub entities-init : goal.entities-init
entities-init c =
    noted_none (stored_entity c.args.entities.now) c.new-missing.result.entries c.in_ok-listed.listed.entries c.into_iter-uid-iterator.result
    c.in_ok-listed.ensures c.into_iter-uid-iterator.ensures.into_iter_gives.0 c.new-missing.ensures.empty c.into_iter-uid-iterator.ensures.into_iter_gives.6

pub entities-preserved : goal.entities-preserved
entities-preserved c =
    noted_next (stored_entity c.args.entities.now) c.entities.missing.entries c.note_each.new.missing.entries c.entities.uid-iterator c.next.new.self
    c.in-Some.uid.now c.in-Some.entity.now (map uid_name c.ancestors.result.now.keys) c.in-Some.ensures.steps
    (ap (map uid_name) c.ancestors.ensures.whole) c.in_ok-note_each.ensures c.entities.invariant

pub returns-clause-all : goal.returns-clause-all
returns-clause-all c =
    noted_all (stored_entity c.args.entities.now) c.entities.missing.entries c.entities.uid-iterator c.in-None.ensures.steps.0 c.entities.invariant

pub returns-clause-recorded : goal.returns-clause-recorded
returns-clause-recorded c = c.entities.invariant.right
