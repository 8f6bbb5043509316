use Rattle.cedar_names.specs.Names.{uid_name}
use Rattle.cedar_layers.specs.Stores.{stored_entity}
use Rattle.cedar_overlay.proofs.Noted.{noted-stored}
use Rattle.cedar_overlay.proofs.base.note.Goals as goal

pub returns-in-Some : goal.returns-in-Some
returns-in-Some c =
    noted-stored (stored_entity c.args.entities.now) c.args.missing.now.entries (uid_name c.args.ancestor.now) (uid_name c.args.of.now) c.in-Some.field-0.now c.in-Some.ensures.whole

pub returns-in_ok-note_missing-in-None : goal.returns-in_ok-note_missing-in-None
returns-in_ok-note_missing-in-None c = c.in_ok-note_missing-in-None.ensures (stored_entity c.args.entities.now)
