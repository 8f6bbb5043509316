use Rattle.std.proofs.Common.{sym, ◌∙◌}
use Rattle.cedar_names.specs.Names.{uid_name}
use Rattle.cedar_overlay.proofs.Noted.{noted-put, noted-again}
use Rattle.cedar_overlay.proofs.base.note_missing.Goals as goal

pub returns-in_ok-insert : goal.returns-in_ok-insert
returns-in_ok-insert c = λ stored.
    noted-put c.args.missing.now.entries c.insert.new.self.entries c.in_ok-key.key c.in_ok-recorder.recorder c.in_ok-insert.ensures.updates.1 c.in_ok-insert.ensures.updates.3
    stored (uid_name c.args.ancestor.now) (uid_name c.args.of.now) c.in_ok-key.ensures c.in_ok-recorder.ensures

pub returns-else-not-contains_key : goal.returns-else-not-contains_key
returns-else-not-contains_key c = λ stored.
    noted-again stored c.args.missing.now.entries c.args.ancestor.now (uid_name c.args.of.now) (sym c.contains_key.ensures ∙ c.if-not-contains_key.false)
