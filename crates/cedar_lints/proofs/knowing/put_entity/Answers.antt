use Rattle.cedar_names.specs.Names.{uid_name}
use Rattle.cedar_lints.proofs.KnownSets.{has_entity-put}
use Rattle.cedar_lints.proofs.knowing.put_entity.Goals as goal

pub returns : goal.returns
returns c =
    has_entity-put c.args.entities.now.keys c.insert.new.self.keys c.in_ok-copied_uid.field-0
    (uid_name c.args.uid.now) c.in_ok-copied_uid.ensures c.in_ok-insert.ensures.updates.1
    c.in_ok-insert.ensures.updates.3
