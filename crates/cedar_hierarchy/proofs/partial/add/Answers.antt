use Rattle.cedar_hierarchy.proofs.Marking.{named-put}
use Rattle.cedar_hierarchy.proofs.partial.add.Goals as goal

pub returns : goal.returns
returns c =
    named-put c.args.uids.now.keys c.insert.new.self.keys c.in_ok-copy_uid.field-0 c.args.uid.now c.in_ok-insert.ensures.updates.1 c.in_ok-insert.ensures.updates.3 c.in_ok-copy_uid.ensures
