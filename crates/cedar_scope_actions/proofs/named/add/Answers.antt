use Rattle.cedar_scope_actions.proofs.Naming.{put_one}
use Rattle.cedar_scope_actions.proofs.named.add.Goals as goal

pub returns : goal.returns
returns c =
    put_one c.args.actions.now.keys c.insert.new.self.keys c.in_ok-copy_of.field-0 c.in_ok-insert.ensures.updates.1 c.in_ok-insert.ensures.updates.3 c.args.uid.now c.in_ok-copy_of.ensures
