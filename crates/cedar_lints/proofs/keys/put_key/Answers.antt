use Rattle.cedar_lints.proofs.KeySets.{has_key-put}
use Rattle.cedar_lints.proofs.keys.put_key.Goals as goal

pub returns : goal.returns
returns c =
    has_key-put c.args.keys.now.keys c.insert.new.self.keys c.args.key c.in_ok-insert.ensures.updates.1
    c.in_ok-insert.ensures.updates.3
