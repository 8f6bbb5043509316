use Rattle.std.proofs.Common.{◌≡◌, rules}
use Rattle.cedar_names.specs.Names.{uid_name}
use Rattle.cedar_layers.proofs.Stores.{standing-put}
use Rattle.cedar_layers.proofs.policies.entities.Entities.put.Goals as goal

pub returns : goal.returns
returns c =
    let name : uid_name c.in_ok-uid.uid ≡ uid_name c.args.entity.uid = search rules in
    standing-put _ _ c.in_ok-uid.uid c.args.entity c.in_ok-insert.ensures.updates.1 c.in_ok-insert.ensures.updates.3 name
