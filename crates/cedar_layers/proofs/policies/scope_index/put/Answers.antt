use Rattle.std.proofs.Common.{◌≡◌, rules}
use Rattle.cedar_names.specs.Names.{uid_name}
use Rattle.cedar_layers.proofs.Placing.{extends}
use Rattle.cedar_layers.proofs.policies.scope_index.put.Goals as goal

pub returns : goal.returns
returns c =
    let name : uid_name c.in_ok-clone.field-0 ≡ uid_name c.args.uid.now = search rules in
    extends c.args.groups.now.entries c.taken_out-group.new.groups.entries c.insert.new.self.entries c.args.uid.now c.in_ok-clone.field-0 c.push.new.self c.taken_out-group.result _ name c.taken_out-group.ensures.items c.taken_out-group.ensures.others c.in_ok-push.ensures.items c.in_ok-insert.ensures.updates.1 c.in_ok-insert.ensures.updates.3
