use Rattle.std.proofs.Common.{◌≡◌, rules}
use Rattle.cedar_names.specs.Names.{type_text}
use Rattle.cedar_layers.proofs.Placing.{extends_type}
use Rattle.cedar_layers.proofs.policies.scope_index.put_under_type.Goals as goal

pub returns : goal.returns
returns c =
    let name : type_text c.in_ok-clone.field-0 ≡ type_text c.args.ty.now = search rules in
    extends_type c.args.types.now.entries c.type_taken_out-group.new.types.entries c.insert.new.self.entries c.args.ty.now c.in_ok-clone.field-0 c.push.new.self c.type_taken_out-group.result _ name c.type_taken_out-group.ensures.items c.type_taken_out-group.ensures.others c.in_ok-push.ensures.items c.in_ok-insert.ensures.updates.1 c.in_ok-insert.ensures.updates.3
