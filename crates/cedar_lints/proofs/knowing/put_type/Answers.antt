use Rattle.cedar_names.specs.Names.{type_text}
use Rattle.cedar_lints.proofs.KnownSets.{has_type-put}
use Rattle.cedar_lints.proofs.knowing.put_type.Goals as goal

pub returns : goal.returns
returns c =
    has_type-put c.args.types.now.keys c.insert.new.self.keys c.in_ok-copied_type.field-0 (type_text c.args.ty.now)
    c.in_ok-copied_type.ensures c.in_ok-insert.ensures.updates.1 c.in_ok-insert.ensures.updates.3
