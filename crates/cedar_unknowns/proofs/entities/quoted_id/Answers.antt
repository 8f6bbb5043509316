use Rattle.std.proofs.Common.{option_copied}
use Rattle.cedar_names.specs.Names.{type_text}
use Rattle.cedar_unknowns.proofs.Quoted.{is_behind, not_behind}
use Rattle.cedar_unknowns.proofs.entities.quoted_id.Goals as goal

pub returns-in-Some : goal.returns-in-Some
returns-in-Some c =
    is_behind (type_text c.args.ty.now) c.name_of.result.now c.args.text.now c.in-Some.behind.now (option_copied c.between.result) c.name_of.ensures c.in-Some.ensures c.between.ensures

pub returns-in-None : goal.returns-in-None
returns-in-None c =
    not_behind (type_text c.args.ty.now) c.name_of.result.now c.args.text.now c.name_of.ensures c.in-None.ensures
