use Rattle.cedar_names.specs.Names.{type_text}
use Rattle.cedar_unknowns.proofs.Standing.{re_answered, only_quoted, not_quoted}
use Rattle.std.proofs.Common.{sym}
use Rattle.cedar_unknowns.proofs.entities.entity_named.Goals as goal

pub returns-in-Some : goal.returns-in-Some
returns-in-Some c =
    re_answered c.entity_if_named.result _ _ (only_quoted c.args.name.now (type_text c.args.ty.now) c.in-Some.quoted.now c.in-Some.ensures) c.entity_if_named.ensures

pub returns-in-None : goal.returns-in-None
returns-in-None c = sym (not_quoted c.args.name.now (type_text c.args.ty.now) c.in-None.ensures)
