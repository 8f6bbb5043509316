use Rattle.cedar_names.specs.Names.{type_text, uid_name}
use Rattle.cedar_unknowns.specs.Quoted.{entity_quoted}
use Rattle.cedar_unknowns.proofs.Standing.{told_true, told_false}
use Rattle.cedar_unknowns.proofs.entities.entity_if_named.Goals as goal

pub returns-then-branch : goal.returns-then-branch
returns-then-branch c =
    told_true c.args.name.now (entity_quoted (type_text c.args.ty.now) c.args.quoted.now) (uid_name c.in_ok-uid.uid) c.in_ok-is_named.field-0 c.in_ok-uid.ensures c.in_ok-is_named.ensures c.if-branch.true

pub returns-else-branch : goal.returns-else-branch
returns-else-branch c =
    told_false c.args.name.now (entity_quoted (type_text c.args.ty.now) c.args.quoted.now) (uid_name c.in_ok-uid.uid) c.in_ok-is_named.field-0 c.in_ok-uid.ensures c.in_ok-is_named.ensures c.if-branch.false
