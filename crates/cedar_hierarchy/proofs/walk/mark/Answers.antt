use Rattle.std.proofs.Common.{sym, ap, ◌∙◌, map, subst, List}
use Rattle.cedar_names.specs.declared.names.EntityUID.{EntityUID}
use Rattle.cedar_names.specs.Names.{uid_name}
use Rattle.cedar_hierarchy.specs.Listed.{HoldsTheSame}
use Rattle.cedar_hierarchy.proofs.Marking.{map-behind, same_behind, not_found, found_already, marked-new, marked-again}
use Rattle.cedar_hierarchy.proofs.walk.mark.Goals as goal

pub returns-in_ok-push-clause-found : goal.returns-in_ok-push-clause-found
returns-in_ok-push-clause-found c =
    let found = c.args.found.now.items in
    let absent = not_found c.in_ok-copy_uid.field-0 c.args.uid.now c.args.reached.now.keys found c.in_ok-insert.field-0 c.in_ok-copy_uid.ensures c.in_ok-insert.ensures.added c.if-branch.true c.requires in
    ap (map uid_name) c.in_ok-push.ensures.items ∙ map-behind found c.in_ok-copy_uid-2.field-0 ∙ marked-new (uid_name c.args.uid.now) (uid_name c.in_ok-copy_uid-2.field-0) (map uid_name found) c.in_ok-copy_uid-2.ensures absent

pub returns-in_ok-push-clause-reached : goal.returns-in_ok-push-clause-reached
returns-in_ok-push-clause-reached c =
    let claim : List EntityUID → Type 0 = HoldsTheSame c.insert.new.self.keys in
    subst claim (sym {A = List EntityUID} c.in_ok-push.ensures.items) (same_behind c.args.reached.now.keys c.insert.new.self.keys c.args.found.now.items c.in_ok-copy_uid.field-0 c.in_ok-copy_uid-2.field-0 c.in_ok-insert.ensures.updates.1 c.in_ok-insert.ensures.updates.3 (c.in_ok-copy_uid-2.ensures ∙ sym c.in_ok-copy_uid.ensures) c.requires)

pub returns-else-branch-clause-found : goal.returns-else-branch-clause-found
returns-else-branch-clause-found c =
    let found = c.args.found.now.items in
    let there = found_already c.in_ok-copy_uid.field-0 c.args.uid.now c.args.reached.now.keys found c.in_ok-insert.field-0 c.in_ok-copy_uid.ensures c.in_ok-insert.ensures.added c.if-branch.false c.requires in
    marked-again (uid_name c.args.uid.now) (map uid_name found) there
