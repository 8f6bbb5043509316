use Rattle.std.proofs.Common.{ap, ◌∙◌, map, not}
use Rattle.cedar_model.specs.Terms.{EntityName}
use Rattle.cedar_model.specs.Settings.{is_among}
use Rattle.cedar_names.specs.Names.{uid_name}
use Rattle.cedar_layers.proofs.Stores.{list_any-uids}
use Rattle.cedar_hierarchy.proofs.Marking.{named-put}
use Rattle.cedar_overlay.proofs.uids.put_uid.Goals as goal

pub returns-clause-names : goal.returns-clause-names
returns-clause-names c =
    named-put c.args.uids.now.keys c.insert.new.self.keys c.in_ok-copied_uid.field-0 c.args.uid.now c.in_ok-insert.ensures.updates.1 c.in_ok-insert.ensures.updates.3 c.in_ok-copied_uid.ensures

pub returns-clause-first : goal.returns-clause-first
returns-clause-first c =
    let old = c.args.uids.now.keys in
    c.in_ok-insert.ensures.added
    ∙ ap not (list_any-uids c.in_ok-copied_uid.field-0 old ∙ ap (λ (n : EntityName). is_among n (map uid_name old)) c.in_ok-copied_uid.ensures)
