use Rattle.std.proofs.Common.{rules, ◌≡◌, Some}
use Rattle.cedar_names.specs.Leaves.{slot_view}
use Rattle.cedar_names.specs.Names.{uid_name}
use Rattle.cedar_layers.specs.Policies.{slots_view}
use Rattle.cedar_template_links.specs.Linking.{with_value}
use Rattle.cedar_template_links.proofs.Filling.{slot_filled}
use Rattle.cedar_template_links.proofs.linking.fill_slot.Goals as goal

pub returns-in_ok-insert-in-Some : goal.returns-in_ok-insert-in-Some
returns-in_ok-insert-in-Some c =
    let named : uid_name c.in_ok-uid-in-Some.uid ≡ uid_name c.in-Some.uid.now = search rules in
    let h : slots_view c.insert.new.self ≡ with_value (slot_view c.args.slot) (Some (uid_name c.in-Some.uid.now)) (slots_view c.args.env.now) =
    slot_filled c.args.env.now c.insert.new.self c.args.slot c.in_ok-uid-in-Some.uid c.in-Some.uid.now c.in_ok-insert-in-Some.ensures.updates named in
    rw c.in-Some.is h
