use Rattle.std.proofs.Common.{◌≡◌, sym, ap, ◌∙◌, subst, map, option_copied, rules}
use Rattle.std.specs.Rc.{rc_str_bytes}
use Rattle.cedar_model.specs.Settings.{part_at}
use Rattle.cedar_layers.specs.Parts.{parts_view, found_part, are_restricted_parts}
use Rattle.cedar_layers.specs.Stores.{entity_view}
use Rattle.cedar_overlay.specs.Putting.{put_found}
use Rattle.cedar_overlay.proofs.Parts.{AreUnderWay, begun, further, ended}
use Rattle.cedar_overlay.proofs.copies.copied_tags.Goals as goal

pub names-init : goal.names-init
names-init c = record {
  way =
      begun (entity_view c.args.entity.now).tags (map rc_str_bytes c.into_iter-name-iterator.result) (parts_view c.new-tags.result.entries)
      (ap (map rc_str_bytes) c.into_iter-name-iterator.ensures.into_iter_gives ∙ c.tag_keys-name-items.ensures.names) (ap parts_view c.new-tags.ensures.empty);
  restricted = ap (λ es. are_restricted_parts (parts_view es)) c.new-tags.ensures.empty;
}

pub names-preserved : goal.names-preserved
names-preserved c =
    let l = c.names in
    let all = (entity_view c.args.entity.now).tags in
    let k = rc_str_bytes c.in-Some.name.now in
    let made = parts_view l.tags.entries in
    let left = map rc_str_bytes c.next.new.self in
    let way = subst (λ ks. AreUnderWay all (map rc_str_bytes ks) made) c.in-Some.ensures.steps l.invariant.way in
    let found : found_part (option_copied c.get_tag.result) ≡ part_at k all = search rules in
    record {
      way = subst (AreUnderWay all left) (sym (c.in_ok-put_found.ensures.parts ∙ ap (λ o. put_found k o made) found)) (further all c.tag_keys-name-items.ensures.in_order k left made way);
      restricted = c.in_ok-put_found.ensures.restricted;
    }

pub returns-clause-parts : goal.returns-clause-parts
returns-clause-parts c =
    ended (entity_view c.args.entity.now).tags (map rc_str_bytes c.names.name-iterator) (parts_view c.names.tags.entries) c.names.invariant.way
    (ap (map rc_str_bytes) c.in-None.ensures.steps.0)

pub returns-clause-restricted : goal.returns-clause-restricted
returns-clause-restricted c = c.names.invariant.restricted
