use Rattle.std.proofs.Common.{refl, sym, ap, ◌∙◌, subst, map}
use Rattle.std.specs.Rc.{rc_str_bytes}
use Rattle.cedar_model.specs.Settings.{part_at}
use Rattle.cedar_values.specs.Residuals.{partial_view}
use Rattle.cedar_layers.specs.Parts.{parts_view, are_restricted_parts}
use Rattle.cedar_layers.specs.Stores.{entity_name, entity_view}
use Rattle.cedar_reasons.specs.Facts.{facts_view}
use Rattle.cedar_reasons.specs.Reduced.{reduced_tag}
use Rattle.cedar_reasons.specs.Kept.{put_at}
use Rattle.cedar_reasons.proofs.Parts.{AreUnderWay, begun, further, ended}
use Rattle.cedar_reasons.proofs.Values.{tag_is}
use Rattle.cedar_reasons.proofs.entities.reduced_tags.Goals as goal

pub names-init : goal.names-init
names-init c = record {
  way =
      begun (entity_view c.args.entity.now).tags (reduced_tag (facts_view c.args.facts.now) (entity_name c.args.entity.now))
      (map rc_str_bytes c.into_iter-name-iterator.result) (parts_view c.new-tags.result.entries)
      (ap (map rc_str_bytes) c.into_iter-name-iterator.ensures.into_iter_gives ∙ c.tag_keys-name-items.ensures.names)
      (ap parts_view c.new-tags.ensures.empty);
  restricted = ap (λ es. are_restricted_parts (parts_view es)) c.new-tags.ensures.empty;
}

pub names-preserved : goal.names-preserved
names-preserved c =
    let l = c.names in
    let fs = facts_view c.args.facts.now in
    let n = entity_name c.args.entity.now in
    let all = (entity_view c.args.entity.now).tags in
    let k = rc_str_bytes c.in-Some.name.now in
    let v = partial_view c.in_ok-value.value in
    let made = parts_view l.tags.entries in
    let way = subst (λ ks. AreUnderWay all (reduced_tag fs n) (map rc_str_bytes ks) (parts_view l.tags.entries)) c.in-Some.ensures.steps l.invariant.way in
    record {
      way =
          subst (AreUnderWay all (reduced_tag fs n) (map rc_str_bytes c.next.new.self)) (sym (c.in_ok-put.ensures.parts ∙ ap (λ j. put_at j v made) c.in_ok-key.ensures))
          (further all (reduced_tag fs n) (λ q. refl) c.tag_keys-name-items.ensures.in_order k (map rc_str_bytes c.next.new.self)
          (parts_view l.tags.entries) v way (tag_is fs n k (part_at k all) v c.in_ok-value.ensures.view));
      restricted = c.in_ok-put.ensures.restricted c.in_ok-value.ensures.restricted l.invariant.restricted;
    }

pub returns-clause-parts : goal.returns-clause-parts
returns-clause-parts c =
    ended (entity_view c.args.entity.now).tags (reduced_tag (facts_view c.args.facts.now) (entity_name c.args.entity.now))
    (map rc_str_bytes c.names.name-iterator) (parts_view c.names.tags.entries) c.names.invariant.way
    (ap (map rc_str_bytes) c.in-None.ensures.steps.0)

pub returns-clause-restricted : goal.returns-clause-restricted
returns-clause-restricted c = c.names.invariant.restricted
