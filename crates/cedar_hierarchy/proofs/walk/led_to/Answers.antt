use Rattle.std.proofs.Common.{◌≡◌, sym, ap, ◌∙◌, map, length, ◌+◌, ◌<◌, ◌≤◌, ℕ, List, subst, arith}
use Rattle.std.specs.List.{IsDistinct}
use Rattle.std.proofs.lemmas.Map.Keys.{IsDistinct-from_sorted}
use Rattle.cedar_model.specs.Terms.{EntityName}
use Rattle.cedar_model.specs.Outcomes.{entity_eq}
use Rattle.cedar_names.specs.Names.{uid_name}
use Rattle.cedar_hierarchy.specs.Walks.{marked_each}
use Rattle.cedar_hierarchy.specs.Listed.{listed_parents}
use Rattle.cedar_hierarchy.proofs.Listing.{all_listed, all_are_listed}
use Rattle.cedar_hierarchy.proofs.Passing.{length-names, within_names, take_one_more, take_all_names, same_led_to, fewer_left}
use Rattle.cedar_hierarchy.proofs.Marking.{names_distinct}
use Rattle.cedar_hierarchy.proofs.Walking.{HasFound, found_first, found_next, found_all, found-bounded}
use Rattle.cedar_hierarchy.proofs.walk.led_to.Goals as goal

pub returns : goal.returns
returns c =
    let parents = listed_parents c.args.parents.now.entries in
    let a = uid_name c.args.uid.now in
    let us = c.walk.found.items in
    let long : c.walk.found.len ≡ length us = c.walk.found.ok.0 in
    let ended : length us ≤ c.walk.done = omega arith in
    same_led_to parents a c.walk.reached.keys us c.walk.invariant.same (found_all parents a c.walk.done (map uid_name us) (take_all_names us c.walk.done ended) c.walk.invariant.walked)

pub walk-init : goal.walk-init
walk-init c =
    let parents = listed_parents c.args.parents.now.entries in
    let a = uid_name c.args.uid.now in
    let keys = c.args.known.now.keys in
    let known = map uid_name keys in
    let names : map uid_name c.mark_parents.new.found.items ≡ marked_each (parents a) known = c.in_ok-mark_parents.ensures.found ∙ ap (marked_each (parents a)) c.in_ok-found.ensures in
    let apart : IsDistinct entity_eq known = names_distinct keys (IsDistinct-from_sorted _ keys c.len-done.ensures.ordered) in
    let size : length known ≡ c.len-done.result = length-names keys ∙ sym c.len-done.ensures.len in
    let claim : List EntityName → Type 0 = HasFound parents a c.len-done.result in
    let from : ℕ → Type 0 = λ i. HasFound parents a i (marked_each (parents a) known) in
    record {
      same = c.in_ok-mark_parents.ensures.reached;
      walked = subst claim (sym names) (subst from size (found_first parents a known c.requires apart));
    }

pub walk-preserved : goal.walk-preserved
walk-preserved c =
    let parents = listed_parents c.args.parents.now.entries in
    let a = uid_name c.args.uid.now in
    let us = c.walk.found.items in
    let i = c.walk.done in
    let u = c.index.result.now in
    let long : c.walk.found.len ≡ length us = c.walk.found.ok.0 in
    let within : i < length us = omega arith in
    let names : map uid_name c.mark_parents-in-walk.new.found.items ≡ marked_each (parents (uid_name u)) (map uid_name us) = c.in_ok-mark_parents-2.ensures.found ∙ ap (λ (n : EntityName). marked_each (parents n) (map uid_name us)) c.in_ok-next.ensures in
    let claim : List EntityName → Type 0 = HasFound parents a (i + 1) in
    record {
      same = c.in_ok-mark_parents-2.ensures.reached;
      walked = subst claim (sym names) (found_next parents a (uid_name u) i (map uid_name us) (within_names us i within) (take_one_more us i u within c.index.ensures) c.walk.invariant.walked);
    }

pub walk-smaller : goal.walk-smaller
walk-smaller c =
    let parents = listed_parents c.args.parents.now.entries in
    let all = all_listed c.args.parents.now.entries in
    let us = c.walk.found.items in
    let i = c.walk.done in
    let long : c.walk.found.len ≡ length us = c.walk.found.ok.0 in
    let within : i < length us = omega arith in
    fewer_left (length all) (length (map uid_name us)) i (found-bounded parents (uid_name c.args.uid.now) i (map uid_name us) all (all_are_listed c.args.parents.now.entries) c.walk.invariant.walked) (within_names us i within)
