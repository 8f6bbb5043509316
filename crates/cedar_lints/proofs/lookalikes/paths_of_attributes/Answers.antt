use Rattle.std.proofs.Common.{◌++◌, ◌∙◌, map, ap}
use Rattle.std.specs.Rc.{rc_str_bytes}
use Rattle.cedar_layers.specs.Stores.{entity_view}
use Rattle.cedar_lints.specs.Lookalikes.{found_paths, named_paths}
use Rattle.cedar_lints.specs.Paths.{paths_view}
use Rattle.cedar_model.specs.Settings.{part_at}
use Rattle.cedar_lints.proofs.Passing.{pushed_more, pushed_all}
use Rattle.cedar_lints.proofs.lookalikes.paths_of_attributes.Goals as goal

pub names-preserved : goal.names-preserved
names-preserved c =
    let ps = (entity_view c.args.entity.now).attributes in
    let k = rc_str_bytes c.in-Some.name.now in
    pushed_more _ _ _ (found_paths k (part_at k ps)) (named_paths (map rc_str_bytes c.next.new.self) ps)
    (named_paths (map rc_str_bytes c.names.name-iterator) ps)
    (ap (λ ks. named_paths (map rc_str_bytes ks) ps) c.in-Some.ensures.steps)
    (c.in_ok-push_found.ensures ∙ ap (λ o. paths_view c.names.found.items ++ found_paths k o)
    (c.get.ensures.value ∙ ap (λ t. part_at t ps) c.as_str.ensures.value))
    c.names.invariant

pub returns : goal.returns
returns c =
    let ps = (entity_view c.args.entity.now).attributes in
    pushed_all _ _ _ (ap (λ ks. named_paths (map rc_str_bytes ks) ps) c.in-None.ensures.steps.0) c.names.invariant
