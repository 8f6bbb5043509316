use Rattle.std.proofs.Common.{◌∙◌, ap}
use Rattle.cedar_names.specs.Names.{uid_name}
use Rattle.cedar_layers.specs.Stores.{entity_view}
use Rattle.cedar_lints.specs.Keys.{Sheet, noted_each, nothing}
use Rattle.cedar_lints.specs.Lookalikes.{Lookalike, each_of, listed_lookalikes, lookalike_key, part_view, parts_of, paths_under}
use Rattle.cedar_lints.proofs.Passing.{noted_more, noted_all}
use Rattle.cedar_lints.proofs.lookalikes.lookalikes_in_entities.Goals as goal

pub entities-init : goal.entities-init
entities-init c =
    let p = part_view c.args.part in
    ap (λ s. noted_each lookalike_key s (listed_lookalikes p c.into_iter-uid-iterator.result)) c.fresh-sheet.ensures

pub entities-preserved : goal.entities-preserved
entities-preserved c =
    let p = part_view c.args.part in
    noted_more lookalike_key _ _ _
    (each_of (uid_name c.in-Some.uid.now) (paths_under (parts_of p (entity_view c.in-Some.entity.now.now))))
    (listed_lookalikes p c.next.new.self) (listed_lookalikes p c.entities.uid-iterator)
    (ap (listed_lookalikes p) c.in-Some.ensures.steps) c.in_ok-note_entity.ensures c.entities.invariant

pub returns : goal.returns
returns c =
    let p = part_view c.args.part in
    let all = noted_all lookalike_key _ _ _ (ap (listed_lookalikes p) c.in-None.ensures.steps.0) c.entities.invariant
    ∙ ap (λ es. noted_each lookalike_key (nothing Lookalike) (listed_lookalikes p es))
    c.into_iter-uid-iterator.ensures.into_iter_gives.0 in
    record {
      listing = c.in_ok-listed.listed.entries;
      is_listing = record
          { shows = c.in_ok-listed.ensures; in_order = c.into_iter-uid-iterator.ensures.into_iter_gives.5 };
      are = c.taken.ensures ∙ ap (λ (s : Sheet Lookalike). s.items) all;
    }
