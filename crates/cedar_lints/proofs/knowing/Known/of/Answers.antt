use Rattle.std.proofs.Common.{◌∙◌, ◌∷◌, ap}
use Rattle.cedar_names.specs.Names.{uid_name}
use Rattle.cedar_layers.specs.Stores.{entity_view}
use Rattle.cedar_lints.specs.Knowing.{names_in, nothing_known, with_each}
use Rattle.cedar_lints.proofs.Passing.{known_more, known_all}
use Rattle.cedar_lints.proofs.knowing.Known.of.Goals as goal

pub entities-init : goal.entities-init
entities-init c =
    ap (λ k. with_each k (names_in c.into_iter-uid-iterator.result)) c.new-known.ensures

pub entities-preserved : goal.entities-preserved
entities-preserved c =
    known_more _ _ _ (uid_name c.in-Some.uid.now ∷ (entity_view c.in-Some.entity.now.now).ancestors)
    (names_in c.next.new.self) (names_in c.entities.uid-iterator) (ap names_in c.in-Some.ensures.steps)
    c.in_ok-add_stored.ensures c.entities.invariant

pub returns : goal.returns
returns c = record {
  listing = c.in_ok-listed.listed.entries;
  is_listing = record { shows = c.in_ok-listed.ensures; in_order = c.into_iter-uid-iterator.ensures.into_iter_gives.5 };
  knows =
      known_all _ _ _ (ap names_in c.in-None.ensures.steps.0) c.entities.invariant
      ∙ ap (λ es. with_each nothing_known (names_in es)) c.into_iter-uid-iterator.ensures.into_iter_gives.0;
}
