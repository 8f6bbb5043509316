use Rattle.std.proofs.Common.{◌||◌, ◌∙◌, ap, sym, subst}
use Rattle.std.specs.List.{IsDistinct}
use Rattle.std.specs.Option.{is_some}
use Rattle.cedar_model.specs.Outcomes.{entity_eq}
use Rattle.cedar_model.specs.Settings.{is_among}
use Rattle.cedar_layers.specs.Stores.{stored_entity}
use Rattle.cedar_scope_actions.proofs.Listing.{names_distinct}
use Rattle.cedar_scope_actions.proofs.listed.candidates.Goals as goal

pub returns-clause-has : goal.returns-clause-has
returns-clause-has c =
    λ n. ap (is_among n) c.in_ok-listed.ensures.names ∙ c.in_ok-add_stored.ensures n
    ∙ ap (λ b. b || is_some (stored_entity c.args.entities.now n)) (c.in_ok-uids.ensures n)

pub returns-clause-once : goal.returns-clause-once
returns-clause-once c =
    subst (IsDistinct entity_eq) (sym c.in_ok-listed.ensures.names) (names_distinct c.add_stored.new.uids.keys c.in_ok-listed.ensures.tied)
