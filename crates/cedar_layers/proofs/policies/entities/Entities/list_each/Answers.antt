use Rattle.std.proofs.Common.{◌≡◌, ◌∙◌, ap, sym, List}
use Rattle.cedar_names.specs.declared.names.EntityUID.{EntityUID}
use Rattle.cedar_layers.specs.declared.policies.entities.Entity.{Entity}
use Rattle.cedar_layers.specs.Stores.{Standing, standing, shown, or_below}
use Rattle.cedar_layers.proofs.Stores.{shown_next, none_below}
use Rattle.cedar_layers.proofs.policies.entities.Entities.list_each.Goals as goal

pub entries-preserved : goal.entries-preserved
entries-preserved c =
    let before = shown c.entries.listed.entries in
    let rest = c.next.new.self in
    ap (λ (f : Standing). or_below f (standing rest)) c.in_ok-list.ensures
    ∙ shown_next before c.in-Some.uid.now c.in-Some.entity.now rest
    ∙ ap (λ (es : List (EntityUID × Entity)). or_below before (standing es)) (sym c.in-Some.ensures.steps) ∙ c.entries.invariant

pub returns : goal.returns
returns c =
    let listed = shown c.entries.listed.entries in
    sym (none_below listed)
    ∙ ap (λ (es : List (EntityUID × Entity)). or_below listed (standing es)) (sym c.in-None.ensures.steps.0) ∙ c.entries.invariant
