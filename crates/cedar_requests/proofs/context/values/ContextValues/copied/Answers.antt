use Rattle.std.proofs.Common.{◌∙◌, ap, sym}
use Rattle.cedar_values.specs.Sound.{whats_at}
use Rattle.cedar_requests.specs.ContextValues.{ValueMap, held_values, value_locs}
use Rattle.cedar_requests.proofs.Copies.{whats_at-copied, locs-copied}
use Rattle.cedar_requests.proofs.context.values.ContextValues.copied.Goals as goal

pub returns-in_ok-new-in-Own-clause-values : goal.returns-in_ok-new-in-Own-clause-values
returns-in_ok-new-in-Own-clause-values c =
    let seen = λ (m : ValueMap). whats_at m.entries in
    ap seen (c.of_shared.ensures ∙ c.in_ok-new-in-Own.ensures.ok)
    ∙ whats_at-copied c.in-Own.values.entries c.in_ok-copy-in-Own.copy.entries c.in_ok-copy-in-Own.ensures.cases
    ∙ ap seen (sym (ap held_values c.in-Own.is) ∙ c.self.view_is)

pub returns-in_ok-new-in-Own-clause-locs : goal.returns-in_ok-new-in-Own-clause-locs
returns-in_ok-new-in-Own-clause-locs c =
    ap value_locs (c.of_shared.ensures ∙ c.in_ok-new-in-Own.ensures.ok)
    ∙ locs-copied c.in-Own.values.entries c.in_ok-copy-in-Own.copy.entries c.in_ok-copy-in-Own.ensures.cases
    ∙ ap value_locs (sym (ap held_values c.in-Own.is) ∙ c.self.view_is)
