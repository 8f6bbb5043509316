use Rattle.std.proofs.Common.{ap, ◌∙◌}
use Rattle.cedar_values.specs.Sound.{Placed, same_placed}
use Rattle.cedar_values.proofs.value.ValueClone.clone.Goals as goal

pub returns : goal.returns
returns c =
    record { cases = same_placed _ _ (c.in_ok-value.ensures.cases.0 ∙ ap (λ (p : Placed). p.what) c.self.view_is) (ap (λ (p : Placed). p.loc) c.self.view_is) (c.in_ok-value.ensures.cases.1 ∙ ap (λ (p : Placed). p.inside) c.self.view_is) }
