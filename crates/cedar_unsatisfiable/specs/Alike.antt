-- Policies that say the same.
use Rattle.std.specs.Prelude.{Bool, true, false, ◌&&◌}
use Rattle.cedar_model.specs.Policies.{Effect, permit, forbid}
use Rattle.cedar_names.specs.Equality.{term_eq}
use Rattle.cedar_layers.specs.Policies.{PolicyView}

abbrev pub effect_eq : Effect → Effect → Bool
effect_eq permit permit = true
effect_eq permit forbid = false
effect_eq forbid permit = false
effect_eq forbid forbid = true

-- whether they have one effect, one scope and one condition; ids and annotations may differ
abbrev pub say_the_same : PolicyView → PolicyView → Bool
say_the_same p q =
    effect_eq p.effect q.effect
    && (term_eq p.principal_constraint q.principal_constraint
    && (term_eq p.action_constraint q.action_constraint
    && (term_eq p.resource_constraint q.resource_constraint && term_eq p.when_clause q.when_clause)))
