use Rattle.std.proofs.Common.{◌∙◌}
use Rattle.cedar_restricted.proofs.Maps.{exprs_of_map}
use Rattle.cedar_reasons.proofs.contexts.reduced_values.Goals as goal

pub returns : goal.returns
returns c =
    exprs_of_map c.in_ok-keys.keys.items c.in_ok-keys.parts.items c.in_ok-map_under.field-0 c.in_ok-keys.ensures.keys c.in_ok-map_under.ensures
    ∙ c.in_ok-keys.ensures.fields
