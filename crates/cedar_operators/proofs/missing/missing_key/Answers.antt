use Rattle.std.proofs.Common.{refl}
use Rattle.std.proofs.lemmas.List.{length-map}
use Rattle.cedar_operators.proofs.missing.missing_key.Goals as goal

pub returns : goal.returns
returns g c =
    rw (c.in_ok-attr.ensures.cases, c.in_ok-available_attrs.ensures, c.keys.ensures.rest, c.len.ensures.len, length-map, length-map) refl
