-- What may be stored.
use Rattle.std.proofs.Common.{◌≡◌, refl, true}
use Rattle.cedar_model.specs.Failures.{PartialValue as Part, value, residual}
use Rattle.cedar_model.specs.Restricted.{IsSoundPart}
use Rattle.cedar_layers.specs.Parts.{is_restricted_part}

-- what an evaluation answers may be stored
pub sound_part : (p : Part) → IsSoundPart p → is_restricted_part p ≡ true
sound_part (value v) h = refl
sound_part (residual t) h = h
