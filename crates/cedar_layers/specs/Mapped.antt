-- The values that a map has for unknowns.
use Rattle.std.specs.Prelude.{◌≡◌, Some}
use Rattle.cedar_model.specs.Terms.{Text}
use Rattle.cedar_model.specs.Values.{Represented}
use Rattle.cedar_model.specs.Chains.{Mapping}
use Rattle.cedar_model.specs.Restricted.{IsSound}

-- each value that is given for an unknown is sound
abbrev pub IsSoundMapping : Mapping → Type 0
IsSoundMapping m = (n : Text) (v : Represented) → m n ≡ Some v → IsSound v
