use Rattle.std.proofs.Common.{◌≡◌, length}
use Rattle.std.specs.List.{find}
use Rattle.cedar_extensions.specs.Extension.{overloading_types}
use Rattle.cedar_extensions.specs.Refused.{is_standard}
use Rattle.cedar_extensions.proofs.extension.Extension.overloading_standard.Given as goal

abbrev pub invariant-types : goal.invariant-types
invariant-types g l = find is_standard (overloading_types l.self) ≡ find is_standard l.rest

abbrev pub decreases-types : goal.decreases-types
decreases-types g l = length l.rest
