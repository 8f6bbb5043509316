use Rattle.std.proofs.Common.{◌≡◌, length}
use Rattle.cedar_standard_functions.specs.Standard.{among}
use Rattle.cedar_standard_functions.proofs.function.among.Given as goal

abbrev pub invariant-functions : goal.invariant-functions
invariant-functions l = among l.name l.functions ≡ among l.name l.rest

abbrev pub decreases-functions : goal.decreases-functions
decreases-functions l = length l.rest
