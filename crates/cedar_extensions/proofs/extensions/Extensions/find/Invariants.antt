use Rattle.std.proofs.Common.{◌≡◌, length}
use Rattle.cedar_names.specs.Names.{name_text}
use Rattle.cedar_extensions.specs.Extension.{all_functions}
use Rattle.cedar_extensions.specs.Extensions.{func_of}
use Rattle.cedar_extensions.specs.Functions.{function_among}
use Rattle.cedar_extensions.proofs.extensions.Extensions.find.Given as goal

abbrev pub invariant-extensions : goal.invariant-extensions
invariant-extensions g l =
    func_of l.self (name_text l.name) ≡ function_among (name_text l.name) (all_functions l.rest)

abbrev pub decreases-extensions : goal.decreases-extensions
decreases-extensions g l = length l.rest
