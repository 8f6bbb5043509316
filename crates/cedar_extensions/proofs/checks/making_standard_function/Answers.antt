use Rattle.std.proofs.Common.{◌∙◌}
use Rattle.cedar_extensions.proofs.Found.{found_in_first, found_in_rest}
use Rattle.cedar_extensions.specs.Extension.{functions_of}
use Rattle.cedar_extensions.specs.Refused.{makes_standard}
use Rattle.cedar_extensions.proofs.checks.making_standard_function.Goals as goal

pub returns-in-Some-making_standard : goal.returns-in-Some-making_standard
returns-in-Some-making_standard g c =
    c.extensions.invariant ∙ found_in_first makes_standard functions_of c.extensions.rest.now
    c.in-Some.extension.now c.in-Some.others.now c.in-Some-making_standard.function.now c.in-Some.ensures.cases.0
    c.in-Some-making_standard.ensures

pub extensions-preserved : goal.extensions-preserved
extensions-preserved g c =
    c.extensions.invariant ∙ found_in_rest makes_standard functions_of c.extensions.rest.now
    c.in-Some.extension.now c.in-Some.others.now c.in-Some.ensures.cases.0 c.in-None.ensures
