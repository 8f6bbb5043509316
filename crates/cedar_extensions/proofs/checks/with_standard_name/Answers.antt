use Rattle.std.proofs.Common.{◌∙◌}
use Rattle.cedar_extensions.proofs.Found.{found_in_first, found_in_rest}
use Rattle.cedar_extensions.specs.Extension.{functions_of}
use Rattle.cedar_extensions.specs.Refused.{has_standard_name}
use Rattle.cedar_extensions.proofs.checks.with_standard_name.Goals as goal

pub returns-in-Some-with_standard_name : goal.returns-in-Some-with_standard_name
returns-in-Some-with_standard_name g c =
    c.extensions.invariant ∙ found_in_first has_standard_name functions_of c.extensions.rest.now
    c.in-Some.extension.now c.in-Some.others.now c.in-Some-with_standard_name.function.now c.in-Some.ensures.cases.0
    c.in-Some-with_standard_name.ensures

pub extensions-preserved : goal.extensions-preserved
extensions-preserved g c =
    c.extensions.invariant ∙ found_in_rest has_standard_name functions_of c.extensions.rest.now
    c.in-Some.extension.now c.in-Some.others.now c.in-Some.ensures.cases.0 c.in-None.ensures
