use Rattle.std.proofs.Common.{◌∙◌}
use Rattle.cedar_names.specs.Names.{name_text}
use Rattle.cedar_extensions.proofs.Found.{found_in_first, found_in_rest}
use Rattle.cedar_extensions.specs.Extension.{functions_of}
use Rattle.cedar_extensions.specs.Functions.{has_name}
use Rattle.cedar_extensions.proofs.extensions.Extensions.find.Goals as goal

pub returns-in-Some-find : goal.returns-in-Some-find
returns-in-Some-find g c =
    c.extensions.invariant ∙ found_in_first (has_name (name_text c.args.name.now)) functions_of c.extensions.rest.now
    c.in-Some.extension.now c.in-Some.others.now c.in-Some-find.function.now c.in-Some.ensures.cases.0
    c.in-Some-find.ensures

pub extensions-preserved : goal.extensions-preserved
extensions-preserved g c =
    c.extensions.invariant ∙ found_in_rest (has_name (name_text c.args.name.now)) functions_of c.extensions.rest.now
    c.in-Some.extension.now c.in-Some.others.now c.in-Some.ensures.cases.0 c.in-None.ensures
