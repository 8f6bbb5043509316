use Rattle.std.proofs.Common.{◌∙◌, sym}
use Rattle.cedar_extensions.proofs.Found.{found_in_first, found_in_rest}
use Rattle.cedar_extensions.specs.Extension.{overloading_types}
use Rattle.cedar_extensions.specs.Refused.{is_standard}
use Rattle.cedar_extensions.proofs.checks.overloading_standard.Goals as goal

pub returns-in-Some-overloading_standard : goal.returns-in-Some-overloading_standard
returns-in-Some-overloading_standard g c =
    sym (c.extensions.invariant ∙ found_in_first is_standard overloading_types c.extensions.rest.now
    c.in-Some.extension.now c.in-Some.others.now c.in-Some-overloading_standard.name.now c.in-Some.ensures.cases.0
    (sym c.in-Some-overloading_standard.ensures))

pub extensions-preserved : goal.extensions-preserved
extensions-preserved g c =
    c.extensions.invariant ∙ found_in_rest is_standard overloading_types c.extensions.rest.now
    c.in-Some.extension.now c.in-Some.others.now c.in-Some.ensures.cases.0 (sym c.in-None.ensures)
