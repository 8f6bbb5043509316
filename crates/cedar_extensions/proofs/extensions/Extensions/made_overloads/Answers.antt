use Rattle.std.proofs.Common.{true, false, sym, ◌∙◌}
use Rattle.cedar_names.specs.Names.{name_text}
use Rattle.cedar_extensions.proofs.Texts.{has_text-parts}
use Rattle.cedar_extensions.specs.Extension.{overloading_types}
use Rattle.cedar_extensions.proofs.extensions.Extensions.made_overloads.Goals as goal

pub returns-then-overloads : goal.returns-then-overloads
returns-then-overloads g c =
    sym (c.extensions.invariant ∙ has_text-parts (name_text c.args.name.now) overloading_types c.extensions.rest.now
    c.in-Some.extension.now c.in-Some.others.now true c.in-Some.ensures.cases.0
    (sym c.overloads.ensures ∙ c.if-overloads.true))

pub extensions-preserved : goal.extensions-preserved
extensions-preserved g c =
    c.extensions.invariant ∙ has_text-parts (name_text c.args.name.now) overloading_types c.extensions.rest.now
    c.in-Some.extension.now c.in-Some.others.now false c.in-Some.ensures.cases.0
    (sym c.overloads.ensures ∙ c.if-overloads.false)
