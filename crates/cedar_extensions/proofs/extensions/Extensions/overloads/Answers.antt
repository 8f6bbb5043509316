use Rattle.std.proofs.Common.{sym, ap, ◌∙◌, Bool, ◌||◌, map}
use Rattle.cedar_model.specs.Outcomes.{has_text}
use Rattle.cedar_names.specs.Names.{name_text}
use Rattle.cedar_extensions.specs.Extension.{all_overloading_types}
use Rattle.cedar_extensions.specs.Extensions.{extensions_in, has_standard}
use Rattle.cedar_extensions.specs.Standard.{overloaded_if}
use Rattle.cedar_extensions.proofs.Texts.{has_text-append}
use Rattle.cedar_extensions.proofs.extensions.Extensions.overloads.Goals as goal

pub returns-then-standard_overloads : goal.returns-then-standard_overloads
returns-then-standard_overloads g c =
    sym (has_text-append (name_text c.args.name.now) (overloaded_if (has_standard c.args.self.now))
    (map name_text (all_overloading_types (extensions_in c.args.self.now)))
    ∙ ap (λ (b : Bool). b || has_text (name_text c.args.name.now) (map name_text (all_overloading_types (extensions_in c.args.self.now))))
    (sym c.standard_overloads.ensures ∙ c.if-standard_overloads.true))

pub returns-else-standard_overloads : goal.returns-else-standard_overloads
returns-else-standard_overloads g c =
    c.made_overloads.ensures
    ∙ sym (has_text-append (name_text c.args.name.now) (overloaded_if (has_standard c.args.self.now))
    (map name_text (all_overloading_types (extensions_in c.args.self.now)))
    ∙ ap (λ (b : Bool). b || has_text (name_text c.args.name.now) (map name_text (all_overloading_types (extensions_in c.args.self.now))))
    (sym c.standard_overloads.ensures ∙ c.if-standard_overloads.false))
