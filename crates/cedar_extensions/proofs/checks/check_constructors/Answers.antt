use Rattle.std.proofs.Common.{List, Option, sym, ap, ◌∙◌, map}
use Rattle.cedar_model.specs.Terms.{Text}
use Rattle.cedar_model.specs.Refusals.{first_repeated}
use Rattle.cedar_names.specs.declared.names.Name.{Name}
use Rattle.cedar_names.specs.Names.{name_text}
use Rattle.cedar_extensions.proofs.Checked.{none_repeated, so_of_repeated, no_type}
use Rattle.cedar_extensions.specs.Extension.{all_functions}
use Rattle.cedar_extensions.specs.Iterators.{constructed_left}
use Rattle.cedar_extensions.specs.Refused.{repeated_type, IsTypeRefused}
use Rattle.cedar_extensions.proofs.checks.check_constructors.Goals as goal

pub returns-clause-ok : goal.returns-clause-ok
returns-clause-ok g c =
    ap (λ (ns : List Name). first_repeated (map name_text ns)) (sym c.new.ensures)
    ∙ none_repeated constructed_left c.new.result c.in-Ok.types.entries c.in-Ok.ensures.ok

pub returns-in-Err-clause-refused : goal.returns-in-Err-clause-refused
returns-in-Err-clause-refused g c =
    so_of_repeated constructed_left c.new.result (λ (o : Option Text). IsTypeRefused o c.type_refused.result)
    (repeated_type (all_functions c.args.extensions.now)) c.in-Err.error
    (ap (λ (ns : List Name). first_repeated (map name_text ns)) c.new.ensures) c.in-Err.ensures.duplicate
    (no_type (repeated_type (all_functions c.args.extensions.now)) c.type_refused.result) c.type_refused.ensures
