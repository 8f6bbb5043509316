use Rattle.std.proofs.Common.{List, Option, sym, ap, ◌∙◌, map}
use Rattle.cedar_model.specs.Terms.{Text}
use Rattle.cedar_model.specs.Refusals.{first_repeated}
use Rattle.cedar_names.specs.declared.names.Name.{Name}
use Rattle.cedar_names.specs.Names.{name_text}
use Rattle.cedar_extensions.proofs.Checked.{none_repeated, so_of_repeated, no_name}
use Rattle.cedar_extensions.specs.Extension.{all_functions}
use Rattle.cedar_extensions.specs.Iterators.{function_names_left}
use Rattle.cedar_extensions.specs.Refused.{repeated_name, IsNameRefused}
use Rattle.cedar_extensions.proofs.checks.check_names.Goals as goal

pub returns-clause-ok : goal.returns-clause-ok
returns-clause-ok g c =
    ap (λ (ns : List Name). first_repeated (map name_text ns)) (sym c.new.ensures)
    ∙ none_repeated function_names_left c.new.result c.in-Ok.names.entries c.in-Ok.ensures.ok

pub returns-in-Err-clause-refused : goal.returns-in-Err-clause-refused
returns-in-Err-clause-refused g c =
    so_of_repeated function_names_left c.new.result (λ (o : Option Text). IsNameRefused o c.name_refused.result)
    (repeated_name (all_functions c.args.extensions.now)) c.in-Err.error
    (ap (λ (ns : List Name). first_repeated (map name_text ns)) c.new.ensures) c.in-Err.ensures.duplicate
    (no_name (repeated_name (all_functions c.args.extensions.now)) c.name_refused.result) c.name_refused.ensures
