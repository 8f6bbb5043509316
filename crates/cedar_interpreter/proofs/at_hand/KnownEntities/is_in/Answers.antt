use Rattle.std.proofs.Common.{sym, ap, ◌∙◌}
use Rattle.cedar_names.specs.declared.names.Var.{Var}
use Rattle.cedar_names.specs.Names.{uid_name}
use Rattle.cedar_names.specs.Leaves.{variable_view}
use Rattle.cedar_interpreter.specs.Known.{known_for, known_view, within}
use Rattle.cedar_interpreter.proofs.Looked.{within_nothing}
use Rattle.cedar_interpreter.proofs.at_hand.KnownEntities.is_in.Goals as goal

pub returns-in-Context : goal.returns-in-Context
returns-in-Context c =
    let d = uid_name c.args.uid.now in
    let e = uid_name c.args.other.now in
    within_nothing d e ∙ ap (λ (x : Var). within (known_view (known_for c.args.self.now (variable_view x))) d e) (sym c.in-Context.is)
