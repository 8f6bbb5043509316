use Rattle.std.proofs.Common.{sym, ◌∙◌}
use Rattle.cedar_names.specs.Names.{uid_name}
use Rattle.cedar_values.specs.Residuals.{partial_view}
use Rattle.cedar_layers.specs.Stores.{store_view}
use Rattle.cedar_names.specs.EqualityLaws.{entity_eq-decides}
use Rattle.cedar_interpreter.proofs.Within.{known_within_if}
use Rattle.cedar_interpreter.proofs.evaluation.Evaluation.is_principal_in.Goals as goal

pub returns-then-eq : goal.returns-then-eq
returns-then-eq g c =
    let given = c.args.self.now.given.now in
    known_within_if (store_view given.entities.now) (partial_view given.principal) given.known.principal
    (uid_name c.in-Some.principal.now) (uid_name c.args.uid.now) (uid_name c.args.other.now) c.is_in.result
    given.principal_known c.in-Some.ensures
    ((entity_eq-decides (uid_name c.in-Some.principal.now) (uid_name c.args.uid.now)).0 (sym c.eq.ensures ∙ c.if-eq.true))
    c.is_in.ensures
