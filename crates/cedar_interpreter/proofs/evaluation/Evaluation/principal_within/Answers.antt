use Rattle.std.proofs.Common.{sym, subst, refl, IfSome}
use Rattle.std.specs.Prelude.{◌≡◌}
use Rattle.cedar_model.specs.Failures.{answers_bool}
use Rattle.cedar_model.specs.Settings.{RequestPart}
use Rattle.cedar_model.specs.Rules as Rules
use Rattle.cedar_names.specs.declared.operators.BinaryOp.{BinaryOp}
use Rattle.cedar_names.specs.Leaves.{binary_view}
use Rattle.cedar_names.specs.Names.{uid_name}
use Rattle.cedar_values.specs.Residuals.{partial_view}
use Rattle.cedar_layers.specs.Stores.{store_view}
use Rattle.cedar_interpreter.specs.Settings.{evaluation_setting}
use Rattle.cedar_interpreter.proofs.Within.{within_parts}
use Rattle.cedar_interpreter.proofs.evaluation.Evaluation.principal_within.Goals as goal

pub returns-in-Some-entity_at_hand : goal.returns-in-Some-entity_at_hand
returns-in-Some-entity_at_hand g c =
    subst (λ (op : BinaryOp). IfSome c.is_principal_in.result (λ b. (r : RequestPart) → Rules.binary_of_parts (evaluation_setting r c.args.self.now) (binary_view op) (partial_view c.args.left.now) (partial_view c.args.right.now) ≡ answers_bool b))
    (sym c.in-In.is)
    (within_parts (λ r. evaluation_setting r c.args.self.now) (store_view c.args.self.now.given.now.entities.now) (λ r. refl)
    (partial_view c.args.left.now) (partial_view c.args.right.now) (uid_name c.in-Some.uid.now) (uid_name c.in-Some-entity_at_hand.other.now)
    c.is_principal_in.result c.in-Some.ensures c.in-Some-entity_at_hand.ensures c.is_principal_in.ensures)
