-- The entries of a response's maps, as a plan has them.
use Rattle.std.specs.Prelude.{List, map, Option}
use Rattle.cedar_model.specs.Terms.{Text, ValueType}
use Rattle.cedar_expressions.specs.View.{view}
use Rattle.cedar_layers.specs.Policies.{policy_id_text}
use Rattle.cedar_authorizer.specs.responses.Rows.{TrueEntry, ResidualEntry}
use Rattle.cedar_plan.specs.Planned.{Planned, planned}

abbrev pub true_ids : List TrueEntry → List Text
true_ids es = map (λ e. policy_id_text e.0) es

-- what a residual asks of a row, under its policy's id
abbrev pub planned_entry : Text → Option ValueType → ResidualEntry → Text × Planned
planned_entry n a e = (policy_id_text e.0, planned n a (view e.1.0.value))

abbrev pub planned_entries : Text → Option ValueType → List ResidualEntry → List (Text × Planned)
planned_entries n a es = map (planned_entry n a) es
