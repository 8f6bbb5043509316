-- Where a part stands in a JSON value.
use Rattle.std.specs.Prelude.{ℕ, List, map}
use Rattle.std.specs.Rc.{rc_str_bytes}
use Rattle.cedar_model.specs.Terms.{Text}
use Rattle.cedar_sql_columns.specs.declared.paths.JsonPath.{JsonPath}
use Rattle.cedar_sql_columns.specs.declared.paths.PathStep.{PathStep}
use Rattle.cedar_sql_columns.specs.declared.paths.PathStep.TheVariants as steps

-- to the member of a key, or to the element of an index
pub data Step : Type 0 where
  at_key : Text → Step
  at_index : ℕ → Step

abbrev pub step_view : PathStep → Step
step_view (steps.Key k) = at_key (rc_str_bytes k)
step_view (steps.Index i) = at_index i

-- the way as plain data
abbrev pub path_view : JsonPath → List Step
path_view p = map step_view p.steps.items
