-- What an SQL expression of a condition is worth on a row: 1, 0 or NULL, as the condition is true, false or errs.
use Rattle.std.specs.Prelude.{◌≡◌, List, Option, Some, None, option_map}
use Rattle.std.specs.Rc.{rc_str_bytes}
use Rattle.sqlite_value.specs.declared.value.Value.{Value}
use Rattle.sqlite_value.specs.declared.value.Value.TheVariants.{Null}
use Rattle.sqlite_value.specs.Order.{Row}
use Rattle.sqlite_sql.specs.Ops.{from_truth}
use Rattle.sqlite_sql.specs.Term.{Term, eval}
use Rattle.cedar_model.specs.Terms.{EntityName}
use Rattle.cedar_model.specs.Outcomes.{gives, errs, bool_of}
use Rattle.cedar_model.specs.Settings.{StoredEntity}
use Rattle.cedar_filter.specs.declared.conditions.Condition.{Condition}
use Rattle.cedar_filter.specs.declared.filters.Filter.{Filter}
use Rattle.cedar_filter.specs.Rows.{Told, tells, untold, condition_told}
use Rattle.cedar_filter.specs.Conditions.{condition_says}
use Rattle.cedar_filter.specs.Filters.{filter_row, filter_term}
use Rattle.cedar_sql.specs.declared.columns.Columns.{Columns}
use Rattle.cedar_sql.specs.declared.answers.NoSql.{NoSql}
use Rattle.cedar_sql.specs.declared.answers.NoSql.TheVariants as refusals
use Rattle.cedar_sql.specs.Columns.{Represents}
use Rattle.cedar_sql.specs.Terms.{row_env}

-- 1 for true, 0 for false, NULL for an error; what is not told has no value
abbrev pub told_value : Told → Option Value
told_value (tells (gives v)) = option_map (λ b. from_truth (Some b)) (bool_of v)
told_value (tells (errs k)) = Some Null
told_value untold = None

-- on each row of the table, the expression is worth what the entity of that row tells
abbrev pub IsTruthOnRows : Columns → (EntityName → StoredEntity → Told) → Term → Type 0
IsTruthOnRows columns truth t =
    (parameters row : Row) (later : List Row) (e : EntityName) (x : StoredEntity) → Represents columns row e x
    → told_value (truth e x) ≡ Some (eval t (row_env parameters row later))

-- the expression is the condition, on each row of the table
abbrev pub IsSqlOf : Columns → Condition → Term → Type 0
IsSqlOf columns c = IsTruthOnRows columns (λ e x. condition_says e x c)

-- the expression is the filter, on each row of the table
abbrev pub IsSqlOfFilter : Columns → Filter → Term → Type 0
IsSqlOfFilter columns f =
    IsTruthOnRows columns (λ e x. condition_told (rc_str_bytes (filter_row f).name) e x (filter_term f))

-- the refusal names this part; out of memory names none
abbrev pub IsUnsaid : Option Condition → NoSql → Type 0
IsUnsaid part (refusals.Part c) = part ≡ Some c.now
IsUnsaid part refusals.Memory = Unit {0}
