-- Terms on the rows of the type that is asked for.
use Rattle.std.specs.Prelude.{ℕ, pos, Option, Some, None, if◌then◌else◌}
use Rattle.sqlite_value.specs.declared.value.Value.TheVariants as sql
use Rattle.sqlite_sql.specs.declared.ops.BinaryOp.TheVariants as by
use Rattle.sqlite_sql.specs.Term.{Term, lit, op2}
use Rattle.cedar_model.specs.Terms.{Text, ValueType, bool_type, long_type, string_type, set_type, record_type}
use Rattle.cedar_model.specs.Terms.{entity_type, extension_type}
use Rattle.cedar_model.specs.Outcomes.{text_eq}
use Rattle.cedar_names.specs.Names.{type_text}
use Rattle.cedar_sql.specs.declared.columns.RowType.{RowType}
use Rattle.cedar_sql.specs.declared.columns.RowType.TheVariants.{One, Several}
use Rattle.cedar_sql.specs.Terms.{number, equals, row_column}

-- the row has this type at this place, and the term holds
abbrev pub tested_term : Text → ℕ → Term → Term
tested_term t place a = op2 by.And (equals (row_column place) (lit (sql.Text t))) a

-- the term on rows that can stand for an unknown of this type, on others 0: where the table holds several types, the row
-- is asked for its own
abbrev pub typed_term : Option ValueType → RowType → Term → Term
typed_term None r a = a
typed_term (Some bool_type) r a = number (pos 0)
typed_term (Some long_type) r a = number (pos 0)
typed_term (Some string_type) r a = number (pos 0)
typed_term (Some set_type) r a = number (pos 0)
typed_term (Some record_type) r a = number (pos 0)
typed_term (Some (entity_type t)) (One own) a = if text_eq (type_text own) t then a else number (pos 0)
typed_term (Some (entity_type t)) (Several place) a = tested_term t place a
typed_term (Some (extension_type n)) r a = number (pos 0)
