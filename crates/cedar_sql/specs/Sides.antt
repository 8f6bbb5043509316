-- How an operand of a condition is written in SQL: of which sort it is, and the expression.
use Rattle.std.specs.Prelude.{ℕ, Bool, cond, ◌==◌, Option, Some, None, option_and_then}
use Rattle.std.specs.List.{list_any}
use Rattle.std.specs.Rc.{rc_str_bytes}
use Rattle.std.specs.Str.{is_utf8}
use Rattle.sqlite_value.specs.declared.value.Value.TheVariants as sql
use Rattle.sqlite_sql.specs.Ops.{from_truth}
use Rattle.sqlite_sql.specs.Term.{Term, lit}
use Rattle.cedar_model.specs.Terms.{Text, Literal, bool_literal, long_literal, text_literal, entity_literal}
use Rattle.cedar_model.specs.Values.{Represented, plain_represented, set_represented, record_represented}
use Rattle.cedar_model.specs.Values.{extension_represented}
use Rattle.cedar_names.specs.Names.{type_text}
use Rattle.cedar_filter.specs.declared.conditions.Operand.{Operand}
use Rattle.cedar_filter.specs.declared.conditions.Operand.TheVariants as operands
use Rattle.cedar_sql.specs.declared.columns.ColumnType.{ColumnType}
use Rattle.cedar_sql.specs.declared.columns.ColumnType.TheVariants as types
use Rattle.cedar_sql.specs.declared.columns.Column.{Column}
use Rattle.cedar_sql.specs.declared.columns.RowType.{RowType}
use Rattle.cedar_sql.specs.declared.columns.RowType.TheVariants.{One, Several}
use Rattle.cedar_sql.specs.declared.columns.Columns.{Columns}
use Rattle.cedar_sql.specs.declared.sides.Sort.{Sort as HeldSort}
use Rattle.cedar_sql.specs.declared.sides.Sort.TheVariants as sorts
use Rattle.cedar_sql.specs.declared.sides.Leaf.{Leaf}
use Rattle.cedar_sql.specs.declared.sides.Leaf.TheVariants as leaves
use Rattle.cedar_sql.specs.declared.sides.Side.{Side as HeldSide}
use Rattle.cedar_sql.specs.Columns.{column_at}
use Rattle.cedar_sql.specs.Terms.{number, row_column}

-- of which sort a value is: an entity of one type, or of the type that the row holds in this column
pub data Sort : Type 0 where
  bool_sort : Sort
  long_sort : Sort
  text_sort : Sort
  entity_sort : Text → Sort
  row_sort : ℕ → Sort

pub record Side : Type 0 where
  pub sort : Sort
  pub term : Term

abbrev pub side : Sort → Term → Side
side s t = record { sort = s; term = t }

-- ---- as the program holds them

abbrev pub sort_view : HeldSort → Sort
sort_view sorts.Bool = bool_sort
sort_view sorts.Long = long_sort
sort_view sorts.Text = text_sort
sort_view (sorts.Entity t) = entity_sort t.now
sort_view (sorts.Row place) = row_sort place

abbrev pub leaf_term : Leaf → Term
leaf_term (leaves.Number n) = number n
leaf_term (leaves.Text t) = lit (sql.Text t.now)
leaf_term (leaves.Column place) = row_column place

abbrev pub side_view : HeldSide → Side
side_view s = side (sort_view s.sort) (leaf_term s.leaf)

-- ---- literals

abbrev pub has_nul : Text → Bool
has_nul t = list_any (λ b. b == 0) t

-- a text, unless it has a NUL
abbrev pub text_side : Sort → Text → Option Side
text_side s t = cond (has_nul t) None (Some (side s (lit (sql.Text t))))

-- each text of a program is in UTF-8
abbrev pub literal_side : Literal → Option Side
literal_side (bool_literal b) = Some (side bool_sort (lit (from_truth (Some b))))
literal_side (long_literal n) = Some (side long_sort (number n))
literal_side (text_literal t) = cond (is_utf8 t) (text_side text_sort t) None
literal_side (entity_literal e) = text_side (entity_sort e.type_name) e.id

abbrev pub known_side : Represented → Option Side
known_side (plain_represented l) = literal_side l
known_side (set_represented vs) = None
known_side (record_represented fs) = None
known_side (extension_represented t k f ts) = None

-- ---- the row, and its attributes

abbrev pub row_sort_of : RowType → Sort
row_sort_of (One t) = entity_sort (type_text t)
row_sort_of (Several place) = row_sort place

-- a record is none
abbrev pub column_sort : ColumnType → Option Sort
column_sort types.Bool = Some bool_sort
column_sort types.Long = Some long_sort
column_sort types.String = Some text_sort
column_sort (types.Entity t) = Some (entity_sort (type_text t))
column_sort types.Record = None

abbrev pub sorted : Option Sort → Term → Option Side
sorted None t = None
sorted (Some s) t = Some (side s t)

abbrev pub column_side : Column → Option Side
column_side c = sorted (column_sort c.holds) (row_column c.place)

abbrev pub operand_side : Columns → Operand → Option Side
operand_side columns (operands.Known v) = known_side v.what
operand_side columns operands.Row = Some (side (row_sort_of columns.entity_type) (row_column columns.id))
operand_side columns (operands.Attribute' p o k) =
    option_and_then column_side (column_at columns.attributes.items o (rc_str_bytes k))
