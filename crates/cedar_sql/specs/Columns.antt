-- What the row of a table holds of an entity.
use Rattle.std.specs.Prelude.{◌≡◌, pos, Bool, true, false, cond, ◌&&◌, List, [], ◌∷◌, Option, Some, None}
use Rattle.std.specs.Prelude.{option_map, option_and_then}
use Rattle.std.specs.List.{AllByRecursion}
use Rattle.std.specs.Rc.{rc_str_bytes}
use Rattle.std.specs.Str.{is_utf8}
use Rattle.sqlite_value.specs.declared.value.Value.{Value}
use Rattle.sqlite_value.specs.declared.value.Value.TheVariants.{Null, Int, Text}
use Rattle.sqlite_value.specs.Order.{Row, column}
use Rattle.sqlite_sql.specs.Ops.{from_truth}
use Rattle.cedar_model.specs.Terms as model
use Rattle.cedar_model.specs.Terms.{EntityName}
use Rattle.cedar_model.specs.Values.{AbstractValue}
use Rattle.cedar_model.specs.Outcomes.{gives, errs, bool_of, long_of, text_of, entity_of, fields_of_value, text_eq}
use Rattle.cedar_model.specs.Settings.{StoredEntity}
use Rattle.cedar_names.specs.Names.{type_text}
use Rattle.cedar_filter.specs.declared.conditions.Operand.{Operand}
use Rattle.cedar_filter.specs.declared.conditions.Operand.TheVariants as operands
use Rattle.cedar_filter.specs.Rows.{Told, tells, untold}
use Rattle.cedar_filter.specs.Conditions.{operand_told}
use Rattle.cedar_sql.specs.declared.columns.ColumnType.{ColumnType}
use Rattle.cedar_sql.specs.declared.columns.ColumnType.TheVariants as types
use Rattle.cedar_sql.specs.declared.columns.Column.{Column}
use Rattle.cedar_sql.specs.declared.columns.RowType.{RowType}
use Rattle.cedar_sql.specs.declared.columns.RowType.TheVariants.{One, Several}
use Rattle.cedar_sql.specs.declared.columns.Columns.{Columns}

-- ---- what a row holds

-- the id of an entity of this type
abbrev pub id_in : model.Text → EntityName → Option Value
id_in t d = cond (text_eq d.type_name t) (Some (Text d.id)) None

-- a text in UTF-8, as each text of a program is
abbrev pub utf8_text : model.Text → Option Value
utf8_text t = cond (is_utf8 t) (Some (Text t)) None

-- what a column of a type holds of a value; a value of another type it can't hold
abbrev pub held_value : ColumnType → AbstractValue → Option Value
held_value types.Bool v = option_map (λ b. from_truth (Some b)) (bool_of v)
held_value types.Long v = option_map Int (long_of v)
held_value types.String v = option_and_then utf8_text (text_of v)
held_value (types.Entity t) v = option_and_then (id_in (type_text t)) (entity_of v)
held_value types.Record v = option_map (λ fs. Int (pos 1)) (fields_of_value v)

-- what a column holds of an attribute, of which the entity tells this: NULL, where there is no such attribute
abbrev pub cell : ColumnType → Told → Option Value
cell t (tells (gives v)) = held_value t v
cell t (tells (errs k)) = Some Null
cell t untold = None

-- the type of the entity
abbrev pub IsTyped : RowType → Row → EntityName → Type 0
IsTyped (One t) row e = e.type_name ≡ type_text t
IsTyped (Several place) row e = column row place ≡ Text e.type_name

-- the column holds what the entity `e` with the facts `x` tells of its attribute
abbrev pub HoldsAttribute : Row → EntityName → StoredEntity → Column → Type 0
HoldsAttribute row e x c = cell c.holds (operand_told e x c.attribute) ≡ Some (column row c.place)

-- the row of a table with these columns is that of the entity `e` with the facts `x`
pub record Represents (columns : Columns) (row : Row) (e : EntityName) (x : StoredEntity) : Type 0 where
  pub id : column row columns.id ≡ Text e.id
  pub typed : IsTyped columns.entity_type row e
  pub attributes : AllByRecursion (HoldsAttribute row e x) columns.attributes.items

-- ---- which column holds an attribute

abbrev pub same_operand : Operand → Operand → Bool
same_operand (operands.Known v) q = false
same_operand operands.Row (operands.Known v) = false
same_operand operands.Row operands.Row = true
same_operand operands.Row (operands.Attribute' r q j) = false
same_operand (operands.Attribute' p o k) (operands.Known v) = false
same_operand (operands.Attribute' p o k) operands.Row = false
same_operand (operands.Attribute' p o k) (operands.Attribute' r q j) =
    text_eq (rc_str_bytes k) (rc_str_bytes j) && same_operand o q

-- whether an operand is the attribute of this name, of the other operand
abbrev pub is_attribute : Operand → Operand → model.Text → Bool
is_attribute (operands.Known v) q k = false
is_attribute operands.Row q k = false
is_attribute (operands.Attribute' p o j) q k = text_eq (rc_str_bytes j) k && same_operand o q

-- the first column of an attribute
abbrev pub column_at : List Column → Operand → model.Text → Option Column
column_at [] o k = None
column_at (c ∷ cs) o k = cond (is_attribute c.attribute o k) (Some c) (column_at cs o k)
