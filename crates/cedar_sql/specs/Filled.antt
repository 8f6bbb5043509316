-- Rows that stand for an entity: there is one, where each column can hold what the entity tells of its attribute.
use Rattle.std.specs.Prelude.{◌≡◌, ℕ, ℤ, true, List, [], ◌∷◌, ◌++◌, ◌==◌, map, Some, None, is_some}
use Rattle.std.specs.List.{AllByRecursion, IsDistinct}
use Rattle.std.specs.Rc.{rc_str_bytes}
use Rattle.std.specs.declared.alloc.Global.{Global}
use Rattle.std.specs.declared.rc.RcStr.{RcStr}
use Rattle.sqlite_value.specs.declared.value.Value.TheVariants.{Null, Int}
use Rattle.sqlite_value.specs.declared.value.Value.TheVariants as sql
use Rattle.sqlite_value.specs.Order.{Row}
use Rattle.cedar_model.specs.Terms as model
use Rattle.cedar_model.specs.Terms.{EntityName, Literal, long_literal, text_literal}
use Rattle.cedar_model.specs.Values.{plain_represented}
use Rattle.cedar_model.specs.Failures.{value}
use Rattle.cedar_model.specs.Settings.{StoredEntity, part_at}
use Rattle.cedar_names.specs.Names.{type_text}
use Rattle.cedar_filter.specs.declared.conditions.Operand.{Operand}
use Rattle.cedar_filter.specs.declared.conditions.Operand.TheVariants as operands
use Rattle.cedar_filter.specs.Conditions.{operand_told}
use Rattle.cedar_sql.specs.declared.columns.ColumnType.TheVariants as types
use Rattle.cedar_sql.specs.declared.columns.Column.{Column}
use Rattle.cedar_sql.specs.declared.columns.RowType.{RowType}
use Rattle.cedar_sql.specs.declared.columns.RowType.TheVariants.{One, Several}
use Rattle.cedar_sql.specs.declared.columns.Columns.{Columns}
use Rattle.cedar_sql.specs.Columns.{cell, is_attribute, Represents}

-- ---- rows for entities

abbrev pub type_places : RowType → List ℕ
type_places (One t) = []
type_places (Several place) = place ∷ []

-- the places of the columns: the id's, the type's, the attributes'
abbrev pub places : Columns → List ℕ
places columns =
    columns.id ∷ (type_places columns.entity_type ++ map (λ (c : Column). c.place) columns.attributes.items)

-- an entity of a table may be of this type
abbrev pub MayBeOf : RowType → EntityName → Type 0
MayBeOf (One t) e = e.type_name ≡ type_text t
MayBeOf (Several place) e = Unit {0}

-- the column can hold what the entity tells of its attribute
abbrev pub CanHold : EntityName → StoredEntity → Column → Type 0
CanHold e x c = is_some (cell c.holds (operand_told e x c.attribute)) ≡ true

-- an entity whose attributes the columns can hold has a row, where no two columns are at one place
abbrev pub EntitiesHaveRows : Type 0
EntitiesHaveRows =
    (columns : Columns) (e : EntityName) (x : StoredEntity) → IsDistinct ◌==◌ (places columns)
    → MayBeOf columns.entity_type e → AllByRecursion (CanHold e x) columns.attributes.items
    → (row : Row) × Represents columns row e x

-- ---- what a column holds of an attribute of the entity

-- the entity has this literal for its attribute
abbrev pub HasLiteral : StoredEntity → model.Text → Literal → Type 0
HasLiteral x k l = part_at k x.attributes ≡ Some (value (plain_represented l))

-- a long is held as its INTEGER
abbrev pub LongsAreHeld : Type 0
LongsAreHeld =
    (e : EntityName) (x : StoredEntity) (a : Operand) (k : model.Text) (n : ℤ) → is_attribute a operands.Row k ≡ true
    → HasLiteral x k (long_literal n) → cell types.Long (operand_told e x a) ≡ Some (Int n)

-- a string is held as its TEXT, as each text of a program is in UTF-8
abbrev pub TextsAreHeld : Type 0
TextsAreHeld =
    (e : EntityName) (x : StoredEntity) (a : Operand) (k : model.Text) (t : RcStr Global)
    → is_attribute a operands.Row k ≡ true → HasLiteral x k (text_literal (rc_str_bytes t))
    → cell types.String (operand_told e x a) ≡ Some (sql.Text (rc_str_bytes t))

-- in the place of an attribute that the entity lacks is NULL
abbrev pub AbsentIsNull : Type 0
AbsentIsNull =
    (e : EntityName) (x : StoredEntity) (c : Column) (k : model.Text) → is_attribute c.attribute operands.Row k ≡ true
    → part_at k x.attributes ≡ None → cell c.holds (operand_told e x c.attribute) ≡ Some Null
