-- A condition as an SQL expression, and the first part of it that is none.
use Rattle.std.specs.Prelude.{ℕ, Bool, true, false, cond, not, ◌&&◌, Option, Some, None, is_some}
use Rattle.std.specs.Rc.{rc_str_bytes}
use Rattle.sqlite_value.specs.declared.value.Value.TheVariants as sql
use Rattle.sqlite_sql.specs.declared.ops.UnaryOp.TheVariants.{IsNull, Not}
use Rattle.sqlite_sql.specs.Ops.{from_truth}
use Rattle.sqlite_sql.specs.Term.{Term, lit, op1, op2}
use Rattle.cedar_model.specs.Terms.{Text}
use Rattle.cedar_model.specs.Outcomes.{text_eq}
use Rattle.cedar_names.specs.Names.{type_text}
use Rattle.cedar_names.specs.Leaves.{pattern_view}
use Rattle.cedar_filter.specs.declared.conditions.Operand.{Operand}
use Rattle.cedar_filter.specs.declared.conditions.Operand.TheVariants as operands
use Rattle.cedar_filter.specs.declared.conditions.Comparison.{Comparison}
use Rattle.cedar_filter.specs.declared.conditions.Comparison.TheVariants.{Equal, Less, LessEq}
use Rattle.cedar_filter.specs.declared.conditions.Condition.{Condition}
use Rattle.cedar_filter.specs.declared.conditions.Condition.TheVariants.{Known, And', Or', Not', If', Holds, Compare}
use Rattle.cedar_filter.specs.declared.conditions.Condition.TheVariants.{In, Has, Like, Is, Contains}
use Rattle.cedar_sql.specs.declared.columns.ColumnType.{ColumnType}
use Rattle.cedar_sql.specs.declared.columns.ColumnType.TheVariants as types
use Rattle.cedar_sql.specs.declared.columns.Column.{Column}
use Rattle.cedar_sql.specs.declared.columns.Columns.{Columns}
use Rattle.cedar_sql.specs.declared.leaves.Kinship.{Kinship as HeldKinship}
use Rattle.cedar_sql.specs.declared.leaves.Kinship.TheVariants as kinships
use Rattle.cedar_sql.specs.declared.leaves.Holder.{Holder as HeldHolder}
use Rattle.cedar_sql.specs.declared.leaves.Holder.TheVariants as holders
use Rattle.cedar_sql.specs.Columns.{column_at}
use Rattle.cedar_sql.specs.Sides.{Sort, bool_sort, long_sort, text_sort, entity_sort, row_sort, Side, operand_side}
use Rattle.cedar_sql.specs.Sides.{has_nul, leaf_term}
use Rattle.cedar_sql.specs.Patterns.{is_said_pattern, liked_or_null}
use Rattle.cedar_sql.specs.Terms.{row_column, choose, equals, compare_operator}

-- ---- parts

abbrev pub truth_term : Bool → Term
truth_term b = lit (from_truth (Some b))

-- this, where the value is there
abbrev pub where_there : Term → Term → Term
where_there a t = choose (op1 IsNull a) (lit sql.Null) t

-- false, where both values are there
abbrev pub false_where_there : Term → Term → Term
false_where_there a b = where_there a (where_there b (truth_term false))

-- whether values of two sorts can be equal: as their terms, never, or where the types of the entities are
pub data Kinship : Type 0 where
  same_sort : Kinship
  other_sort : Kinship
  where_equal : Term → Term → Kinship

abbrev pub with_bool : Sort → Kinship
with_bool bool_sort = same_sort
with_bool long_sort = other_sort
with_bool text_sort = other_sort
with_bool (entity_sort t) = other_sort
with_bool (row_sort q) = other_sort

abbrev pub with_long : Sort → Kinship
with_long bool_sort = other_sort
with_long long_sort = same_sort
with_long text_sort = other_sort
with_long (entity_sort t) = other_sort
with_long (row_sort q) = other_sort

abbrev pub with_text : Sort → Kinship
with_text bool_sort = other_sort
with_text long_sort = other_sort
with_text text_sort = same_sort
with_text (entity_sort t) = other_sort
with_text (row_sort q) = other_sort

abbrev pub text_term : Text → Term
text_term t = lit (sql.Text t)

abbrev pub with_entity : Text → Sort → Kinship
with_entity s bool_sort = other_sort
with_entity s long_sort = other_sort
with_entity s text_sort = other_sort
with_entity s (entity_sort t) = cond (text_eq s t) same_sort other_sort
with_entity s (row_sort q) = where_equal (text_term s) (row_column q)

abbrev pub with_row : ℕ → Sort → Kinship
with_row p bool_sort = other_sort
with_row p long_sort = other_sort
with_row p text_sort = other_sort
with_row p (entity_sort t) = where_equal (row_column p) (text_term t)
with_row p (row_sort q) = where_equal (row_column p) (row_column q)

abbrev pub kinship : Sort → Sort → Kinship
kinship bool_sort t = with_bool t
kinship long_sort t = with_long t
kinship text_sort t = with_text t
kinship (entity_sort s) t = with_entity s t
kinship (row_sort p) t = with_row p t

abbrev pub kinship_view : HeldKinship → Kinship
kinship_view kinships.SameSort = same_sort
kinship_view kinships.OtherSort = other_sort
kinship_view (kinships.WhereEqual s t) = where_equal (leaf_term s) (leaf_term t)

abbrev pub kin_term : Kinship → Term → Term → Term
kin_term same_sort a b = equals a b
kin_term other_sort a b = false_where_there a b
kin_term (where_equal s t) a b = choose (equals s t) (equals a b) (false_where_there a b)

abbrev pub equal_term : Side → Side → Term
equal_term a b = kin_term (kinship a.sort b.sort) a.term b.term

abbrev pub is_long_sort : Sort → Bool
is_long_sort bool_sort = false
is_long_sort long_sort = true
is_long_sort text_sort = false
is_long_sort (entity_sort t) = false
is_long_sort (row_sort q) = false

-- the order of two longs; of what is none there is an error
abbrev pub order_term : Comparison → Side → Side → Term
order_term c a b =
    cond (is_long_sort a.sort && is_long_sort b.sort) (op2 (compare_operator c) a.term b.term) (lit sql.Null)

abbrev pub sides_term : Comparison → Side → Side → Term
sides_term Equal a b = equal_term a b
sides_term Less a b = order_term Less a b
sides_term LessEq a b = order_term LessEq a b

-- a bool; of what is none there is an error
abbrev pub bool_term : Sort → Term → Term
bool_term bool_sort t = t
bool_term long_sort t = lit sql.Null
bool_term text_sort t = lit sql.Null
bool_term (entity_sort s) t = lit sql.Null
bool_term (row_sort q) t = lit sql.Null

-- whether an entity is of this type; of what is none there is an error
abbrev pub type_term : Text → Sort → Term → Term
type_term t bool_sort a = lit sql.Null
type_term t long_sort a = lit sql.Null
type_term t text_sort a = lit sql.Null
type_term t (entity_sort s) a = where_there a (truth_term (text_eq s t))
type_term t (row_sort q) a = equals (row_column q) (text_term t)

abbrev pub there_term : Term → Term
there_term a = op1 Not (op1 IsNull a)

-- ---- what has an attribute: the row, or a record in it, which is there where its column is

pub data Holder : Type 0 where
  row_itself : Holder
  record_at : ℕ → Holder

abbrev pub holder_view : HeldHolder → Holder
holder_view holders.Row = row_itself
holder_view (holders.Record place) = record_at place

abbrev pub is_record : ColumnType → Bool
is_record types.Bool = false
is_record types.Long = false
is_record types.String = false
is_record (types.Entity t) = false
is_record types.Record = true

abbrev pub record_holder : Option Column → Option Holder
record_holder None = None
record_holder (Some c) = cond (is_record c.holds) (Some (record_at c.place)) None

abbrev pub holder : Columns → Operand → Option Holder
holder columns (operands.Known v) = None
holder columns operands.Row = Some row_itself
holder columns (operands.Attribute' p o k) = record_holder (column_at columns.attributes.items o (rc_str_bytes k))

abbrev pub has_term : Holder → ℕ → Term
has_term row_itself place = there_term (row_column place)
has_term (record_at of) place = where_there (row_column of) (there_term (row_column place))

-- ---- conditions: NULL in place of what is none

abbrev pub holds_or_null : Option Side → Term
holds_or_null None = lit sql.Null
holds_or_null (Some s) = bool_term s.sort s.term

abbrev pub compared_or_null : Comparison → Option Side → Option Side → Term
compared_or_null c None b = lit sql.Null
compared_or_null c (Some a) None = lit sql.Null
compared_or_null c (Some a) (Some b) = sides_term c a b

abbrev pub typed_or_null : Text → Option Side → Term
typed_or_null t None = lit sql.Null
typed_or_null t (Some s) = type_term t s.sort s.term

abbrev pub has_or_null : Option Holder → Option Column → Term
has_or_null None c = lit sql.Null
has_or_null (Some h) None = lit sql.Null
has_or_null (Some h) (Some c) = has_term h c.place

module _ (columns : Columns) where
  abbrev pub condition_sql : Condition → Term
  condition_sql (Known b) = truth_term b
  condition_sql (And' p a q b) = choose (condition_sql a) (condition_sql b) (truth_term false)
  condition_sql (Or' p a q b) = choose (condition_sql a) (truth_term true) (condition_sql b)
  condition_sql (Not' p a) = op1 Not (condition_sql a)
  condition_sql (If' p c q a r b) = choose (condition_sql c) (condition_sql a) (condition_sql b)
  condition_sql (Holds o) = holds_or_null (operand_side columns o)
  condition_sql (Compare c o q) = compared_or_null c (operand_side columns o) (operand_side columns q)
  condition_sql (In o u) = lit sql.Null
  condition_sql (Has o k) =
      has_or_null (holder columns o) (column_at columns.attributes.items o (rc_str_bytes k))
  condition_sql (Like o p) = liked_or_null (pattern_view p) (operand_side columns o)
  condition_sql (Is o t) = typed_or_null (type_text t) (operand_side columns o)
  condition_sql (Contains o v) = lit sql.Null

-- ---- the first part that is none

abbrev pub earlier : Option Condition → Option Condition → Option Condition
earlier None q = q
earlier (Some c) q = Some c

abbrev pub unless : Bool → Condition → Option Condition
unless said c = cond said None (Some c)

module _ (columns : Columns) where
  abbrev pub unsaid : Condition → Option Condition
  unsaid (Known b) = None
  unsaid (And' p a q b) = earlier (unsaid a) (unsaid b)
  unsaid (Or' p a q b) = earlier (unsaid a) (unsaid b)
  unsaid (Not' p a) = unsaid a
  unsaid (If' p c q a r b) = earlier (unsaid c) (earlier (unsaid a) (unsaid b))
  unsaid (Holds o) = unless (is_some (operand_side columns o)) (Holds o)
  unsaid (Compare c o q) =
      unless (is_some (operand_side columns o) && is_some (operand_side columns q)) (Compare c o q)
  unsaid (In o u) = Some (In o u)
  unsaid (Has o k) =
      unless (is_some (holder columns o) && is_some (column_at columns.attributes.items o (rc_str_bytes k))) (Has o k)
  unsaid (Like o p) = unless (is_some (operand_side columns o) && is_said_pattern (pattern_view p)) (Like o p)
  unsaid (Is o t) = unless (is_some (operand_side columns o) && not (has_nul (type_text t))) (Is o t)
  unsaid (Contains o v) = Some (Contains o v)
