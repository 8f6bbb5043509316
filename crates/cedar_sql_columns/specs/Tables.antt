-- Tables as plain data.
use Rattle.std.specs.Prelude.{map}
use Rattle.std.specs.Rc.{rc_str_bytes}
use Rattle.cedar_names.specs.Names.{type_text}
use Rattle.cedar_filter.specs.declared.conditions.Operand.{Operand}
use Rattle.cedar_filter.specs.declared.conditions.Operand.TheVariants as operands
use Rattle.cedar_sql.specs.declared.columns.ColumnType.{ColumnType}
use Rattle.cedar_sql.specs.declared.columns.ColumnType.TheVariants as types
use Rattle.cedar_sql.specs.declared.columns.Column.{Column}
use Rattle.cedar_sql.specs.declared.columns.RowType.{RowType}
use Rattle.cedar_sql.specs.declared.columns.RowType.TheVariants as rows
use Rattle.cedar_sql_columns.specs.declared.tables.SqlTable.{SqlTable}
use Rattle.cedar_sql_columns.specs.declared.tables.TypeNamed.{TypeNamed}
use Rattle.cedar_sql_columns.specs.declared.tables.TypeNamed.TheVariants as named
use Rattle.cedar_sql_columns.specs.Said.{Held, a_bool, a_long, a_string, a_record, an_entity_of}
use Rattle.cedar_sql_columns.specs.Said.{Place, the_entity, attribute_in, elsewhere, SaidColumn}
use Rattle.cedar_sql_columns.specs.Said.{TypeSaid, all_of, held_in, TypesOf, of_one, of_several, SaidTable}

abbrev pub held_view : ColumnType → Held
held_view types.Bool = a_bool
held_view types.Long = a_long
held_view types.String = a_string
held_view (types.Entity t) = an_entity_of (type_text t)
held_view types.Record = a_record

abbrev pub operand_view : Operand → Place
operand_view (operands.Known v) = elsewhere
operand_view operands.Row = the_entity
operand_view (operands.Attribute' p o k) = attribute_in (operand_view o) (rc_str_bytes k)

abbrev pub column_view : Column → SaidColumn
column_view c = record { attribute = operand_view c.attribute; holds = held_view c.holds; place = c.place }

abbrev pub types_view : RowType → TypesOf
types_view (rows.One t) = of_one (type_text t)
types_view (rows.Several n) = of_several n

abbrev pub table_view : SqlTable → SaidTable
table_view t = record {
  table = rc_str_bytes t.names.table;
  names = map rc_str_bytes t.names.columns.items;
  id = t.columns.id;
  types = types_view t.columns.entity_type;
  attributes = map column_view t.columns.attributes.items;
}

-- ---- for private clauses

abbrev pub type_view : TypeNamed → TypeSaid
type_view (named.AllOf t) = all_of t.now
type_view (named.HeldIn c) = held_in c.now
