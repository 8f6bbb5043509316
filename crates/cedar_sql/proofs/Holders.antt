-- Whether an attribute is there is whether its column is not NULL.
use Rattle.std.specs.Prelude.{ℕ, pos, is_some, IfSome}
use Rattle.std.specs.Rc.{rc_str_bytes}
use Rattle.std.proofs.Common.{◌≡◌, ◌∙◌, Bool, true, false, cond, not, Option, Some, None, refl, sym, ap, subst}
use Rattle.sqlite_value.specs.declared.value.Value.{Value}
use Rattle.sqlite_value.specs.declared.value.Value.TheVariants.{Null, Int}
use Rattle.sqlite_value.specs.Order.{Row, column}
use Rattle.sqlite_sql.specs.declared.ops.UnaryOp.TheVariants.{IsNull, Not}
use Rattle.sqlite_sql.specs.Ops.{from_truth, is_null, unary}
use Rattle.sqlite_sql.specs.Term.{Env, eval}
use Rattle.cedar_model.specs.Terms.{Text, EntityName, bool_literal, long_literal, text_literal, entity_literal}
use Rattle.cedar_model.specs.Values.{AbstractValue, AbstractFields, plain, set_value, record_value, extension_value, abstract_value}
use Rattle.cedar_model.specs.Outcomes.{gives, errs, bool_of, fields_of_value, entity_eq, value_at}
use Rattle.cedar_model.specs.Outcomes.{record_attribute_does_not_exist}
use Rattle.cedar_model.specs.Meaning.{or_errs}
use Rattle.cedar_model.specs.Failures.{PartialValue, value, residual}
use Rattle.cedar_model.specs.Settings.{StoredEntity, part_at}
use Rattle.cedar_names.specs.EqualityLaws.{entity_eq-decides}
use Rattle.cedar_filter.specs.declared.conditions.Operand.{Operand}
use Rattle.cedar_filter.specs.declared.conditions.Operand.TheVariants as operands
use Rattle.cedar_filter.specs.Rows.{Told, tells, untold, told_then, tells_bool, part_told, attribute_told, has_told}
use Rattle.cedar_filter.specs.Conditions.{operand_told}
use Rattle.cedar_sql.specs.declared.columns.ColumnType.{ColumnType}
use Rattle.cedar_sql.specs.declared.columns.ColumnType.TheVariants as types
use Rattle.cedar_sql.specs.declared.columns.Column.{Column}
use Rattle.cedar_sql.specs.declared.columns.Columns.{Columns}
use Rattle.cedar_sql.specs.Columns.{cell, Represents, column_at}
use Rattle.cedar_sql.specs.Terms.{row_column}
use Rattle.cedar_sql.specs.Said.{there_term, Holder, row_itself, record_at, is_record, record_holder, holder, has_term}
use Rattle.cedar_sql.specs.Meaning.{told_value}
use Rattle.cedar_sql.proofs.Values.{where_there_is}
use Rattle.cedar_sql.proofs.Cells.{held_not_null, found}

-- 1 where the value is not NULL, 0 where it is
abbrev pub there : Value → Value
there v = from_truth (Some (not (is_null v)))

turned : (q : Bool) → unary Not (from_truth (Some q)) ≡ from_truth (Some (not q))
unfolding unary
turned true = refl
turned false = refl

there_is : (v : Value) → unary Not (unary IsNull v) ≡ there v
unfolding unary
there_is v = turned (is_null v)

at_there : (v : Value) (q : Bool) → is_null v ≡ not q → Some (from_truth (Some q)) ≡ Some (there v)
at_there v true is = λ i. Some (from_truth (Some (not (sym is i))))
at_there v false is = λ i. Some (from_truth (Some (not (sym is i))))

null_is : (v : Value) → Some Null ≡ Some v → is_null v ≡ true
null_is v is = let same : v ≡ Null = cc in ap is_null same

row_has : (q : Bool) → q ≡ true → (p : Option PartialValue) (t : ColumnType) (v : Value) → cell t (cond q (part_told p) untold) ≡ Some v
    → told_value (cond q (tells_bool (is_some p)) untold) ≡ Some (there v)
unfolding bool_of
row_has true h None t v is = at_there v false (null_is v is)
row_has true h (Some (value w)) t v is = at_there v true (held_not_null t (abstract_value w) v is)
row_has true h (Some (residual u)) t v is = absurd (cc)
row_has false h p t v is = absurd (cc)

record_has : (o : Option AbstractValue) (t : ColumnType) (v : Value) → cell t (tells (or_errs record_attribute_does_not_exist o)) ≡ Some v
    → told_value (tells_bool (is_some o)) ≡ Some (there v)
unfolding bool_of or_errs
record_has None t v is = at_there v false (null_is v is)
record_has (Some w) t v is = at_there v true (held_not_null t w v is)

record_cell : (fs : AbstractFields) (v : Value) → cell types.Record (tells (gives (record_value fs))) ≡ Some v → is_null v ≡ false
unfolding fields_of_value
record_cell fs v is = let same : v ≡ Int (pos 1) = cc in ap is_null same

is_a_record : (t : ColumnType) → is_record t ≡ true → t ≡ types.Record
is_a_record types.Bool is = absurd (cc)
is_a_record types.Long is = absurd (cc)
is_a_record types.String is = absurd (cc)
is_a_record (types.Entity t) is = absurd (cc)
is_a_record types.Record is = refl

at_null : (v w : Value) → is_null v ≡ true → cond (is_null v) Null w ≡ Null
at_null v w is = rw is refl

at_value : (v w : Value) → is_null v ≡ false → cond (is_null v) Null w ≡ w
at_value v w is = rw is refl

module _ (row : Row) (env : Env) (is_row : (place : ℕ) → eval (row_column place) env ≡ column row place) (e : EntityName) (x : StoredEntity) where
  -- what is told of what has an attribute
  abbrev pub IsHolder : Told → Holder → Type 0
  IsHolder r row_itself = r ≡ tells (gives (plain (entity_literal e)))
  IsHolder r (record_at place) = cell types.Record r ≡ Some (column row place)

  record_holder_is : (c : Column) (r : Told) (q : Bool) → (q ≡ true → c.holds ≡ types.Record) → cell c.holds r ≡ Some (column row c.place)
      → IfSome (cond q (Some (record_at c.place)) None) (IsHolder r)
  record_holder_is c r true h is = subst (λ t. cell t r ≡ Some (column row c.place)) (h refl) is
  record_holder_is c r false h is = tt

  holder_if : (m : Option Column) (r : Told) → IfSome m (λ c. cell c.holds r ≡ Some (column row c.place)) → IfSome (record_holder m) (IsHolder r)
  holder_if None r h = tt
  holder_if (Some c) r h = record_holder_is c r (is_record c.holds) (is_a_record c.holds) h

  pub holder_is : (columns : Columns) → Represents columns row e x → (o : Operand) → IfSome (holder columns o) (IsHolder (operand_told e x o))
  holder_is columns h (operands.Known v) = tt
  holder_is columns h operands.Row = refl
  holder_is columns h (operands.Attribute' p o k) =
      holder_if (column_at columns.attributes.items o (rc_str_bytes k)) _ (found e x row columns.attributes.items o (rc_str_bytes k) h.attributes)

  there_at : (place : ℕ) → there (column row place) ≡ eval (there_term (row_column place)) env
  there_at place = (λ i. there (sym (is_row place) i)) ∙ sym (there_is (eval (row_column place) env))

  is_here : entity_eq e e ≡ true
  is_here = (entity_eq-decides e e).1 refl

  of_row : (k : Text) (c : Column) (r : Told) → r ≡ tells (gives (plain (entity_literal e)))
      → cell c.holds (told_then r (λ v. attribute_told e x v k)) ≡ Some (column row c.place)
      → told_value (told_then r (λ v. has_told e x v k)) ≡ Some (there (column row c.place))
  of_row k c r is held =
      (λ i. told_value (told_then (is i) (λ v. has_told e x v k)))
      ∙ row_has (entity_eq e e) is_here (part_at k x.attributes) c.holds (column row c.place)
      (subst (λ s. cell c.holds (told_then s (λ v. attribute_told e x v k)) ≡ Some (column row c.place)) is held)

  of_record : (k : Text) (t : ColumnType) (place of : ℕ) (r : Told) → cell types.Record r ≡ Some (column row of)
      → cell t (told_then r (λ v. attribute_told e x v k)) ≡ Some (column row place)
      → told_value (told_then r (λ v. has_told e x v k)) ≡ Some (cond (is_null (column row of)) Null (there (column row place)))
  unfolding fields_of_value
  of_record k t place of untold is held = absurd (cc)
  of_record k t place of (tells (errs f)) is held = ap Some (sym (at_null (column row of) (there (column row place)) (null_is (column row of) is)))
  of_record k t place of (tells (gives (plain (bool_literal b)))) is held = absurd (cc)
  of_record k t place of (tells (gives (plain (long_literal n)))) is held = absurd (cc)
  of_record k t place of (tells (gives (plain (text_literal u)))) is held = absurd (cc)
  of_record k t place of (tells (gives (plain (entity_literal d)))) is held = absurd (cc)
  of_record k t place of (tells (gives (set_value vs))) is held = absurd (cc)
  of_record k t place of (tells (gives (record_value fs))) is held =
      record_has (value_at k fs) t (column row place) held
      ∙ ap Some (sym (at_value (column row of) (there (column row place)) (record_cell fs (column row of) is)))
  of_record k t place of (tells (gives (extension_value u j))) is held = absurd (cc)

  pub has_is : (h : Holder) (k : Text) (c : Column) (r : Told) → IsHolder r h
      → cell c.holds (told_then r (λ v. attribute_told e x v k)) ≡ Some (column row c.place)
      → told_value (told_then r (λ v. has_told e x v k)) ≡ Some (eval (has_term h c.place) env)
  has_is row_itself k c r is held = of_row k c r is held ∙ ap Some (there_at c.place)
  has_is (record_at of) k c r is held =
      of_record k c.holds c.place of r is held
      ∙ (λ i. Some (cond (is_null (sym (is_row of) i)) Null (there_at c.place i)))
      ∙ ap Some (sym (where_there_is env (row_column of) (there_term (row_column c.place))))
