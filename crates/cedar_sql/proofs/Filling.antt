-- A row is filled column by column.
use Rattle.std.specs.Prelude.{ℕ, zero, suc, ◌++◌, ◌==◌, map, is_some}
use Rattle.std.specs.List.{AllByRecursion, IsDistinct}
use Rattle.std.specs.Rc.{rc_str_bytes}
use Rattle.std.proofs.Common.{◌≡◌, ◌∙◌, Bool, true, false, cond, List, [], ◌∷◌, Option, Some, None, refl, sym, ap, true≢false, eq-eqb}
use Rattle.std.proofs.lemmas.Bool.{and_parts}
use Rattle.sqlite_value.specs.declared.value.Value.{Value}
use Rattle.sqlite_value.specs.declared.value.Value.TheVariants as sql
use Rattle.sqlite_value.specs.declared.value.Value.TheVariants.{Null, Int}
use Rattle.sqlite_value.specs.Order.{Row, column}
use Rattle.cedar_model.specs.Terms.{Text, EntityName, long_literal, text_literal}
use Rattle.cedar_model.specs.Values.{plain_represented}
use Rattle.cedar_model.specs.Outcomes.{text_eq, entity_eq, long_of, text_of}
use Rattle.cedar_model.specs.Failures.{PartialValue, value}
use Rattle.cedar_model.specs.Settings.{StoredEntity, part_at}
use Rattle.cedar_names.specs.EqualityLaws.{text_eq-decides, entity_eq-decides}
use Rattle.cedar_filter.specs.declared.conditions.Operand.{Operand}
use Rattle.cedar_filter.specs.declared.conditions.Operand.TheVariants as operands
use Rattle.cedar_filter.specs.Rows.{Told, untold, part_told}
use Rattle.cedar_filter.specs.Conditions.{operand_told}
use Rattle.cedar_sql.specs.declared.columns.ColumnType.{ColumnType}
use Rattle.cedar_sql.specs.declared.columns.ColumnType.TheVariants as types
use Rattle.cedar_sql.specs.declared.columns.Column.{Column}
use Rattle.cedar_sql.specs.declared.columns.RowType.{RowType}
use Rattle.cedar_sql.specs.declared.columns.RowType.TheVariants.{One, Several}
use Rattle.cedar_sql.specs.Columns.{cell, IsTyped, HoldsAttribute, is_attribute}
use Rattle.cedar_sql.specs.Filled.{type_places, MayBeOf, CanHold, EntitiesHaveRows, LongsAreHeld, TextsAreHeld}
use Rattle.cedar_sql.specs.Filled.{AbsentIsNull}
use Rattle.cedar_sql.proofs.Encoded.{text_is_utf8}

-- ---- one place

put : Row → ℕ → Value → Row
put [] zero v = v ∷ []
put [] (suc p) v = Null ∷ put [] p v
put (w ∷ r) zero v = v ∷ r
put (w ∷ r) (suc p) v = w ∷ put r p v

put_itself : (r : Row) (p : ℕ) (v : Value) → column (put r p v) p ≡ v
unfolding put
put_itself [] zero v = refl
put_itself [] (suc p) v = put_itself [] p v
put_itself (w ∷ r) zero v = refl
put_itself (w ∷ r) (suc p) v = put_itself r p v

put_where : (r : Row) (p q : ℕ) (v : Value) → (p ≡ q → ⊥) → column (put r p v) q ≡ column r q
unfolding put
put_where [] zero zero v other = absurd (other refl)
put_where [] zero (suc q) v other = refl
put_where [] (suc p) zero v other = refl
put_where [] (suc p) (suc q) v other = put_where [] p q v (λ same. other (ap suc same))
put_where (w ∷ r) zero zero v other = absurd (other refl)
put_where (w ∷ r) zero (suc q) v other = refl
put_where (w ∷ r) (suc p) zero v other = refl
put_where (w ∷ r) (suc p) (suc q) v other = put_where r p q v (λ same. other (ap suc same))

put_other : (r : Row) (p q : ℕ) (v : Value) → (p == q) ≡ false → column (put r p v) q ≡ column r q
put_other r p q v apart = put_where r p q v (λ same. true≢false (sym (eq-eqb p q same) ∙ apart))

-- ---- the attributes

or_null : Option Value → Value
or_null None = Null
or_null (Some v) = v

some_value : (o : Option Value) → is_some o ≡ true → o ≡ Some (or_null o)
unfolding or_null
some_value None is = absurd (cc)
some_value (Some v) is = refl

abbrev places_of : List Column → List ℕ
places_of cs = map (λ (c : Column). c.place) cs

module _ (e : EntityName) (x : StoredEntity) where
  filled : List Column → Row
  filled [] = []
  filled (c ∷ cs) = put (filled cs) c.place (or_null (cell c.holds (operand_told e x c.attribute)))

  all_kept : (p : ℕ) (v : Value) (r : Row) (cs : List Column) → AllByRecursion (λ q. (p == q) ≡ false) (places_of cs)
      → AllByRecursion (HoldsAttribute r e x) cs → AllByRecursion (HoldsAttribute (put r p v) e x) cs
  all_kept p v r [] apart held = tt
  all_kept p v r (c ∷ cs) apart held =
      (held.0 ∙ ap (λ (w : Value). Some w) (sym (put_other r p c.place v apart.0)), all_kept p v r cs apart.1 held.1)

  all_held : (cs : List Column) → IsDistinct ◌==◌ (places_of cs) → AllByRecursion (CanHold e x) cs
      → AllByRecursion (HoldsAttribute (filled cs) e x) cs
  unfolding filled IsDistinct
  all_held [] apart can = tt
  all_held (c ∷ cs) apart can =
      let v : Value = or_null (cell c.holds (operand_told e x c.attribute)) in (
        some_value (cell c.holds (operand_told e x c.attribute)) can.0
            ∙ ap (λ (w : Value). Some w) (sym (put_itself (filled cs) c.place v)),
        all_kept c.place v (filled cs) cs apart.0 (all_held cs apart.1 can.1),
      )

  -- ---- the whole row

  abbrev IsRow : ℕ → RowType → List Column → Row → Type 0
  IsRow id t cs row = (column row id ≡ sql.Text e.id) × IsTyped t row e × AllByRecursion (HoldsAttribute row e x) cs

  row_for : (id : ℕ) (t : RowType) (cs : List Column) → IsDistinct ◌==◌ (id ∷ (type_places t ++ places_of cs))
      → MayBeOf t e → AllByRecursion (CanHold e x) cs → (row : Row) × IsRow id t cs row
  unfolding IsDistinct
  row_for id (One t) cs apart may can =
      let named : Value = sql.Text e.id in (
        put (filled cs) id named,
        (put_itself (filled cs) id named, may, all_kept id named (filled cs) cs apart.0 (all_held cs apart.1 can)),
      )
  row_for id (Several p) cs apart may can =
      let named : Value = sql.Text e.id in
      let of : Value = sql.Text e.type_name in
      let typed : Row = put (filled cs) p of in (
        put typed id named,
        (
          put_itself typed id named,
          put_other typed id p named apart.0.0 ∙ put_itself (filled cs) p of,
          all_kept id named typed cs apart.0.1 (all_kept p of (filled cs) cs apart.1.0 (all_held cs apart.1.1 can)),
        ),
      )

pub entities_have_rows : EntitiesHaveRows
entities_have_rows columns e x apart may can =
    let r = row_for e x columns.id columns.entity_type columns.attributes.items apart may can in
    (r.0, record { id = r.1.0; typed = r.1.1; attributes = r.1.2 })

-- ---- what a column holds

module _ (e : EntityName) (x : StoredEntity) where
  if_itself : (b : Bool) (t : Told) → b ≡ true → cond b t untold ≡ t
  if_itself true t is = refl
  if_itself false t is = absurd (cc)

  attribute_told_is : (a : Operand) (k : Text) → is_attribute a operands.Row k ≡ true
      → operand_told e x a ≡ part_told (part_at k x.attributes)
  attribute_told_is (operands.Known v) k is = absurd (cc)
  attribute_told_is operands.Row k is = absurd (cc)
  attribute_told_is (operands.Attribute' p (operands.Known v) j) k is =
      absurd (let both = and_parts (text_eq (rc_str_bytes j) k) false is in cc)
  attribute_told_is (operands.Attribute' p (operands.Attribute' q o i) j) k is =
      absurd (let both = and_parts (text_eq (rc_str_bytes j) k) false is in cc)
  attribute_told_is (operands.Attribute' p operands.Row j) k is =
      let named : rc_str_bytes j ≡ k =
      (text_eq-decides (rc_str_bytes j) k).0 (and_parts (text_eq (rc_str_bytes j) k) true is).0 in
      if_itself (entity_eq e e) (part_told (part_at (rc_str_bytes j) x.attributes)) ((entity_eq-decides e e).1 refl)
      ∙ ap (λ (t : Text). part_told (part_at t x.attributes)) named

  cell_is : (t : ColumnType) (a : Operand) (k : Text) (o : Option PartialValue) → is_attribute a operands.Row k ≡ true
      → part_at k x.attributes ≡ o → cell t (operand_told e x a) ≡ cell t (part_told o)
  cell_is t a k o is there =
      ap (cell t) (attribute_told_is a k is ∙ ap (λ (q : Option PartialValue). part_told q) there)

pub longs_are_held : LongsAreHeld
unfolding long_of
longs_are_held e x a k n is there = cell_is e x types.Long a k (Some (value (plain_represented (long_literal n)))) is there

pub texts_are_held : TextsAreHeld
unfolding text_of
texts_are_held e x a k t is there =
    cell_is e x types.String a k (Some (value (plain_represented (text_literal (rc_str_bytes t))))) is there
    ∙ ap (λ (q : Bool). cond q (Some (sql.Text (rc_str_bytes t))) None) (text_is_utf8 t)

pub absent_is_null : AbsentIsNull
absent_is_null e x c k is there = cell_is e x c.holds c.attribute k None is there
