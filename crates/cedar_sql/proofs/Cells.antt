-- What the columns of a row hold is what the entity tells.
use Rattle.std.specs.Prelude.{ℕ, ◌∷◌, [], pos, option_map, option_and_then, IfSome}
use Rattle.std.specs.List.{AllByRecursion}
use Rattle.std.specs.Rc.{rc_str_bytes}
use Rattle.std.specs.Str.{is_utf8}
use Rattle.std.proofs.Common.{◌≡◌, ◌∙◌, inl, inr, Bool, true, false, cond, List, Option, Some, None, refl, sym, ap, subst}
use Rattle.std.proofs.lemmas.Bool.{and_parts}
use Rattle.sqlite_value.specs.declared.value.Value.{Value}
use Rattle.sqlite_value.specs.declared.value.Value.TheVariants as sql
use Rattle.sqlite_value.specs.declared.value.Value.TheVariants.{Null, Int}
use Rattle.sqlite_value.specs.Order.{Row, column}
use Rattle.sqlite_sql.specs.Ops.{from_truth, is_null}
use Rattle.sqlite_sql.specs.Term.{Term, Env, lit, eval}
use Rattle.cedar_model.specs.Terms.{Text, EntityName, Literal, bool_literal, long_literal, text_literal, entity_literal}
use Rattle.cedar_model.specs.Values.{AbstractValue, plain, set_value, record_value, extension_value}
use Rattle.cedar_model.specs.Values.{Represented, plain_represented, set_represented, record_represented}
use Rattle.cedar_model.specs.Values.{extension_represented}
use Rattle.cedar_model.specs.Outcomes.{gives, errs, bool_of, long_of, text_of, entity_of, fields_of_value, text_eq}
use Rattle.cedar_model.specs.Settings.{StoredEntity}
use Rattle.cedar_names.specs.EqualityLaws.{text_eq-decides}
use Rattle.cedar_names.specs.Names.{type_text}
use Rattle.cedar_filter.specs.declared.conditions.Operand.{Operand}
use Rattle.cedar_filter.specs.declared.conditions.Operand.TheVariants as operands
use Rattle.cedar_filter.specs.Rows.{Told, tells, untold, told_then, attribute_told}
use Rattle.cedar_filter.specs.Conditions.{known_told, operand_told}
use Rattle.cedar_sql.specs.declared.columns.ColumnType.{ColumnType}
use Rattle.cedar_sql.specs.declared.columns.ColumnType.TheVariants as types
use Rattle.cedar_sql.specs.declared.columns.Column.{Column}
use Rattle.cedar_sql.specs.declared.columns.RowType.{RowType}
use Rattle.cedar_sql.specs.declared.columns.RowType.TheVariants.{One, Several}
use Rattle.cedar_sql.specs.declared.columns.Columns.{Columns}
use Rattle.cedar_sql.specs.Columns.{id_in, utf8_text, held_value, cell, IsTyped, HoldsAttribute, Represents, same_operand}
use Rattle.cedar_sql.specs.Columns.{is_attribute, column_at}
use Rattle.cedar_sql.specs.Terms.{row_column}
use Rattle.cedar_sql.specs.Sides.{Sort, bool_sort, long_sort, text_sort, entity_sort, Side, side, has_nul, text_side}
use Rattle.cedar_sql.specs.Sides.{literal_side, known_side, row_sort_of, column_sort, sorted, column_side}
use Rattle.cedar_sql.specs.Sides.{operand_side}
use Rattle.cedar_sql.proofs.Truths.{IsSide, IsThere}

-- ---- cells

module _ (row : Row) where
  bool_cell : (w : AbstractValue) (v : Value) → held_value types.Bool w ≡ Some v → IsThere row bool_sort (tells (gives w)) v
  unfolding bool_of
  bool_cell (plain (bool_literal b)) v is =
      let same : v ≡ from_truth (Some b) = cc in record { held = b; of_sort = tt; is_told = refl; is_value = same }
  bool_cell (plain (long_literal n)) v is = absurd (cc)
  bool_cell (plain (text_literal t)) v is = absurd (cc)
  bool_cell (plain (entity_literal d)) v is = absurd (cc)
  bool_cell (set_value vs) v is = absurd (cc)
  bool_cell (record_value fs) v is = absurd (cc)
  bool_cell (extension_value t k) v is = absurd (cc)

  long_cell : (w : AbstractValue) (v : Value) → held_value types.Long w ≡ Some v → IsThere row long_sort (tells (gives w)) v
  unfolding long_of
  long_cell (plain (bool_literal b)) v is = absurd (cc)
  long_cell (plain (long_literal n)) v is =
      let same : v ≡ Int n = cc in record { held = n; of_sort = tt; is_told = refl; is_value = same }
  long_cell (plain (text_literal t)) v is = absurd (cc)
  long_cell (plain (entity_literal d)) v is = absurd (cc)
  long_cell (set_value vs) v is = absurd (cc)
  long_cell (record_value fs) v is = absurd (cc)
  long_cell (extension_value t k) v is = absurd (cc)

  utf8_cell : (q : Bool) (t : Text) (v : Value) → (q ≡ true → is_utf8 t ≡ true) → cond q (Some (sql.Text t)) None ≡ Some v
      → IsThere row text_sort (tells (gives (plain (text_literal t)))) v
  utf8_cell true t v utf8 is =
      let same : v ≡ sql.Text t = cc in record { held = t; of_sort = utf8 refl; is_told = refl; is_value = same }
  utf8_cell false t v utf8 is = absurd (cc)

  text_cell : (w : AbstractValue) (v : Value) → held_value types.String w ≡ Some v → IsThere row text_sort (tells (gives w)) v
  unfolding text_of
  text_cell (plain (bool_literal b)) v is = absurd (cc)
  text_cell (plain (long_literal n)) v is = absurd (cc)
  text_cell (plain (text_literal t)) v is = utf8_cell (is_utf8 t) t v (λ utf8. utf8) is
  text_cell (plain (entity_literal d)) v is = absurd (cc)
  text_cell (set_value vs) v is = absurd (cc)
  text_cell (record_value fs) v is = absurd (cc)
  text_cell (extension_value t k) v is = absurd (cc)

  id_cell : (q : Bool) (t : Text) (d : EntityName) (v : Value) → (q ≡ true → d.type_name ≡ t) → cond q (Some (sql.Text d.id)) None ≡ Some v
      → IsThere row (entity_sort t) (tells (gives (plain (entity_literal d)))) v
  id_cell true t d v typed is =
      let same : v ≡ sql.Text d.id = cc in record { held = d; of_sort = typed refl; is_told = refl; is_value = same }
  id_cell false t d v typed is = absurd (cc)

  entity_cell : (t : Text) (w : AbstractValue) (v : Value) → option_and_then (id_in t) (entity_of w) ≡ Some v
      → IsThere row (entity_sort t) (tells (gives w)) v
  unfolding entity_of
  entity_cell t (plain (bool_literal b)) v is = absurd (cc)
  entity_cell t (plain (long_literal n)) v is = absurd (cc)
  entity_cell t (plain (text_literal u)) v is = absurd (cc)
  entity_cell t (plain (entity_literal d)) v is = id_cell (text_eq d.type_name t) t d v (text_eq-decides d.type_name t).0 is
  entity_cell t (set_value vs) v is = absurd (cc)
  entity_cell t (record_value fs) v is = absurd (cc)
  entity_cell t (extension_value u k) v is = absurd (cc)

  null_cell : (v : Value) → Some Null ≡ Some v → v ≡ Null
  null_cell v is = cc

  -- a cell is an operand's value
  pub cell_side : (t : ColumnType) (r : Told) (v : Value) → cell t r ≡ Some v → IfSome (column_sort t) (λ s. IsSide row s r v)
  cell_side types.Bool (tells (gives w)) v is = inr (bool_cell w v is)
  cell_side types.Bool (tells (errs k)) v is = inl (record { may = tt; kind = k; is_told = refl; is_null = null_cell v is })
  cell_side types.Bool untold v is = absurd (cc)
  cell_side types.Long (tells (gives w)) v is = inr (long_cell w v is)
  cell_side types.Long (tells (errs k)) v is = inl (record { may = tt; kind = k; is_told = refl; is_null = null_cell v is })
  cell_side types.Long untold v is = absurd (cc)
  cell_side types.String (tells (gives w)) v is = inr (text_cell w v is)
  cell_side types.String (tells (errs k)) v is = inl (record { may = tt; kind = k; is_told = refl; is_null = null_cell v is })
  cell_side types.String untold v is = absurd (cc)
  cell_side (types.Entity t) (tells (gives w)) v is = inr (entity_cell (type_text t) w v is)
  cell_side (types.Entity t) (tells (errs k)) v is = inl (record { may = tt; kind = k; is_told = refl; is_null = null_cell v is })
  cell_side (types.Entity t) untold v is = absurd (cc)
  cell_side types.Record r v is = tt

-- ---- a cell of a value is not NULL

mapped_there : {A : Type 0} (f : A → Value) → ((a : A) → is_null (f a) ≡ false) → (o : Option A) (v : Value) → option_map f o ≡ Some v → is_null v ≡ false
mapped_there f h None v is = absurd (cc)
mapped_there f h (Some a) v is = let same : v ≡ f a = cc in ap is_null same ∙ h a

truth_there : (b : Bool) → is_null (from_truth (Some b)) ≡ false
truth_there true = refl
truth_there false = refl

id_there : (q : Bool) (d : EntityName) (v : Value) → cond q (Some (sql.Text d.id)) None ≡ Some v → is_null v ≡ false
id_there true d v is = let same : v ≡ sql.Text d.id = cc in ap is_null same
id_there false d v is = absurd (cc)

utf8_there : (q : Bool) (t : Text) (v : Value) → cond q (Some (sql.Text t)) None ≡ Some v → is_null v ≡ false
utf8_there true t v is = let same : v ≡ sql.Text t = cc in ap is_null same
utf8_there false t v is = absurd (cc)

text_there : (o : Option Text) (v : Value) → option_and_then utf8_text o ≡ Some v → is_null v ≡ false
text_there None v is = absurd (cc)
text_there (Some t) v is = utf8_there (is_utf8 t) t v is

entity_there : (t : Text) (o : Option EntityName) (v : Value) → option_and_then (id_in t) o ≡ Some v → is_null v ≡ false
entity_there t None v is = absurd (cc)
entity_there t (Some d) v is = id_there (text_eq d.type_name t) d v is

pub held_not_null : (t : ColumnType) (w : AbstractValue) (v : Value) → held_value t w ≡ Some v → is_null v ≡ false
held_not_null types.Bool w v is = mapped_there (λ b. from_truth (Some b)) truth_there (bool_of w) v is
held_not_null types.Long w v is = mapped_there Int (λ n. refl) (long_of w) v is
held_not_null types.String w v is = text_there (text_of w) v is
held_not_null (types.Entity t) w v is = entity_there (type_text t) (entity_of w) v is
held_not_null types.Record w v is = mapped_there (λ fs. Int (pos 1)) (λ fs. refl) (fields_of_value w) v is

-- ---- which column holds an attribute

module _ (e : EntityName) (x : StoredEntity) where
  same_name : (s t : Text) → text_eq s t ≡ true → s ≡ t
  same_name s t is = (text_eq-decides s t).0 is

  pub same_told : (o q : Operand) → same_operand o q ≡ true → operand_told e x o ≡ operand_told e x q
  same_told (operands.Known v) q is = absurd (cc)
  same_told operands.Row (operands.Known v) is = absurd (cc)
  same_told operands.Row operands.Row is = refl
  same_told operands.Row (operands.Attribute' r q j) is = absurd (cc)
  same_told (operands.Attribute' p o k) (operands.Known v) is = absurd (cc)
  same_told (operands.Attribute' p o k) operands.Row is = absurd (cc)
  same_told (operands.Attribute' p o k) (operands.Attribute' r q j) is =
      let parts = and_parts (text_eq (rc_str_bytes k) (rc_str_bytes j)) (same_operand o q) is in
      λ i. told_then (same_told o q parts.1 i) (λ v. attribute_told e x v (same_name (rc_str_bytes k) (rc_str_bytes j) parts.0 i))

  attribute_is : (a o : Operand) (k : Text) → is_attribute a o k ≡ true
      → operand_told e x a ≡ told_then (operand_told e x o) (λ v. attribute_told e x v k)
  attribute_is (operands.Known v) o k is = absurd (cc)
  attribute_is operands.Row o k is = absurd (cc)
  attribute_is (operands.Attribute' p a j) o k is =
      let parts = and_parts (text_eq (rc_str_bytes j) k) (same_operand a o) is in
      λ i. told_then (same_told a o parts.1 i) (λ v. attribute_told e x v (same_name (rc_str_bytes j) k parts.0 i))

  module _ (row : Row) where
    -- the column holds what is told of the attribute
    abbrev pub HoldsWhat : Operand → Text → Column → Type 0
    HoldsWhat o k c = cell c.holds (told_then (operand_told e x o) (λ v. attribute_told e x v k)) ≡ Some (column row c.place)

    found_step : (q : Bool) (c : Column) (m : Option Column) (P : Column → Type 0) → (q ≡ true → P c) → IfSome m P → IfSome (cond q (Some c) m) P
    found_step true c m P h g = h refl
    found_step false c m P h g = g

    pub found : (cs : List Column) (o : Operand) (k : Text) → AllByRecursion (HoldsAttribute row e x) cs → IfSome (column_at cs o k) (HoldsWhat o k)
    found [] o k all = tt
    found (c ∷ cs) o k all =
        found_step (is_attribute c.attribute o k) c (column_at cs o k) (HoldsWhat o k)
        (λ is. subst (λ r. cell c.holds r ≡ Some (column row c.place)) (attribute_is c.attribute o k is) all.0)
        (found cs o k all.1)

-- ---- operands

module _ (row : Row) (env : Env) where
  -- how an operand is written is right, where it is written
  abbrev pub IsSideOf : Told → Side → Type 0
  IsSideOf r s = IsSide row s.sort r (eval s.term env)

  text_is : (q : Bool) (s : Sort) (t : Text) (r : Told) → IsSide row s r (sql.Text t) → IfSome (cond q None (Some (side s (lit (sql.Text t))))) (IsSideOf r)
  text_is true s t r h = tt
  text_is false s t r h = h

  utf8_is : (q : Bool) (t : Text) → (q ≡ true → is_utf8 t ≡ true)
      → IfSome (cond q (text_side text_sort t) None) (IsSideOf (tells (gives (plain (text_literal t)))))
  utf8_is true t utf8 =
      text_is (has_nul t) text_sort t (tells (gives (plain (text_literal t)))) (inr (record { held = t; of_sort = utf8 refl; is_told = refl; is_value = refl }))
  utf8_is false t utf8 = tt

  literal_is : (l : Literal) → IfSome (literal_side l) (IsSideOf (tells (gives (plain l))))
  literal_is (bool_literal b) = inr (record { held = b; of_sort = tt; is_told = refl; is_value = refl })
  literal_is (long_literal n) = inr (record { held = n; of_sort = tt; is_told = refl; is_value = refl })
  literal_is (text_literal t) = utf8_is (is_utf8 t) t (λ utf8. utf8)
  literal_is (entity_literal d) =
      text_is (has_nul d.id) (entity_sort d.type_name) d.id (tells (gives (plain (entity_literal d))))
      (inr (record { held = d; of_sort = refl; is_told = refl; is_value = refl }))

  known_is : (w : Represented) → IfSome (known_side w) (IsSideOf (known_told w))
  known_is (plain_represented l) = literal_is l
  known_is (set_represented vs) = tt
  known_is (record_represented fs) = tt
  known_is (extension_represented t k f ts) = tt

  row_is : (t : RowType) (e : EntityName) (v : Value) → IsTyped t row e → v ≡ sql.Text e.id → IsSide row (row_sort_of t) (tells (gives (plain (entity_literal e)))) v
  row_is (One t) e v typed is = inr (record { held = e; of_sort = typed; is_told = refl; is_value = is })
  row_is (Several p) e v typed is = inr (record { held = e; of_sort = typed; is_told = refl; is_value = is })

  sorted_is : (m : Option Sort) (t : Term) (r : Told) → IfSome m (λ s. IsSide row s r (eval t env)) → IfSome (sorted m t) (IsSideOf r)
  sorted_is None t r h = tt
  sorted_is (Some s) t r h = h

  module _ (is_row : (place : ℕ) → eval (row_column place) env ≡ column row place) where
    column_is : (c : Column) (r : Told) → cell c.holds r ≡ Some (column row c.place) → IfSome (column_side c) (IsSideOf r)
    column_is c r is =
        sorted_is (column_sort c.holds) (row_column c.place) r
        (cell_side row c.holds r (eval (row_column c.place) env) (is ∙ ap Some (sym (is_row c.place))))

    column_if : (m : Option Column) (r : Told) → IfSome m (λ c. cell c.holds r ≡ Some (column row c.place)) → IfSome (option_and_then column_side m) (IsSideOf r)
    column_if None r h = tt
    column_if (Some c) r h = column_is c r h

    pub operand_is : (columns : Columns) (e : EntityName) (x : StoredEntity) → Represents columns row e x → (o : Operand) → IfSome (operand_side columns o) (IsSideOf (operand_told e x o))
    operand_is columns e x h (operands.Known v) = known_is v.what
    operand_is columns e x h operands.Row =
        row_is columns.entity_type e (eval (row_column columns.id) env) h.typed (is_row columns.id ∙ h.id)
    operand_is columns e x h (operands.Attribute' p o k) =
        column_if (column_at columns.attributes.items o (rc_str_bytes k)) _ (found e x row columns.attributes.items o (rc_str_bytes k) h.attributes)
