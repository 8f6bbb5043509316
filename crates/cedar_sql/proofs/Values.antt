-- What comparisons and choices of SQL are worth, at the values that conditions have.
use Rattle.std.specs.Prelude.{ℤ, pos, if◌then◌else◌}
use Rattle.std.specs.Ordering.{is_eq, int_cmp}
use Rattle.std.specs.Str.{is_utf8}
use Rattle.std.proofs.Common.{◌≡◌, ◌∙◌, ℕ, Bool, true, false, cond, ◌&&◌, ◌||◌, Option, Some, None, refl, sym, ap}
use Rattle.sqlite_value.specs.declared.value.Value.{Value}
use Rattle.sqlite_value.specs.declared.value.Value.TheVariants as sql
use Rattle.sqlite_value.specs.declared.value.Value.TheVariants.{Null, Int}
use Rattle.sqlite_value.specs.declared.keys.Collation.TheVariants.{Binary}
use Rattle.sqlite_value.specs.Order.{Row, column}
use Rattle.sqlite_value.proofs.OrderLemmas.{value_cmp-Int, value_cmp-Text}
use Rattle.sqlite_sql.specs.declared.ops.UnaryOp.TheVariants.{IsNull}
use Rattle.sqlite_sql.specs.declared.ops.CompareOp.{CompareOp}
use Rattle.sqlite_sql.specs.declared.ops.CompareOp.TheVariants.{Eq}
use Rattle.sqlite_sql.specs.declared.ops.BinaryOp.TheVariants as by
use Rattle.sqlite_sql.specs.Ops.{from_truth, is_true, is_null, unary, binary, test}
use Rattle.sqlite_sql.specs.Term.{Term, Env, eval}
use Rattle.cedar_model.specs.Terms.{Text, EntityName, bool_literal, long_literal, text_literal, entity_literal}
use Rattle.cedar_model.specs.Values.{AbstractValue, plain}
use Rattle.cedar_model.specs.Outcomes.{text_eq, entity_eq}
use Rattle.cedar_model.specs.Keys.{value_eq}
use Rattle.cedar_model.specs.lemmas.Keys.{key_cmp-text_key}
use Rattle.cedar_names.specs.EqualityLaws.{text_eq-key, entity_eq-key}
use Rattle.cedar_sql.specs.Terms.{row_column, equals}
use Rattle.cedar_sql.specs.Sides.{Sort, bool_sort, long_sort, text_sort, entity_sort, row_sort}
use Rattle.cedar_sql.specs.Said.{where_there, false_where_there, Kinship, same_sort, other_sort, where_equal}
use Rattle.cedar_sql.specs.Said.{kinship, kin_term, text_term, truth_term}

-- ---- choices

-- the value of `choose`
abbrev pub choice_value : Value → Value → Value → Value
choice_value c a b =
    if is_true (binary (by.Compare Eq Binary) c (Int (pos 1))) then a
    else (if is_true (binary (by.Compare Eq Binary) c (Int (pos 0))) then b else Null)

abbrev pub chosen : Option Bool → Value → Value → Value
chosen None a b = Null
chosen (Some true) a b = a
chosen (Some false) a b = b

pub choice_is : (o : Option Bool) (a b : Value) → choice_value (from_truth o) a b ≡ chosen o a b
unfolding binary
choice_is None a b = refl
choice_is (Some true) a b = rw (value_cmp-Int (pos 1) (pos 1)) refl
choice_is (Some false) a b = rw (value_cmp-Int (pos 0) (pos 1), value_cmp-Int (pos 0) (pos 0)) refl

cond_same : (q : Bool) (v : Value) → cond q v v ≡ v
cond_same true v = refl
cond_same false v = refl

-- a choice between NULL and NULL
pub null_choice : (c : Value) → choice_value c Null Null ≡ Null
null_choice c =
    ap (λ w. cond (is_true (binary (by.Compare Eq Binary) c (Int (pos 1)))) Null w) (cond_same _ Null) ∙ cond_same _ Null

pub there_is : (v w : Value) → choice_value (unary IsNull v) Null w ≡ cond (is_null v) Null w
unfolding unary
there_is v w = choice_is (Some (is_null v)) Null w ∙ by_test (is_null v)
  where
    by_test : (q : Bool) → chosen (Some q) Null w ≡ cond q Null w
    by_test true = refl
    by_test false = refl

-- ---- NULL

pub null_compared : (op : CompareOp) (u v : Value) → (is_null u || is_null v) ≡ true → binary (by.Compare op Binary) u v ≡ Null
unfolding binary
null_compared op u v is = rw is refl

never_value : (p q : Bool) → (p || q) ≡ true → (w : Value) → cond p Null (cond q Null w) ≡ Null
never_value true q is w = refl
never_value false true is w = refl
never_value false false is w = absurd (cc)

module _ (env : Env) where
  pub where_there_is : (a t : Term) → eval (where_there a t) env ≡ cond (is_null (eval a env)) Null (eval t env)
  where_there_is a t = there_is (eval a env) (eval t env)

  never_is : (a b : Term) → eval (false_where_there a b) env ≡ cond (is_null (eval a env)) Null (cond (is_null (eval b env)) Null (Int (pos 0)))
  never_is a b =
      where_there_is a (where_there b (truth_term false))
      ∙ ap (cond (is_null (eval a env)) Null) (where_there_is b (truth_term false))

  never_null : (a b : Term) → (is_null (eval a env) || is_null (eval b env)) ≡ true → eval (false_where_there a b) env ≡ Null
  never_null a b is = never_is a b ∙ never_value (is_null (eval a env)) (is_null (eval b env)) is (Int (pos 0))

  pub null_kin : (k : Kinship) (a b : Term) → (is_null (eval a env) || is_null (eval b env)) ≡ true → eval (kin_term k a b) env ≡ Null
  null_kin same_sort a b is = null_compared Eq (eval a env) (eval b env) is
  null_kin other_sort a b is = never_null a b is
  null_kin (where_equal s t) a b is =
      (λ i. choice_value (eval (equals s t) env) (null_compared Eq (eval a env) (eval b env) is i) (never_null a b is i))
      ∙ null_choice (eval (equals s t) env)

-- ---- values that are there

-- what a value of a sort is
abbrev pub HeldOf : Sort → Type 0
HeldOf bool_sort = Bool
HeldOf long_sort = ℤ
HeldOf text_sort = Text
HeldOf (entity_sort t) = EntityName
HeldOf (row_sort p) = EntityName

abbrev pub sql_held : (s : Sort) → HeldOf s → Value
sql_held bool_sort b = from_truth (Some b)
sql_held long_sort n = Int n
sql_held text_sort t = sql.Text t
sql_held (entity_sort t) d = sql.Text d.id
sql_held (row_sort p) d = sql.Text d.id

abbrev pub cedar_held : (s : Sort) → HeldOf s → AbstractValue
cedar_held bool_sort b = plain (bool_literal b)
cedar_held long_sort n = plain (long_literal n)
cedar_held text_sort t = plain (text_literal t)
cedar_held (entity_sort t) d = plain (entity_literal d)
cedar_held (row_sort p) d = plain (entity_literal d)

-- the type of an entity is that of its sort, and a text is in UTF-8
abbrev pub IsOfSort : Row → (s : Sort) → HeldOf s → Type 0
IsOfSort row bool_sort b = Unit {0}
IsOfSort row long_sort n = Unit {0}
IsOfSort row text_sort t = is_utf8 t ≡ true
IsOfSort row (entity_sort t) d = d.type_name ≡ t
IsOfSort row (row_sort p) d = column row p ≡ sql.Text d.type_name

pub bool_there : (b : Bool) → is_null (from_truth (Some b)) ≡ false
bool_there true = refl
bool_there false = refl

pub held_there : (s : Sort) (h : HeldOf s) → is_null (sql_held s h) ≡ false
held_there bool_sort b = bool_there b
held_there long_sort n = refl
held_there text_sort t = refl
held_there (entity_sort t) d = refl
held_there (row_sort p) d = refl

-- ---- equality of values that are there

bools_compared : (b c : Bool) → binary (by.Compare Eq Binary) (from_truth (Some b)) (from_truth (Some c)) ≡ from_truth (Some (value_eq (plain (bool_literal b)) (plain (bool_literal c))))
unfolding binary
bools_compared true true = rw (value_cmp-Int (pos 1) (pos 1)) refl
bools_compared true false = rw (value_cmp-Int (pos 1) (pos 0)) refl
bools_compared false true = rw (value_cmp-Int (pos 0) (pos 1)) refl
bools_compared false false = rw (value_cmp-Int (pos 0) (pos 0)) refl

pub longs_compared : (op : CompareOp) (m n : ℤ) → binary (by.Compare op Binary) (Int m) (Int n) ≡ from_truth (Some (test op (int_cmp m n)))
unfolding binary
longs_compared op m n = ap (λ o. from_truth (Some (test op o))) (value_cmp-Int m n)

pub texts_compared : (s t : Text) → binary (by.Compare Eq Binary) (sql.Text s) (sql.Text t) ≡ from_truth (Some (text_eq s t))
unfolding binary
texts_compared s t =
    ap (λ o. from_truth (Some (is_eq o))) (value_cmp-Text s t ∙ sym (key_cmp-text_key s t)) ∙ ap (λ b. from_truth (Some b)) (text_eq-key s t)

-- false, where both are there
never_there : (v w : Value) → is_null v ≡ false → is_null w ≡ false → cond (is_null v) Null (cond (is_null w) Null (Int (pos 0))) ≡ Int (pos 0)
never_there v w p q = rw (p, q) refl

both_tests : (p q : Bool) → chosen (Some p) (from_truth (Some q)) (Int (pos 0)) ≡ from_truth (Some (p && q))
both_tests true q = refl
both_tests false q = refl

module _ (row : Row) (env : Env) (is_row : (place : ℕ) → eval (row_column place) env ≡ column row place) where
  never_held : (a b : Term) (s t : Sort) (h : HeldOf s) (j : HeldOf t) → eval a env ≡ sql_held s h → eval b env ≡ sql_held t j
      → eval (false_where_there a b) env ≡ Int (pos 0)
  never_held a b s t h j p q =
      never_is env a b ∙ never_there (eval a env) (eval b env) (ap is_null p ∙ held_there s h) (ap is_null q ∙ held_there t j)

  -- entities whose types are compared
  typed_eq : (x y a b : Term) (d f : EntityName) → eval x env ≡ sql.Text d.type_name → eval y env ≡ sql.Text f.type_name
      → eval a env ≡ sql.Text d.id → eval b env ≡ sql.Text f.id
      → eval (kin_term (where_equal x y) a b) env ≡ from_truth (Some (entity_eq d f))
  typed_eq x y a b d f t u p q =
      (λ i. choice_value
      (((λ j. binary (by.Compare Eq Binary) (t j) (u j)) ∙ texts_compared d.type_name f.type_name) i)
      (((λ j. binary (by.Compare Eq Binary) (p j) (q j)) ∙ texts_compared d.id f.id) i)
      (never_held a b (entity_sort d.type_name) (entity_sort f.type_name) d f p q i))
      ∙ choice_is (Some (text_eq d.type_name f.type_name)) (from_truth (Some (text_eq d.id f.id))) (Int (pos 0))
      ∙ both_tests (text_eq d.type_name f.type_name) (text_eq d.id f.id)

  -- entities of known types
  known_eq : (same : Bool) (a b : Term) (d f : EntityName) → eval a env ≡ sql.Text d.id → eval b env ≡ sql.Text f.id
      → eval (kin_term (cond same same_sort other_sort) a b) env ≡ from_truth (Some (same && text_eq d.id f.id))
  known_eq true a b d f p q = (λ j. binary (by.Compare Eq Binary) (p j) (q j)) ∙ texts_compared d.id f.id
  known_eq false a b d f p q = never_held a b (entity_sort d.type_name) (entity_sort f.type_name) d f p q

  entities_eq : (d f : EntityName) → from_truth (Some (entity_eq d f)) ≡ from_truth (Some (value_eq (plain (entity_literal d)) (plain (entity_literal f))))
  entities_eq d f = ap (λ b. from_truth (Some b)) (sym (entity_eq-key d f))

  column_is : (place : ℕ) (t : Text) → column row place ≡ sql.Text t → eval (row_column place) env ≡ sql.Text t
  column_is place t is = is_row place ∙ is

  pub equal_held : (s t : Sort) (h : HeldOf s) (j : HeldOf t) (a b : Term) → IsOfSort row s h → IsOfSort row t j
      → eval a env ≡ sql_held s h → eval b env ≡ sql_held t j
      → eval (kin_term (kinship s t) a b) env ≡ from_truth (Some (value_eq (cedar_held s h) (cedar_held t j)))
  equal_held bool_sort bool_sort h j a b x y p q = (λ i. binary (by.Compare Eq Binary) (p i) (q i)) ∙ bools_compared h j
  equal_held bool_sort long_sort h j a b x y p q = never_held a b bool_sort long_sort h j p q
  equal_held bool_sort text_sort h j a b x y p q = never_held a b bool_sort text_sort h j p q
  equal_held bool_sort (entity_sort u) h j a b x y p q = never_held a b bool_sort (entity_sort u) h j p q
  equal_held bool_sort (row_sort u) h j a b x y p q = never_held a b bool_sort (row_sort u) h j p q
  equal_held long_sort bool_sort h j a b x y p q = never_held a b long_sort bool_sort h j p q
  equal_held long_sort long_sort h j a b x y p q = (λ i. binary (by.Compare Eq Binary) (p i) (q i)) ∙ longs_compared Eq h j
  equal_held long_sort text_sort h j a b x y p q = never_held a b long_sort text_sort h j p q
  equal_held long_sort (entity_sort u) h j a b x y p q = never_held a b long_sort (entity_sort u) h j p q
  equal_held long_sort (row_sort u) h j a b x y p q = never_held a b long_sort (row_sort u) h j p q
  equal_held text_sort bool_sort h j a b x y p q = never_held a b text_sort bool_sort h j p q
  equal_held text_sort long_sort h j a b x y p q = never_held a b text_sort long_sort h j p q
  equal_held text_sort text_sort h j a b x y p q =
      (λ i. binary (by.Compare Eq Binary) (p i) (q i)) ∙ texts_compared h j ∙ ap (λ c. from_truth (Some c)) (sym (text_eq-key h j))
  equal_held text_sort (entity_sort u) h j a b x y p q = never_held a b text_sort (entity_sort u) h j p q
  equal_held text_sort (row_sort u) h j a b x y p q = never_held a b text_sort (row_sort u) h j p q
  equal_held (entity_sort s) bool_sort h j a b x y p q = never_held a b (entity_sort s) bool_sort h j p q
  equal_held (entity_sort s) long_sort h j a b x y p q = never_held a b (entity_sort s) long_sort h j p q
  equal_held (entity_sort s) text_sort h j a b x y p q = never_held a b (entity_sort s) text_sort h j p q
  equal_held (entity_sort s) (entity_sort t) h j a b x y p q =
      known_eq (text_eq s t) a b h j p q
      ∙ (λ i. from_truth (Some (text_eq (sym x i) (sym y i) && text_eq h.id j.id))) ∙ entities_eq h j
  equal_held (entity_sort s) (row_sort u) h j a b x y p q =
      typed_eq (text_term s) (row_column u) a b h j (ap sql.Text (sym x)) (column_is u j.type_name y) p q ∙ entities_eq h j
  equal_held (row_sort s) bool_sort h j a b x y p q = never_held a b (row_sort s) bool_sort h j p q
  equal_held (row_sort s) long_sort h j a b x y p q = never_held a b (row_sort s) long_sort h j p q
  equal_held (row_sort s) text_sort h j a b x y p q = never_held a b (row_sort s) text_sort h j p q
  equal_held (row_sort s) (entity_sort u) h j a b x y p q =
      typed_eq (row_column s) (text_term u) a b h j (column_is s h.type_name x) (ap sql.Text (sym y)) p q ∙ entities_eq h j
  equal_held (row_sort s) (row_sort u) h j a b x y p q =
      typed_eq (row_column s) (row_column u) a b h j (column_is s h.type_name x) (column_is u j.type_name y) p q ∙ entities_eq h j
