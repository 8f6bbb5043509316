-- Connectives and questions: what is told of them is what their SQL is worth, where that holds of their parts.
use Rattle.std.specs.Prelude.{option_map}
use Rattle.std.proofs.Common.{◌≡◌, ◌∙◌, ◌⊎◌, inl, inr, ℕ, Bool, true, false, cond, not, ◌&&◌, ◌||◌, Some, None, refl, sym, ap}
use Rattle.std.proofs.lemmas.Bool.{or_left, or_right}
use Rattle.sqlite_value.specs.declared.value.Value.{Value}
use Rattle.sqlite_value.specs.declared.value.Value.TheVariants as sql
use Rattle.sqlite_value.specs.declared.value.Value.TheVariants.{Null, Int}
use Rattle.sqlite_value.specs.declared.keys.Collation.TheVariants.{Binary}
use Rattle.sqlite_value.specs.Order.{Row, column}
use Rattle.sqlite_sql.specs.declared.ops.UnaryOp.TheVariants.{Not}
use Rattle.sqlite_sql.specs.declared.ops.CompareOp.{CompareOp}
use Rattle.sqlite_sql.specs.declared.ops.CompareOp.TheVariants.{Eq}
use Rattle.sqlite_sql.specs.declared.ops.BinaryOp.TheVariants as by
use Rattle.sqlite_sql.specs.Ops.{from_truth, is_null, unary, binary, test}
use Rattle.sqlite_sql.specs.Term.{Term, Env, lit, op2, eval}
use Rattle.cedar_model.specs.Terms.{Text, bool_literal, long_literal, text_literal, entity_literal}
use Rattle.cedar_model.specs.Values.{AbstractValue, plain, set_value, record_value, extension_value}
use Rattle.cedar_model.specs.Outcomes.{ErrorKind, gives, errs, needing, bool_of, long_of, entity_of, text_eq}
use Rattle.cedar_model.specs.Keys.{value_eq}
use Rattle.cedar_filter.specs.Rows.{Told, tells, untold, told_then, told_needing, told_bool, tells_bool, comparison_told}
use Rattle.cedar_sql.specs.Meaning.{told_value}
use Rattle.cedar_sql.specs.Terms.{row_column}
use Rattle.cedar_sql.specs.Sides.{Sort, bool_sort, long_sort, text_sort, entity_sort, row_sort}
use Rattle.cedar_sql.specs.Said.{kinship, kin_term, truth_term, is_long_sort, bool_term, type_term}
use Rattle.cedar_sql.proofs.Values.{choice_value, choice_is, null_kin, HeldOf, sql_held, cedar_held, IsOfSort}
use Rattle.cedar_sql.proofs.Values.{equal_held, longs_compared, texts_compared, where_there_is, null_compared}

-- ---- truths

-- an error and NULL, or a truth
pub record HasFailed (r : Told) (v : Value) : Type 0 where
  pub kind : ErrorKind
  pub is_told : r ≡ tells (errs kind)
  pub is_null : v ≡ Null

pub record HasTruth (r : Told) (v : Value) : Type 0 where
  pub holds : Bool
  pub is_told : r ≡ tells_bool holds
  pub is_value : v ≡ from_truth (Some holds)

truth_in : (w : AbstractValue) (v : Value) → option_map (λ b. from_truth (Some b)) (bool_of w) ≡ Some v → HasTruth (tells (gives w)) v
unfolding bool_of
truth_in (plain (bool_literal b)) v is = let same : v ≡ from_truth (Some b) = cc in record { holds = b; is_told = refl; is_value = same }
truth_in (plain (long_literal n)) v is = absurd (cc)
truth_in (plain (text_literal t)) v is = absurd (cc)
truth_in (plain (entity_literal d)) v is = absurd (cc)
truth_in (set_value vs) v is = absurd (cc)
truth_in (record_value fs) v is = absurd (cc)
truth_in (extension_value t k) v is = absurd (cc)

pub truth_of : (r : Told) (v : Value) → told_value r ≡ Some v → HasFailed r v ⊎ HasTruth r v
truth_of (tells (gives w)) v is = inr (truth_in w v is)
truth_of (tells (errs k)) v is = let same : v ≡ Null = cc in inl (record { kind = k; is_told = refl; is_null = same })
truth_of untold v is = absurd (cc)

-- a truth is worth its value
pub truth_value : (b : Bool) → told_value (tells_bool b) ≡ Some (from_truth (Some b))
unfolding bool_of
truth_value b = refl

-- ---- connectives

choose_true : (b : Bool) (s t : Told) (v w : Value) → told_value s ≡ Some v → told_value t ≡ Some w →
    told_value (told_bool (tells_bool b) (λ p. cond p s t)) ≡ Some (choice_value (from_truth (Some b)) v w)
unfolding bool_of
choose_true true s t v w p q = p ∙ ap Some (sym (choice_is (Some true) v w))
choose_true false s t v w p q = q ∙ ap Some (sym (choice_is (Some false) v w))

pub choose_told : (r s t : Told) (u v w : Value) → told_value r ≡ Some u → told_value s ≡ Some v → told_value t ≡ Some w →
    told_value (told_bool r (λ p. cond p s t)) ≡ Some (choice_value u v w)
choose_told r s t u v w o p q = elim (truth_of r u o) [
  | inl f ↦
      (λ i. told_value (told_bool (f.is_told i) (λ p. cond p s t)))
      ∙ ap Some (sym (choice_is None v w)) ∙ (λ i. Some (choice_value (sym f.is_null i) v w))
  | inr h ↦
      (λ i. told_value (told_bool (h.is_told i) (λ p. cond p s t)))
      ∙ choose_true h.holds s t v w p q ∙ (λ i. Some (choice_value (sym h.is_value i) v w))
]

not_true : (b : Bool) → told_value (told_bool (tells_bool b) (λ p. tells_bool (not p))) ≡ Some (unary Not (from_truth (Some b)))
unfolding bool_of unary
not_true true = refl
not_true false = refl

null_not : unary Not Null ≡ Null
unfolding unary
null_not = refl

pub not_told : (r : Told) (u : Value) → told_value r ≡ Some u → told_value (told_bool r (λ p. tells_bool (not p))) ≡ Some (unary Not u)
not_told r u o = elim (truth_of r u o) [
  | inl f ↦
      (λ i. told_value (told_bool (f.is_told i) (λ p. tells_bool (not p)))) ∙ ap Some (sym null_not) ∙ (λ i. Some (unary Not (sym f.is_null i)))
  | inr h ↦
      (λ i. told_value (told_bool (h.is_told i) (λ p. tells_bool (not p)))) ∙ not_true h.holds ∙ (λ i. Some (unary Not (sym h.is_value i)))
]

-- ---- operands

-- what may be absent: all but the row itself
abbrev pub MayErr : Sort → Type 0
MayErr bool_sort = Unit {0}
MayErr long_sort = Unit {0}
MayErr text_sort = Unit {0}
MayErr (entity_sort t) = Unit {0}
MayErr (row_sort p) = ⊥

pub record HasErred (s : Sort) (r : Told) (v : Value) : Type 0 where
  pub may : MayErr s
  pub kind : ErrorKind
  pub is_told : r ≡ tells (errs kind)
  pub is_null : v ≡ Null

pub record IsThere (row : Row) (s : Sort) (r : Told) (v : Value) : Type 0 where
  pub held : HeldOf s
  pub of_sort : IsOfSort row s held
  pub is_told : r ≡ tells (gives (cedar_held s held))
  pub is_value : v ≡ sql_held s held

-- an operand of this sort, as the row tells it and as SQL has it
abbrev pub IsSide : Row → Sort → Told → Value → Type 0
IsSide row s r v = HasErred s r v ⊎ IsThere row s r v

null_is : (v : Value) → v ≡ Null → is_null v ≡ true
null_is v is = ap is_null is

-- ---- a bool

bool_held : (s : Sort) (h : HeldOf s) (v : Value) → v ≡ sql_held s h → (env : Env) (a : Term) → eval a env ≡ v →
    told_value (told_needing (bool_of (cedar_held s h)) tells_bool) ≡ Some (eval (bool_term s a) env)
unfolding bool_of
bool_held bool_sort h v is env a at = ap Some (sym (at ∙ is))
bool_held long_sort h v is env a at = refl
bool_held text_sort h v is env a at = refl
bool_held (entity_sort t) h v is env a at = refl
bool_held (row_sort p) h v is env a at = refl

bool_null : (s : Sort) (env : Env) (a : Term) → eval a env ≡ Null → Null ≡ eval (bool_term s a) env
bool_null bool_sort env a is = sym is
bool_null long_sort env a is = refl
bool_null text_sort env a is = refl
bool_null (entity_sort t) env a is = refl
bool_null (row_sort p) env a is = refl

module _ (row : Row) (env : Env) (is_row : (place : ℕ) → eval (row_column place) env ≡ column row place) where
  pub bool_told : (s : Sort) (r : Told) (a : Term) → IsSide row s r (eval a env) → told_value (told_bool r tells_bool) ≡ Some (eval (bool_term s a) env)
  bool_told s r a side = elim side [
    | inl f ↦ (λ i. told_value (told_bool (f.is_told i) tells_bool)) ∙ ap Some (bool_null s env a f.is_null)
    | inr h ↦ (λ i. told_value (told_bool (h.is_told i) tells_bool)) ∙ bool_held s h.held (eval a env) h.is_value env a refl
  ]

  -- ---- equality

  pub equal_told : (s t : Sort) (q r : Told) (a b : Term) → IsSide row s q (eval a env) → IsSide row t r (eval b env) →
      told_value (told_then q (λ u. told_then r (λ v. tells_bool (value_eq u v)))) ≡ Some (eval (kin_term (kinship s t) a b) env)
  equal_told s t q r a b x y = elim x [
    | inl f ↦
        (λ i. told_value (told_then (f.is_told i) (λ u. told_then r (λ v. tells_bool (value_eq u v)))))
        ∙ ap Some (sym (null_kin env (kinship s t) a b (or_left _ _ (null_is _ f.is_null))))
    | inr h ↦ (λ i. told_value (told_then (h.is_told i) (λ u. told_then r (λ v. tells_bool (value_eq u v))))) ∙ elim y [
      | inl f ↦
          (λ i. told_value (told_then (f.is_told i) (λ v. tells_bool (value_eq (cedar_held s h.held) v))))
          ∙ ap Some (sym (null_kin env (kinship s t) a b (or_right _ _ (null_is _ f.is_null))))
      | inr j ↦
          (λ i. told_value (told_then (j.is_told i) (λ v. tells_bool (value_eq (cedar_held s h.held) v))))
          ∙ truth_value (value_eq (cedar_held s h.held) (cedar_held t j.held))
          ∙ ap Some (sym (equal_held row env is_row s t h.held j.held a b h.of_sort j.of_sort h.is_value j.is_value))
    ]
  ]

-- ---- order

-- longs are compared; of what is none there is an error
order_held : (op : CompareOp) (s t : Sort) (h : HeldOf s) (j : HeldOf t) →
    told_value (comparison_told (test op) (cedar_held s h) (cedar_held t j))
    ≡ Some (cond (is_long_sort s && is_long_sort t) (binary (by.Compare op Binary) (sql_held s h) (sql_held t j)) Null)
unfolding long_of needing bool_of
order_held op bool_sort t h j = refl
order_held op long_sort bool_sort h j = refl
order_held op long_sort long_sort h j = ap Some (sym (longs_compared op h j))
order_held op long_sort text_sort h j = refl
order_held op long_sort (entity_sort d) h j = refl
order_held op long_sort (row_sort p) h j = refl
order_held op text_sort t h j = refl
order_held op (entity_sort d) t h j = refl
order_held op (row_sort p) t h j = refl

order_null : (op : CompareOp) (q : Bool) (u v : Value) → (is_null u || is_null v) ≡ true → cond q (binary (by.Compare op Binary) u v) Null ≡ Null
order_null op true u v is = null_compared op u v is
order_null op false u v is = refl

at_cond : (q : Bool) (a b : Term) (env : Env) → eval (cond q a b) env ≡ cond q (eval a env) (eval b env)
at_cond true a b env = refl
at_cond false a b env = refl

module _ (row : Row) (env : Env) where
  pub order_told : (op : CompareOp) (s t : Sort) (q r : Told) (a b : Term) → IsSide row s q (eval a env) → IsSide row t r (eval b env) →
      told_value (told_then q (λ u. told_then r (comparison_told (test op) u)))
      ≡ Some (eval (cond (is_long_sort s && is_long_sort t) (op2 (by.Compare op Binary) a b) (lit Null)) env)
  order_told op s t q r a b x y =
      let fits = is_long_sort s && is_long_sort t in
      elim x [
        | inl f ↦
            (λ i. told_value (told_then (f.is_told i) (λ u. told_then r (comparison_told (test op) u))))
            ∙ ap Some (sym (order_null op fits (eval a env) (eval b env) (or_left _ _ (null_is _ f.is_null))))
        | inr h ↦ (λ i. told_value (told_then (h.is_told i) (λ u. told_then r (comparison_told (test op) u)))) ∙ elim y [
          | inl f ↦
              (λ i. told_value (told_then (f.is_told i) (comparison_told (test op) (cedar_held s h.held))))
              ∙ ap Some (sym (order_null op fits (eval a env) (eval b env) (or_right _ _ (null_is _ f.is_null))))
          | inr j ↦
              (λ i. told_value (told_then (j.is_told i) (comparison_told (test op) (cedar_held s h.held))))
              ∙ order_held op s t h.held j.held
              ∙ (λ i. Some (cond fits (binary (by.Compare op Binary) (sym h.is_value i) (sym j.is_value i)) Null))
        ]
      ] ∙ ap Some (sym (at_cond fits (op2 (by.Compare op Binary) a b) (lit Null) env))

-- ---- types

at_there : (v w : Value) → is_null v ≡ false → cond (is_null v) Null w ≡ w
at_there v w is = rw is refl

module _ (row : Row) (env : Env) (is_row : (place : ℕ) → eval (row_column place) env ≡ column row place) where
  type_held : (t : Text) (s : Sort) (h : HeldOf s) (a : Term) → IsOfSort row s h → eval a env ≡ sql_held s h →
      told_value (told_needing (entity_of (cedar_held s h)) (λ d. tells_bool (text_eq d.type_name t))) ≡ Some (eval (type_term t s a) env)
  unfolding entity_of bool_of
  type_held t bool_sort h a of is = refl
  type_held t long_sort h a of is = refl
  type_held t text_sort h a of is = refl
  type_held t (entity_sort s) d a of is =
      (λ i. Some (from_truth (Some (text_eq (of i) t))))
      ∙ ap Some (sym (where_there_is env a (truth_term (text_eq s t)) ∙ at_there (eval a env) (from_truth (Some (text_eq s t))) (ap is_null is)))
  type_held t (row_sort p) d a of is =
      ap Some (sym ((λ i. binary (by.Compare Eq Binary) ((is_row p ∙ of) i) (sql.Text t)) ∙ texts_compared d.type_name t))

  type_null : (t : Text) (s : Sort) (a : Term) → MayErr s → eval a env ≡ Null → Null ≡ eval (type_term t s a) env
  type_null t bool_sort a may is = refl
  type_null t long_sort a may is = refl
  type_null t text_sort a may is = refl
  type_null t (entity_sort s) a may is =
      sym (where_there_is env a (truth_term (text_eq s t)) ∙ ap (λ v. cond (is_null v) Null (from_truth (Some (text_eq s t)))) is)
  type_null t (row_sort p) a may is = absurd may

  pub type_told : (t : Text) (s : Sort) (r : Told) (a : Term) → IsSide row s r (eval a env) →
      told_value (told_then r (λ v. told_needing (entity_of v) (λ d. tells_bool (text_eq d.type_name t)))) ≡ Some (eval (type_term t s a) env)
  type_told t s r a side = elim side [
    | inl f ↦
        (λ i. told_value (told_then (f.is_told i) (λ v. told_needing (entity_of v) (λ d. tells_bool (text_eq d.type_name t)))))
        ∙ ap Some (type_null t s a f.may f.is_null)
    | inr h ↦
        (λ i. told_value (told_then (h.is_told i) (λ v. told_needing (entity_of v) (λ d. tells_bool (text_eq d.type_name t)))))
        ∙ type_held t s h.held a h.of_sort h.is_value
  ]
