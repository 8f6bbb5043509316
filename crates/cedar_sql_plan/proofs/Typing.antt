-- Terms on the rows of the type that is asked for.
use Rattle.std.specs.Prelude.{ℕ, pos, if◌then◌else◌, IfOk, Result, Ok, Err}
use Rattle.std.specs.declared.alloc.AllocError.{AllocError}
use Rattle.std.proofs.Common.{◌≡◌, ◌∙◌, Bool, true, false, ◌&&◌, List, Option, Some, None, refl, sym, ap}
use Rattle.sqlite_value.specs.declared.value.Value.TheVariants as sql
use Rattle.sqlite_value.specs.declared.keys.Collation.TheVariants.{Binary}
use Rattle.sqlite_value.specs.Order.{Row, column}
use Rattle.sqlite_sql.specs.declared.ops.CompareOp.TheVariants.{Eq}
use Rattle.sqlite_sql.specs.declared.ops.BinaryOp.TheVariants as by
use Rattle.sqlite_sql.specs.Ops.{from_truth, binary}
use Rattle.sqlite_sql.specs.Term.{Term, Env, eval}
use Rattle.cedar_model.specs.Terms.{Text, EntityName, ValueType, bool_type, long_type, string_type, set_type, record_type}
use Rattle.cedar_model.specs.Terms.{entity_type, extension_type}
use Rattle.cedar_model.specs.Settings.{StoredEntity}
use Rattle.cedar_model.specs.Outcomes.{text_eq}
use Rattle.cedar_names.specs.Names.{type_text}
use Rattle.cedar_filter.specs.Faults.{can_stand_for}
use Rattle.cedar_plan.specs.declared.plans.Plan.{Plan}
use Rattle.cedar_plan.specs.Planned.{row_type}
use Rattle.cedar_sql.specs.declared.columns.Columns.{Columns}
use Rattle.cedar_sql.specs.declared.columns.RowType.{RowType}
use Rattle.cedar_sql.specs.declared.columns.RowType.TheVariants.{One, Several}
use Rattle.cedar_sql.specs.declared.terms.SqlTerm.{SqlTerm}
use Rattle.cedar_sql.specs.Columns.{IsTyped, Represents}
use Rattle.cedar_sql.specs.Terms.{row_env, sql_term, number}
use Rattle.cedar_sql.proofs.Values.{texts_compared}
use Rattle.cedar_sql_plan.specs.Types.{typed_term, tested_term}
use Rattle.cedar_sql_plan.specs.Meaning.{IsTruthOn, permitted, permitted_row}

and_is : (a b : Bool) → binary by.And (from_truth (Some a)) (from_truth (Some b)) ≡ from_truth (Some (a && b))
unfolding binary
and_is true true = refl
and_is true false = refl
and_is false true = refl
and_is false false = refl

module _ (parameters row : Row) (later : List Row) (e : EntityName) (t : Term) (b : Bool)
    (is : eval t (row_env parameters row later) ≡ from_truth (Some b)) where
  abbrev env : Env
  env = row_env parameters row later

  -- one type for all rows
  of_one : (q : Bool) → eval (if q then t else number (pos 0)) env ≡ from_truth (Some (q && b))
  of_one true = is
  of_one false = refl

  -- a type for each
  of_several : (u : Text) (place : ℕ) → column row place ≡ sql.Text e.type_name
      → eval (tested_term u place t) env ≡ from_truth (Some (text_eq e.type_name u && b))
  of_several u place typed =
      (λ i. binary by.And (binary (by.Compare Eq Binary) (typed i) (sql.Text u)) (is i))
      ∙ ap (λ v. binary by.And v (from_truth (Some b))) (texts_compared e.type_name u)
      ∙ and_is (text_eq e.type_name u) b

  of_entity : (u : Text) (r : RowType) → IsTyped r row e
      → eval (typed_term (Some (entity_type u)) r t) env ≡ from_truth (Some (text_eq e.type_name u && b))
  of_entity u (One own) typed =
      of_one (text_eq (type_text own) u)
      ∙ ap (λ (s : Text). from_truth (Some (text_eq s u && b))) (sym typed)
  of_entity u (Several place) typed = of_several u place typed

  typed_is : (a : Option ValueType) (r : RowType) → IsTyped r row e
      → eval (typed_term a r t) env ≡ from_truth (Some (can_stand_for a e && b))
  typed_is None r typed = is
  typed_is (Some bool_type) r typed = refl
  typed_is (Some long_type) r typed = refl
  typed_is (Some string_type) r typed = refl
  typed_is (Some set_type) r typed = refl
  typed_is (Some record_type) r typed = refl
  typed_is (Some (entity_type u)) r typed = of_entity u r typed
  typed_is (Some (extension_type n)) r typed = refl

-- ---- as the program answers it

module _ (columns : Columns) (p : Plan) (may_be : Bool) where
  permitted_there : (s t : Term) → IsTruthOn columns (permitted columns p may_be) s
      → t ≡ typed_term (row_type p) columns.entity_type s → IsTruthOn columns (permitted_row columns p may_be) t
  permitted_there s t is same parameters row later e x represents =
      ap (λ (w : Term). eval w (row_env parameters row later)) same
      ∙ typed_is parameters row later e s (permitted columns p may_be e x) (is parameters row later e x represents)
      (row_type p) columns.entity_type represents.typed

  pub each_permitted_row : (s : SqlTerm) (a : Option ValueType) (r : Result SqlTerm AllocError) → a ≡ row_type p
      → IsTruthOn columns (permitted columns p may_be) (sql_term s)
      → IfOk r (λ t. sql_term t ≡ typed_term a columns.entity_type (sql_term s))
      → IfOk r (λ t. IsTruthOn columns (permitted_row columns p may_be) (sql_term t))
  each_permitted_row s a (Ok t) row is same =
      permitted_there (sql_term s) (sql_term t) is
      (same ∙ ap (λ (b : Option ValueType). typed_term b columns.entity_type (sql_term s)) row)
  each_permitted_row s a (Err e) row is same = tt
