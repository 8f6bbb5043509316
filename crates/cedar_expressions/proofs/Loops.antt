-- What is left to write, one part after another.
use Rattle.std.proofs.Common.{◌≡◌, ℕ, ◌+◌, ◌<◌, Bool, true, false, Option, List, ◌++◌, length, get_or, drop, codes, append_assoc}
use Rattle.std.proofs.lemmas.List.{drop_more}
use Rattle.cedar_model.specs.Terms.{Text, Term, Terms, one_term, Fields, one_field}
use Rattle.cedar_expressions.specs.declared.expr.Expr.{Expr}
use Rattle.cedar_expressions.specs.View.{view, terms_view}
use Rattle.cedar_names.specs.Texts.{shown, shown_parts, shown_fields, quoted, separator, is_spent, one_less}

-- one part of a list
pub parts_left : (m left : Option ℕ) (first : Bool) (t : Term) (ts rest : Terms) (done total : List ℕ) → ts ≡ one_term t rest → is_spent left ≡ false
    → done ++ shown_parts m left first ts ≡ total → (done ++ (separator first ++ shown m t)) ++ shown_parts m (one_less left) false rest ≡ total
parts_left m left first t ts rest done total is room whole =
    rw (append_assoc done, append_assoc (separator first)) (rw (is, room) at whole)

-- a bound that is spent ends the list
pub parts_end : (m left : Option ℕ) (first : Bool) (t : Term) (ts rest : Terms) (done total : List ℕ) → ts ≡ one_term t rest → is_spent left ≡ true
    → done ++ shown_parts m left first ts ≡ total → done ++ (separator first ++ codes "..") ≡ total
parts_end m left first t ts rest done total is spent whole = rw (is, spent) at whole

-- the same under keys
pub fields_left : (m left : Option ℕ) (first : Bool) (k : Text) (t : Term) (fs rest : Fields) (done total : List ℕ) → fs ≡ one_field k t rest → is_spent left ≡ false
    → done ++ shown_fields m left first fs ≡ total
    → (done ++ (separator first ++ (quoted k ++ (codes ": " ++ shown m t)))) ++ shown_fields m (one_less left) false rest ≡ total
fields_left m left first k t fs rest done total is room whole =
    simp append_assoc (simp append_assoc at (rw (is, room) at whole))

pub fields_end : (m left : Option ℕ) (first : Bool) (k : Text) (t : Term) (fs rest : Fields) (done total : List ℕ) → fs ≡ one_field k t rest → is_spent left ≡ true
    → done ++ shown_fields m left first fs ≡ total → done ++ (separator first ++ codes "..") ≡ total
fields_end m left first k t fs rest done total is spent whole = rw (is, spent) at whole

-- the terms of expressions, from one on
pub terms_view-drop : (es : List Expr) (i : ℕ) (e : Expr) → i < length es → e ≡ get_or es i e → terms_view (drop i es) ≡ one_term (view e) (terms_view (drop (i + 1) es))
terms_view-drop es i e h is = rw (drop_more es i e h, ← is)
