-- The value of each kind of expression, from the values of its parts.
use Rattle.std.specs.Prelude.{◌≡◌, ◌≤◌, ℕ, zero, suc, List, [], ◌∷◌, ◌++◌, length, map, Option, Some, None, Result, Ok, IfOk, IfSome, Bool, true, false}
use Rattle.std.proofs.Common.{refl, sym, ap, ◌∙◌, subst, arith}
use Rattle.std.specs.List.Sorted.{IsStrictlySortedBy}
use Rattle.std.specs.declared.alloc.AllocError.{AllocError}
use Rattle.std.specs.declared.alloc.Global.{Global}
use Rattle.std.specs.declared.rc.RcStr.{RcStr}
use Rattle.std.specs.declared.vec.Vec.{Vec}
use Rattle.cedar_model.specs.Terms.{Text, Term, Terms, extended_has, no_terms, one_term, BinaryOperator, binary, set_of, record_of, bool_literal, if_then_else}
use Rattle.cedar_model.specs.Values.{Represented, set_represented, record_represented, plain_represented}
use Rattle.cedar_model.specs.Sets.{canonical_set, represented_fields_of}
use Rattle.cedar_model.specs.Failures.{Answer, value, answers_value, answers_bool}
use Rattle.cedar_model.specs.Operators.{binary_answer, path_answer}
use Rattle.cedar_model.specs.Settings.{RequestPart, Setting}
use Rattle.cedar_model.specs.Rules.{StoredCalls, Parts, Runs, beside_residual, binary_beside, binary_of_parts, on_part}
use Rattle.cedar_expressions.specs.declared.expr.Expr.{Expr}
use Rattle.cedar_expressions.specs.View.{view, terms_view, fields_view}
use Rattle.cedar_values.specs.Sound.{Placed, whats}
use Rattle.cedar_restricted.specs.declared.answers.Answers.TheVariants as answereds
use Rattle.cedar_restricted.specs.declared.whole.Whole.TheVariants as wholes
use Rattle.cedar_expressions.specs.Nodes.{key_order}
use Rattle.cedar_restricted.specs.Keys.{texts_of, each_under}
use Rattle.cedar_restricted.specs.Parts.{SoFar, all_values}
use Rattle.cedar_restricted.specs.Steps.{so_far_none, so_far_more, so_far_all, whole_answers}
use Rattle.cedar_restricted.proofs.Collected.{names_under, views_under, fields_of_all, value_added}
use Rattle.cedar_model.specs.Outcomes.{bool_of}
use Rattle.cedar_interpreter.proofs.BooleanLaws.{guard_true, guard_false, leaves_right, decides}
use Rattle.cedar_interpreter.proofs.Laws.{literal_joined}
use Rattle.cedar_interpreter.specs.declared.evaluation.Evaluation.{Evaluation}
use Rattle.cedar_interpreter.specs.Settings.{Speaks, evaluation_setting, calls_in}
use Rattle.cedar_operators.specs.StoredResiduals.{path_residual}
use Rattle.cedar_operators.specs.declared.partial.connectives.Connective.{Connective}
use Rattle.cedar_operators.specs.Connectives.{deciding, neutral, joined_terms, beside_neutral}
use Rattle.cedar_interpreter.specs.Tasks.{AfterLeftSide}
use Rattle.cedar_interpreter.proofs.DirectLaws.{side_runs}
use Rattle.cedar_interpreter.proofs.ReadLaws.{as_stored, none_resolved, operator_value, path_as_stored, path_value}
use Rattle.cedar_interpreter.specs.Direct.{IsDirectValue, IsDirectBool, IsValueOf}
use Rattle.cedar_interpreter.specs.DirectEvaluators.{parts_under}

-- the first of them are, whatever the rest answers
abbrev pub AreSoFar : {X : Type 0} {F : X → Type 0} {g : _} → Evaluation X F g → ℕ → Terms → Terms → List Placed → Type 0
AreSoFar e h all rest vs =
    (r : RequestPart) (k : ℕ) → Speaks r e → h ≤ k → SoFar (Runs (evaluation_setting r e) (calls_in e) k) all rest (all_values (whats vs))

-- what is read of a variable, where parts have a level
pub read_at : (s : Setting) (calls : StoredCalls) (h k : ℕ) (t u : Term) (read : Term → Term) (o : Option Placed) →
    ((j : ℕ) → IsDirectValue s calls (suc (suc j)) (read u) o) → 1 ≤ h → h ≤ k → t ≡ u → IsDirectValue s calls (suc k) (read t) o
read_at s calls h zero t u read o direct some low is = absurd (omega (arith, some, low))
read_at s calls h (suc j) t u read o direct some low is = subst (λ x. IsDirectValue s calls (suc (suc j)) (read x) o) (sym is) (direct j)

-- where the rules make the whole's answer of that of its one part
pub part_direct : (s : Setting) (calls : StoredCalls) (j : ℕ) (u t : Term) (f : Answer → Answer) (w : Represented) (o : Option Placed) →
    ((x a : Answer) → Runs s calls j t x → a ≡ f x → Runs s calls (suc j) u a) →
    Runs s calls j t (answers_value w) → IfSome o (λ v. answers_value v.what ≡ f (answers_value w)) → IsDirectValue s calls (suc j) u o
part_direct s calls j u t f w None rule runs found = tt
part_direct s calls j u t f w (Some v) rule runs found = rule (answers_value w) (answers_value v.what) runs found

-- ---- `if`, `&&` and `||` of what has values

module _ (s : Setting) (calls : StoredCalls) (k : ℕ) (t u : Term) where
  pub true_guard_direct : (e : Term) (o : Option Placed) → Runs s calls k t (answers_bool true) → IsDirectValue s calls k u o → IsDirectValue s calls (suc k) (if_then_else t u e) o
  unfolding bool_of
  true_guard_direct e None runs direct = tt
  true_guard_direct e (Some v) runs direct =
      (answers_bool true, runs, guard_true (Runs s calls k) (value (plain_represented (bool_literal true))) u e (answers_value v.what) refl direct)

  pub false_guard_direct : (d : Term) (o : Option Placed) → Runs s calls k t (answers_bool false) → IsDirectValue s calls k u o → IsDirectValue s calls (suc k) (if_then_else t d u) o
  unfolding bool_of
  false_guard_direct d None runs direct = tt
  false_guard_direct d (Some v) runs direct =
      (answers_bool false, runs, guard_false (Runs s calls k) (value (plain_represented (bool_literal false))) d u (answers_value v.what) refl direct)

  -- a left side that does not decide
  pub right_direct : (c : Connective) (b : Option Bool) (o : Option Placed) → Runs s calls k t (answers_bool (neutral c)) → IsDirectBool s calls k u b → IsValueOf b o → IsDirectValue s calls (suc k) (joined_terms c t u) o
  unfolding bool_of
  right_direct c b None runs direct is = tt
  right_direct c None (Some v) runs direct is = absurd is
  right_direct c (Some b) (Some v) runs direct is =
      side_runs s calls k c t u (answers_bool (neutral c)) (answers_value v.what) runs
      (leaves_right (Runs s calls k) c (value (plain_represented (bool_literal (neutral c)))) u (answers_bool b) (answers_value v.what) refl direct
      (ap answers_value is ∙ literal_joined (beside_neutral c) b))

  -- one that decides
  pub left_direct : (c : Connective) (o : Option Placed) → Runs s calls k t (answers_bool (deciding c)) → IsValueOf (Some (deciding c)) o → IsDirectValue s calls (suc k) (joined_terms c t u) o
  unfolding bool_of
  left_direct c None runs is = tt
  left_direct c (Some v) runs is =
      side_runs s calls k c t u (answers_bool (deciding c)) (answers_value v.what) runs
      (subst (AfterLeftSide (Runs s calls k) c (answers_bool (deciding c)) u) (sym (ap answers_value is))
      (decides (Runs s calls k) c (value (plain_represented (bool_literal (deciding c)))) u refl))

-- what was made, if it was
pub made_of : (m : Result Placed AllocError) (o : Option Placed) (P : Placed → Type 0) → IfOk m P → IfSome o (λ v. m ≡ Ok v) → IfSome o P
made_of m None P made is = tt
made_of m (Some v) P made is = subst (λ x. IfOk x P) is made

-- an operator on two operands that have values
pub operands_direct : (s : Setting) (calls : StoredCalls) (j : ℕ) (op : BinaryOperator) (t u : Term) (v w : Represented) (o : Option Placed) →
    Runs s calls j t (answers_value v) → Runs s calls j u (answers_value w) →
    IfSome o (λ a. answers_value a.what ≡ binary_answer s op v w) → IsDirectValue s calls (suc j) (binary op t u) o
unfolding binary_beside binary_of_parts
operands_direct s calls j op t u v w None left right found = tt
operands_direct s calls j op t u v w (Some a) left right found = (
  answers_value v,
  left,
  (
    answers_value w,
    right,
    as_stored (Runs s calls j) s.resolution (beside_residual s.store op (value v) (answers_value w)) (binary_answer s op v w) (answers_value a.what)
        (none_resolved s.resolution (beside_residual s.store op (value v) (answers_value w)) (operator_value s op v w a.what found)) found,
  ),
)

-- an extended `has` on what has a value
pub path_direct : (s : Setting) (calls : StoredCalls) (j : ℕ) (t : Term) (v : Represented) (k : Text) (ks : List Text) (o : Option Placed) →
    Runs s calls j t (answers_value v) →
    IfSome o (λ a. answers_value a.what ≡ on_part (λ w. path_answer s.store w k ks) (λ q. extended_has q k ks) (answers_value v)) →
    IsDirectValue s calls (suc j) (extended_has t k ks) o
unfolding on_part
path_direct s calls j t v k ks None runs found = tt
path_direct s calls j t v k ks (Some a) runs found = (
  answers_value v,
  runs,
  path_as_stored (Runs s calls j) s.store s.resolution (value v) k ks (answers_value a.what)
      (none_resolved s.resolution (path_residual s.store v k ks) (path_value s.store ks v k a.what found)) found,
)

module _ {X : Type 0} {F : X → Type 0} {g : _} (e : Evaluation X F g) (h : ℕ) (all : Terms) where
  pub none_so_far : (vs : List Placed) → vs ≡ [] → AreSoFar e h all all vs
  none_so_far vs none r k speaks low =
      subst (λ l. SoFar (Runs (evaluation_setting r e) (calls_in e) k) all all (all_values (whats l))) (sym none) (so_far_none (Runs (evaluation_setting r e) (calls_in e) k) all)

  pub more_so_far : (rest more : Terms) (t : Term) (vs : List Placed) (v : Placed) (ws : List Placed) → AreSoFar e h all rest vs → rest ≡ one_term t more →
      ((r : RequestPart) (k : ℕ) → Speaks r e → h ≤ k → Runs (evaluation_setting r e) (calls_in e) k t (answers_value v.what)) → ws ≡ vs ++ v ∷ [] → AreSoFar e h all more ws
  more_so_far rest more t vs v ws so_far next direct is r k speaks low =
      let May = Runs (evaluation_setting r e) (calls_in e) k in
      subst (SoFar May all more) (value_added vs v (all_values (whats vs)) refl ∙ ap (λ l. all_values (whats l)) (sym is))
      (so_far_more May all rest more t (all_values (whats vs)) (value v.what) (so_far r k speaks low) next (direct r k speaks low))

  pub all_so_far : (rest : Terms) (vs : List Placed) → AreSoFar e h all rest vs → rest ≡ no_terms →
      (r : RequestPart) (k : ℕ) → Speaks r e → h ≤ k → Parts (Runs (evaluation_setting r e) (calls_in e) k) all (Ok (all_values (whats vs)))
  all_so_far rest vs so_far none r k speaks low = so_far_all (Runs (evaluation_setting r e) (calls_in e) k) all rest (all_values (whats vs)) (so_far r k speaks low) none

-- a set of what has values
pub set_direct : (s : Setting) (calls : StoredCalls) (j : ℕ) (es : List Expr) (vs : Vec Placed Global) (o : Option Placed) → length vs.items ≡ length es →
    Parts (Runs s calls j) (terms_view es) (Ok (all_values (whats vs.items))) →
    IfSome o (λ v. v.what ≡ set_represented (canonical_set (whats vs.items))) → IsDirectValue s calls (suc j) (set_of (terms_view es)) o
set_direct s calls j es vs None many parts made = tt
set_direct s calls j es vs (Some v) many parts made =
    whole_answers s calls (Runs s calls j) wholes.Set es (answereds.Values vs) (all_values (whats vs.items)) (answers_value v.what) tt many refl parts (ap answers_value made)

views_of_parts : (es : List (RcStr Global × Expr)) → map view (parts_under es) ≡ views_under es
views_of_parts [] = refl
views_of_parts (e ∷ es) = ap (λ l. view e.1 ∷ l) (views_of_parts es)

-- a record of what has values
pub record_direct : (s : Setting) (calls : StoredCalls) (j : ℕ) (es : List (RcStr Global × Expr)) (ks : Vec (RcStr Global) Global) (vs : Vec Placed Global) (o : Option Placed) →
    texts_of ks.items ≡ names_under es → length ks.items ≡ length vs.items → length vs.items ≡ length (parts_under es) → IsStrictlySortedBy key_order ks.items →
    Parts (Runs s calls j) (terms_view (parts_under es)) (Ok (all_values (whats vs.items))) →
    IfSome o (λ v. v.what ≡ record_represented (represented_fields_of (each_under (texts_of ks.items) (whats vs.items)))) →
    IsDirectValue s calls (suc j) (record_of (fields_view es)) o
record_direct s calls j es ks vs None names keyed many sorted parts made = tt
record_direct s calls j es ks vs (Some v) names keyed many sorted parts made =
    subst (λ fs. Runs s calls (suc j) (record_of fs) (answers_value v.what)) (fields_of_all ks.items (parts_under es) es names (views_of_parts es))
    (whole_answers s calls (Runs s calls j) (wholes.Record ks) (parts_under es) (answereds.Values vs) (all_values (whats vs.items)) (answers_value v.what)
    (keyed ∙ many, sorted) many refl parts (ap answers_value made))
