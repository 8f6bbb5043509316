-- What `get` finds.
use Rattle.std.proofs.Common.{◌≡◌, Bool, true, false, cond, List, [], ◌∷◌, ◌++◌, map, Option, Some, None, option_map, refl, sym, ap, ◌∙◌, subst}
use Rattle.std.specs.Prelude.{Result, Ok, Err, IfOk}
use Rattle.std.proofs.lemmas.List.{map-append}
use Rattle.std.proofs.lemmas.Slice.Eq.{bytes_eq-Decides}
use Rattle.std.specs.Map.{lookup}
use Rattle.std.specs.declared.alloc.Global.{Global}
use Rattle.std.specs.declared.rc.Rc.{Rc}
use Rattle.cedar_model.specs.Terms.{Text, bool_literal, literal}
use Rattle.cedar_model.specs.Outcomes.{text_eq}
use Rattle.cedar_model.specs.Policies as model
use Rattle.cedar_model.specs.Policies.{Effect, permit, forbid}
use Rattle.cedar_model.specs.Responses.{Reported, reported_true, reported_false, reported_residual, clause_of, carried}
use Rattle.cedar_model.specs.Chains.{is_true, is_false, is_residual}
use Rattle.cedar_model.specs.Reports as reports
use Rattle.cedar_names.specs.declared.names.Loc.{Loc}
use Rattle.cedar_expressions.specs.declared.expr.Expr.{Expr}
use Rattle.cedar_expressions.specs.View.{view, expr_loc}
use Rattle.cedar_layers.specs.declared.policies.policy.Annotations.{Annotations}
use Rattle.cedar_layers.specs.declared.policies.policy.Policy.{Policy}
use Rattle.cedar_layers.specs.declared.policies.policy.PolicyID.{PolicyID}
use Rattle.cedar_layers.specs.Policies.{policy_id_text, annotations_view, policy_parts}
use Rattle.cedar_authorizer.specs.declared.responses.partial_response.ErrorState.{ErrorState}
use Rattle.cedar_authorizer.specs.responses.Found.{as_found}
use Rattle.cedar_authorizer.specs.responses.Kept.{is_same_id}
use Rattle.cedar_authorizer.specs.responses.Rows.{TrueEntry, FalseEntry, ResidualEntry, Located, located, is_error}
use Rattle.cedar_authorizer.specs.responses.Rows.{located_true, located_false, located_residual}
use Rattle.cedar_authorizer.specs.responses.Rows.{true_rows, false_rows, residual_rows, rows_in, located_of}
use Rattle.cedar_authorizer.specs.responses.Readers.{made_view, made, IsCarriedOn, IsPolicyFound, found_policy, first_at}
use Rattle.cedar_authorizer.specs.responses.Readers.{in_order_of_get, located_at}
use Rattle.cedar_authorizer.proofs.Rows.{rows_of_located}

-- ---- the first row of an id

abbrev or_first : Option Located → Option Located → Option Located
or_first (Some l) o = Some l
or_first None o = o

first_append : (id : Text) (xs ys : List Located) → first_at id (xs ++ ys) ≡ or_first (first_at id xs) (first_at id ys)
unfolding first_at
first_append id [] ys = refl
first_append id (x ∷ xs) ys = by (text_eq id x.row.id) _ (first_at id xs) (first_append id xs ys)
  where
    by : (b : Bool) (o a : Option Located) → o ≡ or_first a (first_at id ys) → cond b (Some x) o ≡ or_first (cond b (Some x) a) (first_at id ys)
    by true o a h = refl
    by false o a h = h

or_found : (p : Policy) (a b : Option Located) → IsPolicyFound a (Some p) → IsPolicyFound (or_first a b) (Some p)
or_found p (Some l) b h = h
or_found p None b h = absurd h

or_absent : (o : Option Policy) (a b : Option Located) → IsPolicyFound a None → IsPolicyFound b o → IsPolicyFound (or_first a b) o
or_absent o (Some l) b h e = absurd h
or_absent o None b h e = e

found_by : (o : Option Policy) (a b : Option Located) → b ≡ a → IsPolicyFound a o → IsPolicyFound b o
found_by o a b e h = let P : Option Located → Type 0 = λ x. IsPolicyFound x o in subst P (sym e) h

pub found_before : (id : Text) (xs ys : List Located) (p : Policy) → IsPolicyFound (first_at id xs) (Some p) → IsPolicyFound (first_at id (xs ++ ys)) (Some p)
found_before id xs ys p h =
    found_by (Some p) _ _ (first_append id xs ys) (or_found p (first_at id xs) (first_at id ys) h)

pub found_after : (id : Text) (xs ys : List Located) (o : Option Policy) → IsPolicyFound (first_at id xs) None → IsPolicyFound (first_at id ys) o → IsPolicyFound (first_at id (xs ++ ys)) o
found_after id xs ys o h e =
    found_by o _ _ (first_append id xs ys) (or_absent o (first_at id xs) (first_at id ys) h e)

-- ---- look-ups

module _ {V : Type 0} (effect : Effect) (n : V → List (Text × Text)) (o : V → Reported) (l : V → Option Expr) where
  abbrev pub row_at : Text → V → Located
  row_at t v = located effect t (n v) (o v) (l v)

  abbrev pub rows_at : List (PolicyID × V) → List Located
  rows_at es = map (λ e. row_at (policy_id_text e.0) e.1) es

  pub first_lookup : (es : List (PolicyID × V)) (k : PolicyID) → first_at (policy_id_text k) (rows_at es) ≡ option_map (row_at (policy_id_text k)) (lookup (is_same_id k) es)
  unfolding first_at
  first_lookup [] k = refl
  first_lookup (e ∷ es) k = by (text_eq (policy_id_text k) (policy_id_text e.0)) refl _ (lookup (is_same_id k) es) (first_lookup es k)
    where
      by : (b : Bool) → text_eq (policy_id_text k) (policy_id_text e.0) ≡ b → (a : Option Located) (c : Option V) → a ≡ option_map (row_at (policy_id_text k)) c
          → cond b (Some (row_at (policy_id_text e.0) e.1)) a ≡ option_map (row_at (policy_id_text k)) (cond b (Some e.1) c)
      by true h a c g =
          ap (λ t. Some (row_at t e.1)) (sym ((bytes_eq-Decides (policy_id_text k) (policy_id_text e.0)).0 h))
      by false h a c g = g

  pub looked_up : (es : List (PolicyID × V)) (k : PolicyID) (v : V) (p : Policy) → Some v ≡ lookup (is_same_id k) es → IsCarriedOn (row_at (policy_id_text k) v) p → IsPolicyFound (first_at (policy_id_text k) (rows_at es)) (Some p)
  looked_up es k v p h made =
      found_by (Some p) (Some (row_at (policy_id_text k) v)) _ (first_lookup es k ∙ sym (ap (option_map (row_at (policy_id_text k))) h)) made

  pub not_there : (es : List (PolicyID × V)) (k : PolicyID) → None ≡ lookup (is_same_id k) es → IsPolicyFound (first_at (policy_id_text k) (rows_at es)) None
  not_there es k h =
      found_by None None _ (first_lookup es k ∙ sym (ap (option_map (row_at (policy_id_text k))) h)) tt

-- ---- the model's function

carried_first : (id : Text) (ls : List Located) → reports.policy_with_id id (rows_in ls) ≡ option_map (λ l. carried l.row) (first_at id ls)
unfolding reports.policy_with_id first_at
carried_first id [] = refl
carried_first id (l ∷ ls) = by (text_eq id l.row.id) _ (first_at id ls) (carried_first id ls)
  where
    by : (b : Bool) (o : Option model.Policy) (a : Option Located) → o ≡ option_map (λ l. carried l.row) a → cond b (Some (carried l.row)) o ≡ option_map (λ l. carried l.row) (cond b (Some l) a)
    by true o a h = refl
    by false o a h = h

rows_in_append : (xs ys : List Located) → rows_in (xs ++ ys) ≡ rows_in xs ++ rows_in ys
rows_in_append xs ys = map-append (λ (l : Located). l.row) xs ys

order_rows : (e : Effect) (ls : List Located) → reports.in_order_of_get e (rows_in ls) ≡ rows_in (in_order_of_get e ls)
order_rows e ls =
    (λ i. rows_of_located e is_residual ls i ++ (rows_of_located e is_true ls i ++ rows_of_located e is_false ls i))
    ∙ sym (rows_in_append (located_of e is_residual ls) _
    ∙ ap (λ rs. rows_in (located_of e is_residual ls) ++ rs) (rows_in_append (located_of e is_true ls) _))

get_located : (id : Text) (ls : List Located) → reports.get id (rows_in ls) ≡ option_map (λ l. carried l.row) (located_at id ls)
get_located id ls =
    ap (reports.policy_with_id id) ((λ i. order_rows permit ls i ++ order_rows forbid ls i) ∙ sym (rows_in_append (in_order_of_get permit ls) _))
    ∙ carried_first id (in_order_of_get permit ls ++ in_order_of_get forbid ls)

found_decides : (o : Option Policy) (a : Option Located) → IsPolicyFound a o → found_policy o ≡ option_map (λ l. carried l.row) a
found_decides (Some p) (Some l) h = ap (λ (x : model.Policy × Option Loc). Some x.0) h.policy
found_decides (Some p) None h = absurd h
found_decides None (Some l) h = absurd h
found_decides None None h = refl

pub got_policy : (o : Option Policy) (id : Text) (ls : List Located) → IsPolicyFound (located_at id ls) o → found_policy o ≡ reports.get id (rows_in ls)
got_policy o id ls h = found_decides o (located_at id ls) h ∙ sym (get_located id ls)

-- ---- what is made, as what is found

pub if_found : {A E : Type 0} (r : Result A E) (s : Result (Option A) E) (P : A → Type 0) (Q : Option A → Type 0) → s ≡ as_found r → IfOk r P → ((x : A) → P x → Q (Some x)) → IfOk s Q
if_found {A = A} {E = E} r s P Q is h step = subst (λ y. IfOk y Q) (sym is) (on r h)
  where
    on : (r : Result A E) → IfOk r P → IfOk (as_found r) Q
    on (Ok x) h = step x h
    on (Err e) h = tt

-- what is made, with what it says and its clause
pub made_whole : {A E : Type 0} (r : Result A E) (P Q R : A → Type 0) → IfOk r P → IfOk r Q → ((x : A) → P x → Q x → R x) → IfOk r R
made_whole (Ok x) P Q R h g step = step x h g
made_whole (Err e) P Q R h g step = tt

-- ---- what is carried on

module _ (effect : Effect) where
  pub residual_carried : (e : ResidualEntry) (p : Policy)
      → made_view p ≡ made effect (policy_id_text e.0) (annotations_view e.1.1.value) (view e.1.0.value) (expr_loc e.1.0.value)
      → (policy_parts p).when ≡ e.1.0.value → IsCarriedOn (located_residual effect e) p
  unfolding clause_of
  residual_carried e p h g = record { policy = h; clause = g }

  pub true_carried : (e : TrueEntry) (p : Policy)
      → made_view p ≡ made effect (policy_id_text e.0) (annotations_view e.1.value) (literal (bool_literal true)) None
      → expr_loc (policy_parts p).when ≡ None → IsCarriedOn (located_true effect e) p
  unfolding clause_of
  true_carried e p h g = record { policy = h; clause = g }

  pub false_carried : (e : FalseEntry) (p : Policy)
      → made_view p ≡ made effect (policy_id_text e.0) (annotations_view e.1.1.value) (literal (bool_literal false)) None
      → expr_loc (policy_parts p).when ≡ None → IsCarriedOn (located_false effect e) p
  unfolding clause_of
  false_carried e p h g = record { policy = h; clause = g }

-- ---- look-ups in the three kinds of map

module _ (effect : Effect) (k : PolicyID) where
  pub residual_there : (es : List ResidualEntry) (v : Rc Expr Global × Rc Annotations Global) (p : Policy) → Some v ≡ lookup (is_same_id k) es
      → IsCarriedOn (located_residual effect (k, v)) p → IsPolicyFound (first_at (policy_id_text k) (residual_rows effect es)) (Some p)
  residual_there es v p h made =
      looked_up effect (λ w. annotations_view w.1.value) (λ w. reported_residual (view w.0.value)) (λ w. Some w.0.value) es k v p h made

  pub residual_absent : (es : List ResidualEntry) → None ≡ lookup (is_same_id k) es → IsPolicyFound (first_at (policy_id_text k) (residual_rows effect es)) None
  residual_absent es h =
      not_there effect (λ w. annotations_view w.1.value) (λ w. reported_residual (view w.0.value)) (λ w. Some w.0.value) es k h

  pub true_there : (es : List TrueEntry) (v : Rc Annotations Global) (p : Policy) → Some v ≡ lookup (is_same_id k) es
      → IsCarriedOn (located_true effect (k, v)) p → IsPolicyFound (first_at (policy_id_text k) (true_rows effect es)) (Some p)
  true_there es v p h made =
      looked_up effect (λ w. annotations_view w.value) (λ w. reported_true) (λ w. None) es k v p h made

  pub true_absent : (es : List TrueEntry) → None ≡ lookup (is_same_id k) es → IsPolicyFound (first_at (policy_id_text k) (true_rows effect es)) None
  true_absent es h = not_there effect (λ w. annotations_view w.value) (λ w. reported_true) (λ w. None) es k h

  pub false_there : (es : List FalseEntry) (v : ErrorState × Rc Annotations Global) (p : Policy) → Some v ≡ lookup (is_same_id k) es
      → IsCarriedOn (located_false effect (k, v)) p → IsPolicyFound (first_at (policy_id_text k) (false_rows effect es)) (Some p)
  false_there es v p h made =
      looked_up effect (λ w. annotations_view w.1.value) (λ w. reported_false (is_error w.0)) (λ w. None) es k v p h made

  pub false_absent : (es : List FalseEntry) → None ≡ lookup (is_same_id k) es → IsPolicyFound (first_at (policy_id_text k) (false_rows effect es)) None
  false_absent es h =
      not_there effect (λ w. annotations_view w.1.value) (λ w. reported_false (is_error w.0)) (λ w. None) es k h
