-- Rows by effect and report, as tests on lists: whether one of them has an id that passes a test.
use Rattle.std.specs.Prelude.{◌≡◌, ◌⊎◌, Bool, true, false, cond, ◌&&◌, ◌||◌, List, [], ◌∷◌, ◌++◌}
use Rattle.std.proofs.Common.{refl, sym, ap, ◌∙◌, inl, inr}
use Rattle.std.proofs.lemmas.Bool.{or_cases, or_left, or_right}
use Rattle.std.proofs.Math.Bool.{and-true, or_assoc}
use Rattle.cedar_model.specs.Terms.{Text}
use Rattle.cedar_model.specs.Outcomes.{text_eq, has_text}
use Rattle.cedar_model.specs.Policies.{Effect, Judged, is_satisfied, some_satisfied, satisfied_ids}
use Rattle.cedar_model.specs.Reordering.{IsReordering, nothing, keeping, swapping, chaining}
use Rattle.cedar_model.specs.Responses.{Reported, reported_true, reported_false, reported_residual, Row}
use Rattle.cedar_model.specs.Chains.{is_true, is_residual, has_effect, rows_of}
use Rattle.cedar_model.specs.Reports.{some_row, ids}
use Rattle.cedar_model.specs.lemmas.Sets.{or_swap}

-- ---- bools

pub or_map : (a b c d : Bool) → (a ≡ true → c ≡ true) → (b ≡ true → d ≡ true) → (a || b) ≡ true → (c || d) ≡ true
or_map a b true d f g h = refl
or_map true b false d f g h = absurd (let e = f refl in cc)
or_map false b false d f g h = g h

-- ---- rows

-- any id
abbrev pub any : Text → Bool
any t = true

unfoldable pub hits : (Text → Bool) → List Row → Bool
hits f [] = false
hits f (r ∷ rs) = f r.id || hits f rs

pub some_row_hits : (rows : List Row) → some_row rows ≡ hits any rows
unfolding some_row hits
some_row_hits [] = refl
some_row_hits (r ∷ rs) = refl

pub has_text_hits : (t : Text) (rows : List Row) → has_text t (ids rows) ≡ hits (text_eq t) rows
unfolding has_text hits
has_text_hits t [] = refl
has_text_hits t (r ∷ rs) = ap (λ b. text_eq t r.id || b) (has_text_hits t rs)

pub hits_append : (f : Text → Bool) (xs ys : List Row) → hits f (xs ++ ys) ≡ (hits f xs || hits f ys)
unfolding hits
hits_append f [] ys = refl
hits_append f (r ∷ rs) ys =
    ap (λ b. f r.id || b) (hits_append f rs ys) ∙ sym (or_assoc (f r.id) (hits f rs) (hits f ys))

pub hits_any : (f : Text → Bool) (rows : List Row) → hits f rows ≡ true → hits any rows ≡ true
unfolding hits
hits_any f [] h = absurd (cc)
hits_any f (r ∷ rs) h = refl

-- a row of the effect, reported so, whose id passes the test
unfoldable pub hit : (Text → Bool) → Effect → (Reported → Bool) → List Row → Bool
hit f e such [] = false
hit f e such (r ∷ rs) = ((has_effect e r.effect && such r.reported) && f r.id) || hit f e such rs

pub hits_rows : (f : Text → Bool) (e : Effect) (such : Reported → Bool) (rows : List Row)
    → hits f (rows_of e such rows) ≡ hit f e such rows
unfolding hits hit rows_of
hits_rows f e such [] = refl
hits_rows f e such (r ∷ rs) =
    by (has_effect e r.effect) (such r.reported) ∙ ap
    (λ b. ((has_effect e r.effect && such r.reported) && f r.id) || b) (hits_rows f e such rs)
  where
    by : (a b : Bool) → hits f (cond a (cond b (r ∷ rows_of e such rs) (rows_of e such rs)) (rows_of e such rs))
        ≡ (((a && b) && f r.id) || hits f (rows_of e such rs))
    by true true = refl
    by true false = refl
    by false true = refl
    by false false = refl

pub hit_any : (f : Text → Bool) (e : Effect) (such : Reported → Bool) (rows : List Row) → hit f e such rows ≡ true
    → hit any e such rows ≡ true
hit_any f e such rows h =
    sym (hits_rows any e such rows) ∙ hits_any f (rows_of e such rows) (hits_rows f e such rows ∙ h)

pub hit_reordered : (f : Text → Bool) (e : Effect) (such : Reported → Bool) {xs ys : List Row}
    → IsReordering Row xs ys → hit f e such xs ≡ hit f e such ys
unfolding hit
hit_reordered f e such nothing = refl
hit_reordered f e such (keeping r h) =
    ap (λ b. ((has_effect e r.effect && such r.reported) && f r.id) || b) (hit_reordered f e such h)
hit_reordered f e such (swapping {xs} r q) =
    or_swap ((has_effect e r.effect && such r.reported) && f r.id)
    ((has_effect e q.effect && such q.reported) && f q.id) (hit f e such xs)
hit_reordered f e such (chaining h k) = hit_reordered f e such h ∙ hit_reordered f e such k

-- true or residual
unfoldable pub is_open : Reported → Bool
is_open reported_true = true
is_open (reported_false e) = false
is_open (reported_residual t) = true

open_is : (o : Reported) (a b : Bool) → ((a && is_open o) && b) ≡ true
    → (((a && is_true o) && b) ≡ true) ⊎ (((a && is_residual o) && b) ≡ true)
unfolding is_open is_true is_residual
open_is reported_true a b h = inl h
open_is (reported_false e) a b h = inl h
open_is (reported_residual t) a b h = inr h

pub hit_open : (f : Text → Bool) (e : Effect) (rows : List Row) → hit f e is_open rows ≡ true
    → (hit f e is_true rows ≡ true) ⊎ (hit f e is_residual rows ≡ true)
unfolding hit
hit_open f e [] h = inl h
hit_open f e (r ∷ rs) h =
    first (hit_open f e rs) (or_cases ((has_effect e r.effect && is_open r.reported) && f r.id) (hit f e is_open rs) h)
  where
    here : (((has_effect e r.effect && is_true r.reported) && f r.id) ≡ true)
        ⊎ (((has_effect e r.effect && is_residual r.reported) && f r.id) ≡ true)
        → (hit f e is_true (r ∷ rs) ≡ true) ⊎ (hit f e is_residual (r ∷ rs) ≡ true)
    here (inl k) = inl (or_left _ (hit f e is_true rs) k)
    here (inr k) = inr (or_left _ (hit f e is_residual rs) k)

    later : (hit f e is_true rs ≡ true) ⊎ (hit f e is_residual rs ≡ true)
        → (hit f e is_true (r ∷ rs) ≡ true) ⊎ (hit f e is_residual (r ∷ rs) ≡ true)
    later (inl k) = inl (or_right ((has_effect e r.effect && is_true r.reported) && f r.id) _ k)
    later (inr k) = inr (or_right ((has_effect e r.effect && is_residual r.reported) && f r.id) _ k)

    first : (hit f e is_open rs ≡ true → (hit f e is_true rs ≡ true) ⊎ (hit f e is_residual rs ≡ true))
        → (((has_effect e r.effect && is_open r.reported) && f r.id) ≡ true) ⊎ (hit f e is_open rs ≡ true)
        → (hit f e is_true (r ∷ rs) ≡ true) ⊎ (hit f e is_residual (r ∷ rs) ≡ true)
    first ih (inl k) = here (open_is r.reported (has_effect e r.effect) (f r.id) k)
    first ih (inr k) = later (ih k)

-- ---- judged policies

-- a satisfied policy of the effect, whose id passes the test
unfoldable pub meets : (Text → Bool) → Effect → List Judged → Bool
meets f e [] = false
meets f e (j ∷ js) = (is_satisfied e j && f j.id) || meets f e js

pub some_satisfied_meets : (e : Effect) (js : List Judged) → some_satisfied e js ≡ meets any e js
unfolding some_satisfied meets
some_satisfied_meets e [] = refl
some_satisfied_meets e (j ∷ js) = λ i. (sym (and-true (is_satisfied e j)) i) || some_satisfied_meets e js i

pub has_text_meets : (t : Text) (e : Effect) (js : List Judged)
    → has_text t (satisfied_ids e js) ≡ meets (text_eq t) e js
unfolding has_text satisfied_ids meets
has_text_meets t e [] = refl
has_text_meets t e (j ∷ js) =
    by (is_satisfied e j) ∙ ap (λ b. (is_satisfied e j && text_eq t j.id) || b) (has_text_meets t e js)
  where
    by : (b : Bool) → has_text t (cond b (j.id ∷ satisfied_ids e js) (satisfied_ids e js))
        ≡ ((b && text_eq t j.id) || has_text t (satisfied_ids e js))
    by true = refl
    by false = refl

pub meets_any : (f : Text → Bool) (e : Effect) (js : List Judged) → meets f e js ≡ true → meets any e js ≡ true
unfolding meets
meets_any f e [] h = h
meets_any f e (j ∷ js) h =
    or_map (is_satisfied e j && f j.id) (meets f e js) (is_satisfied e j && true) (meets any e js)
    (by (is_satisfied e j) (f j.id)) (meets_any f e js) h
  where
    by : (a b : Bool) → (a && b) ≡ true → (a && true) ≡ true
    by true b k = refl
    by false b k = k

-- an id is among rows in a row where it is among either
pub has_append : (t : Text) (xs ys : List Row) → (has_text t (ids xs) ≡ true) ⊎ (has_text t (ids ys) ≡ true)
    → has_text t (ids (xs ++ ys)) ≡ true
has_append t xs ys (inl h) =
    has_text_hits t (xs ++ ys) ∙ hits_append (text_eq t) xs ys
    ∙ or_left _ _ (sym (has_text_hits t xs) ∙ h)
has_append t xs ys (inr h) =
    has_text_hits t (xs ++ ys) ∙ hits_append (text_eq t) xs ys
    ∙ or_right _ _ (sym (has_text_hits t ys) ∙ h)
