-- A step keeps what stands: the rows that are carried on are the earlier rows in another order, and later rows follow
-- them.
use Rattle.std.specs.Prelude.{ℕ, List, [], ◌∷◌, ◌++◌}
use Rattle.std.proofs.Common.{◌∙◌}
use Rattle.cedar_model.specs.Terms.{Text}
use Rattle.cedar_model.specs.World.{World, Functions}
use Rattle.cedar_model.specs.Failures.{Failure}
use Rattle.cedar_model.specs.Settings.{Setting}
use Rattle.cedar_model.specs.Rules
use Rattle.cedar_model.specs.Agreement.{IsCompletion, AgreesWithFunctions, AnswerFaithfully}
use Rattle.cedar_model.specs.Policies.{Effect, permit, forbid, Policy, ErrorHandling}
use Rattle.cedar_model.specs.Reordering.{IsReordering, nothing, keeping, swapping, chaining}
use Rattle.cedar_model.specs.Responses
use Rattle.cedar_model.proofs.Recorded
use Rattle.cedar_model.specs.Chains
use Rattle.cedar_model.proofs.Carried.{AllFollow, run_follows}

abbrev Row : Type 0
Row = Responses.Row

-- ---- lists in another order

reorder_refl : (xs : List Row) → IsReordering Row xs xs
reorder_refl [] = nothing
reorder_refl (x ∷ xs) = keeping x (reorder_refl xs)

to_middle : (x : Row) (xs ys : List Row) → IsReordering Row (x ∷ (xs ++ ys)) (xs ++ (x ∷ ys))
to_middle x [] ys = reorder_refl (x ∷ ys)
to_middle x (z ∷ xs) ys = chaining (swapping x z) (keeping z (to_middle x xs ys))

before : (zs : List Row) {xs ys : List Row} → IsReordering Row xs ys → IsReordering Row (zs ++ xs) (zs ++ ys)
before [] r = r
before (z ∷ zs) r = keeping z (before zs r)

after : {xs ys : List Row} → (zs : List Row) → IsReordering Row xs ys → IsReordering Row (xs ++ zs) (ys ++ zs)
after zs nothing = reorder_refl zs
after zs (keeping x r) = keeping x (after zs r)
after zs (swapping x y) = swapping x y
after zs (chaining r q) = chaining (after zs r) (after zs q)

-- ---- the six maps hold the rows

abbrev sorted : List Row → List Row
sorted rows = Chains.rows_by permit rows ++ Chains.rows_by forbid rows

abbrev row : Text → List (Text × Text) → Effect → Responses.Reported → Row
row i n e o = record { id = i; effect = e; annotations = n; reported = o }

module _ (rs : List Row) where
  abbrev trues : Effect → List Row
  trues e = Chains.rows_of e Chains.is_true rs

  abbrev falses : Effect → List Row
  falses e = Chains.rows_of e Chains.is_false rs

  abbrev residuals : Effect → List Row
  residuals e = Chains.rows_of e Chains.is_residual rs

  sorted_more : (i : Text) (n : List (Text × Text)) (e : Effect) (o : Responses.Reported)
      → IsReordering Row (row i n e o ∷ sorted rs) (sorted (row i n e o ∷ rs))
  unfolding Chains.rows_of Chains.has_effect Chains.is_true Chains.is_false Chains.is_residual
  sorted_more i n permit Responses.reported_true = reorder_refl _
  sorted_more i n permit (Responses.reported_false b) =
      after (Chains.rows_by forbid rs) (to_middle (row i n permit (Responses.reported_false b)) (trues permit)
      (falses permit ++ residuals permit))
  sorted_more i n permit (Responses.reported_residual t) =
      after (Chains.rows_by forbid rs) (chaining (to_middle (row i n permit (Responses.reported_residual t))
      (trues permit) (falses permit ++ residuals permit))
      (before (trues permit) (to_middle (row i n permit (Responses.reported_residual t)) (falses permit)
      (residuals permit))))
  sorted_more i n forbid Responses.reported_true =
      to_middle (row i n forbid Responses.reported_true) (Chains.rows_by permit rs) (Chains.rows_by forbid rs)
  sorted_more i n forbid (Responses.reported_false b) =
      chaining (to_middle (row i n forbid (Responses.reported_false b)) (Chains.rows_by permit rs)
      (Chains.rows_by forbid rs)) (before (Chains.rows_by permit rs)
      (to_middle (row i n forbid (Responses.reported_false b)) (trues forbid) (falses forbid ++ residuals forbid)))
  sorted_more i n forbid (Responses.reported_residual t) =
      chaining (to_middle (row i n forbid (Responses.reported_residual t)) (Chains.rows_by permit rs)
      (Chains.rows_by forbid rs)) (before (Chains.rows_by permit rs)
      (chaining (to_middle (row i n forbid (Responses.reported_residual t)) (trues forbid)
      (falses forbid ++ residuals forbid)) (before (trues forbid)
      (to_middle (row i n forbid (Responses.reported_residual t)) (falses forbid) (residuals forbid)))))

pub sorted_is : (rows : List Row) → IsReordering Row rows (sorted rows)
unfolding Chains.rows_of
sorted_is [] = nothing
sorted_is (r ∷ rs) = chaining (keeping r (sorted_is rs)) (sorted_more rs r.id r.annotations r.effect r.reported)

module _ (mode : ErrorHandling) (ans : Functions) (calls : Rules.StoredCalls) (agree : AgreesWithFunctions ans calls)
    (w : World) (s : Setting) (done : IsCompletion ans w s) (faithful : AnswerFaithfully s.extensions ans calls)
    (levels : ℕ) where
  abbrev Follow : List Row → List Row → Type 0
  Follow = AllFollow mode ans calls agree w s done faithful levels

  follow_order : {xs zs : List Row} → IsReordering Row xs zs → (ys : List Row) → Follow zs ys → (us : List Row)
      × IsReordering Row us ys × Follow xs us
  follow_order nothing [] h = ([], nothing, tt)
  follow_order nothing (y ∷ ys) h = absurd h
  follow_order (keeping x r) [] h = absurd h
  follow_order (keeping x r) (y ∷ ys) h =
      let k = follow_order r ys h.1 in (y ∷ k.0, keeping y k.1, (h.0, k.2))
  follow_order (swapping x z) [] h = absurd h
  follow_order (swapping x z) (a ∷ []) h = absurd h.1
  follow_order (swapping x z) (a ∷ (b ∷ cs)) h = (b ∷ (a ∷ cs), swapping b a, (h.1.0, (h.0, h.1.1)))
  follow_order (chaining r q) ys h =
      let k = follow_order q ys h in
      let l = follow_order r k.0 k.2 in
      (l.0, chaining l.1 k.1, l.2)

  compose : (ps : List Policy) (rs us : List Row) → Responses.AreConditions ps
      → Responses.StandInOrder mode s.extensions ans w ps rs → Follow rs us
      → Responses.StandInOrder mode s.extensions ans w ps us
  compose [] [] [] c h g = tt
  compose [] [] (u ∷ us) c h g = absurd g
  compose [] (r ∷ rs) us c h g = absurd h
  compose (p ∷ ps) [] us c h g = absurd h
  compose (p ∷ ps) (r ∷ rs) [] c h g = absurd g
  compose (p ∷ ps) (r ∷ rs) (u ∷ us) c h g =
      (g.0.0 ∙ h.0, g.0.1 ∙ h.1, g.0.2 p h.1 c.0 h.2, compose ps rs us c.1 h.3 g.1)

  pub step_stands : (ps : List Policy) (old rows : List Row) (errors : List (Text × Failure))
      → Responses.AreConditions ps → Responses.Stand mode s.extensions ans w ps old → Recorded.AreRecordable errors
      → Responses.RunOf mode s calls levels (Chains.all_residuals old) rows errors
      → Responses.Stand mode s.extensions ans w ps rows
  step_stands ps old rows errors c h r g =
      let f = run_follows mode ans calls agree w s done faithful levels (sorted old) rows errors r g in
      let k = follow_order (chaining h.1 (sorted_is old)) rows f in
      (k.0, k.1, compose ps h.0 k.0 c h.2 k.2)
