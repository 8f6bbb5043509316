-- The rows of a response, map by map.
use Rattle.std.proofs.Common.{◌≡◌, Bool, true, false, cond, not, ◌&&◌, IsTrue, ◌↔◌, List, [], ◌∷◌, ◌++◌, map, length, Contains, refl, sym, ap, ◌∙◌, arith}
use Rattle.std.proofs.lemmas.List.{append-nil, map-append}
use Rattle.std.proofs.lemmas.List.Elements.{All-append, All-contains_itself, All-nil, All-weaker, Contains-append_left, Contains-append_right}
use Rattle.cedar_model.specs.Policies.{Effect, permit, forbid}
use Rattle.cedar_model.specs.Responses.{Reported, Row}
use Rattle.cedar_model.specs.Chains.{is_true, is_false, is_residual, has_effect, rows_of}
use Rattle.cedar_model.specs.Reports.{some_row, trues, falses, residuals}
use Rattle.cedar_authorizer.specs.declared.responses.partial_response.PartialResponse.{PartialResponse}
use Rattle.cedar_authorizer.specs.responses.Rows.{Located, TrueEntry, FalseEntry, ResidualEntry, located_true}
use Rattle.cedar_authorizer.specs.responses.Rows.{located_false, located_residual, true_rows, false_rows, residual_rows}
use Rattle.cedar_authorizer.specs.responses.Rows.{six_rows, rows_in, located_view, rows_view, located_of}
use Rattle.cedar_authorizer.specs.responses.Readers.{AreAmong}

-- ---- rows of an effect that are reported so

module _ (effect : Effect) (such : Reported → Bool) where
  abbrev passes : Located → Bool
  passes l = has_effect effect l.row.effect && such l.row.reported

  pub of_append : (xs ys : List Located) → located_of effect such (xs ++ ys) ≡ located_of effect such xs ++ located_of effect such ys
  unfolding located_of
  of_append [] ys = refl
  of_append (l ∷ xs) ys = by (passes l) _ (located_of effect such xs) (of_append xs ys)
    where
      by : (b : Bool) (zs us : List Located) → zs ≡ us ++ located_of effect such ys
          → cond b (l ∷ zs) zs ≡ cond b (l ∷ us) us ++ located_of effect such ys
      by true zs us h = ap (λ ls. l ∷ ls) h
      by false zs us h = h

  of_kept : {A : Type 0} (f : A → Located) → ((x : A) → passes (f x) ≡ true) → (es : List A) → located_of effect such (map f es) ≡ map f es
  unfolding located_of
  of_kept f h [] = refl
  of_kept f h (e ∷ es) = rw (h e) (ap (λ ls. f e ∷ ls) (of_kept f h es))

  pub of_dropped : {A : Type 0} (f : A → Located) → ((x : A) → passes (f x) ≡ false) → (es : List A) → located_of effect such (map f es) ≡ []
  unfolding located_of
  of_dropped f h [] = refl
  of_dropped f h (e ∷ es) = rw (h e) (of_dropped f h es)

  -- of located rows and of rows
  pub rows_of_located : (ls : List Located) → rows_of effect such (rows_in ls) ≡ rows_in (located_of effect such ls)
  unfolding rows_of located_of
  rows_of_located [] = refl
  rows_of_located (l ∷ ls) = by (has_effect effect l.row.effect) (such l.row.reported) _ (located_of effect such ls) (rows_of_located ls)
    where
      by : (a b : Bool) (rs : List Row) (ms : List Located) → rs ≡ rows_in ms
          → cond a (cond b (l.row ∷ rs) rs) rs ≡ rows_in (cond (a && b) (l ∷ ms) ms)
      by true true rs ms h = ap (λ rs. l.row ∷ rs) h
      by true false rs ms h = h
      by false b rs ms h = h

  pub of_six : (tp : List TrueEntry) (fp : List FalseEntry) (rp : List ResidualEntry) (tf : List TrueEntry) (ff : List FalseEntry) (rf : List ResidualEntry)
      → located_of effect such (six_rows tp fp rp tf ff rf)
      ≡ located_of effect such (true_rows permit tp) ++ (located_of effect such (false_rows permit fp) ++ (located_of effect such (residual_rows permit rp)
      ++ (located_of effect such (true_rows forbid tf) ++ (located_of effect such (false_rows forbid ff) ++ located_of effect such (residual_rows forbid rf)))))
  of_six tp fp rp tf ff rf =
      of_append (true_rows permit tp) _
      ∙ ap (λ ls. located_of effect such (true_rows permit tp) ++ ls) (of_append (false_rows permit fp) _
      ∙ ap (λ ls. located_of effect such (false_rows permit fp) ++ ls) (of_append (residual_rows permit rp) _
      ∙ ap (λ ls. located_of effect such (residual_rows permit rp) ++ ls) (of_append (true_rows forbid tf) _
      ∙ ap (λ ls. located_of effect such (true_rows forbid tf) ++ ls) (of_append (false_rows forbid ff) _))))

-- ---- the six maps

module _ (r : PartialResponse) where
  pub true_permits : located_of permit is_true (located_view r) ≡ true_rows permit r.satisfied_permits.entries
  unfolding located_view has_effect is_true is_false is_residual
  true_permits =
      of_six permit is_true _ _ _ _ _ _
      ∙ (λ i. of_kept permit is_true (located_true permit) (λ x. refl) r.satisfied_permits.entries i
      ++ (of_dropped permit is_true (located_false permit) (λ x. refl) r.false_permits.entries i
      ++ (of_dropped permit is_true (located_residual permit) (λ x. refl) r.residual_permits.entries i
      ++ (of_dropped permit is_true (located_true forbid) (λ x. refl) r.satisfied_forbids.entries i
      ++ (of_dropped permit is_true (located_false forbid) (λ x. refl) r.false_forbids.entries i
      ++ of_dropped permit is_true (located_residual forbid) (λ x. refl) r.residual_forbids.entries i)))))
      ∙ append-nil _

  pub false_permits : located_of permit is_false (located_view r) ≡ false_rows permit r.false_permits.entries
  unfolding located_view has_effect is_true is_false is_residual
  false_permits =
      of_six permit is_false _ _ _ _ _ _
      ∙ (λ i. of_dropped permit is_false (located_true permit) (λ x. refl) r.satisfied_permits.entries i
      ++ (of_kept permit is_false (located_false permit) (λ x. refl) r.false_permits.entries i
      ++ (of_dropped permit is_false (located_residual permit) (λ x. refl) r.residual_permits.entries i
      ++ (of_dropped permit is_false (located_true forbid) (λ x. refl) r.satisfied_forbids.entries i
      ++ (of_dropped permit is_false (located_false forbid) (λ x. refl) r.false_forbids.entries i
      ++ of_dropped permit is_false (located_residual forbid) (λ x. refl) r.residual_forbids.entries i)))))
      ∙ append-nil _

  pub residual_permits : located_of permit is_residual (located_view r) ≡ residual_rows permit r.residual_permits.entries
  unfolding located_view has_effect is_true is_false is_residual
  residual_permits =
      of_six permit is_residual _ _ _ _ _ _
      ∙ (λ i. of_dropped permit is_residual (located_true permit) (λ x. refl) r.satisfied_permits.entries i
      ++ (of_dropped permit is_residual (located_false permit) (λ x. refl) r.false_permits.entries i
      ++ (of_kept permit is_residual (located_residual permit) (λ x. refl) r.residual_permits.entries i
      ++ (of_dropped permit is_residual (located_true forbid) (λ x. refl) r.satisfied_forbids.entries i
      ++ (of_dropped permit is_residual (located_false forbid) (λ x. refl) r.false_forbids.entries i
      ++ of_dropped permit is_residual (located_residual forbid) (λ x. refl) r.residual_forbids.entries i)))))
      ∙ append-nil _

  pub true_forbids : located_of forbid is_true (located_view r) ≡ true_rows forbid r.satisfied_forbids.entries
  unfolding located_view has_effect is_true is_false is_residual
  true_forbids =
      of_six forbid is_true _ _ _ _ _ _
      ∙ (λ i. of_dropped forbid is_true (located_true permit) (λ x. refl) r.satisfied_permits.entries i
      ++ (of_dropped forbid is_true (located_false permit) (λ x. refl) r.false_permits.entries i
      ++ (of_dropped forbid is_true (located_residual permit) (λ x. refl) r.residual_permits.entries i
      ++ (of_kept forbid is_true (located_true forbid) (λ x. refl) r.satisfied_forbids.entries i
      ++ (of_dropped forbid is_true (located_false forbid) (λ x. refl) r.false_forbids.entries i
      ++ of_dropped forbid is_true (located_residual forbid) (λ x. refl) r.residual_forbids.entries i)))))
      ∙ append-nil _

  pub false_forbids : located_of forbid is_false (located_view r) ≡ false_rows forbid r.false_forbids.entries
  unfolding located_view has_effect is_true is_false is_residual
  false_forbids =
      of_six forbid is_false _ _ _ _ _ _
      ∙ (λ i. of_dropped forbid is_false (located_true permit) (λ x. refl) r.satisfied_permits.entries i
      ++ (of_dropped forbid is_false (located_false permit) (λ x. refl) r.false_permits.entries i
      ++ (of_dropped forbid is_false (located_residual permit) (λ x. refl) r.residual_permits.entries i
      ++ (of_dropped forbid is_false (located_true forbid) (λ x. refl) r.satisfied_forbids.entries i
      ++ (of_kept forbid is_false (located_false forbid) (λ x. refl) r.false_forbids.entries i
      ++ of_dropped forbid is_false (located_residual forbid) (λ x. refl) r.residual_forbids.entries i)))))
      ∙ append-nil _

  pub residual_forbids : located_of forbid is_residual (located_view r) ≡ residual_rows forbid r.residual_forbids.entries
  unfolding located_view has_effect is_true is_false is_residual
  residual_forbids =
      of_six forbid is_residual _ _ _ _ _ _
      ∙ (λ i. of_dropped forbid is_residual (located_true permit) (λ x. refl) r.satisfied_permits.entries i
      ++ (of_dropped forbid is_residual (located_false permit) (λ x. refl) r.false_permits.entries i
      ++ (of_dropped forbid is_residual (located_residual permit) (λ x. refl) r.residual_permits.entries i
      ++ (of_dropped forbid is_residual (located_true forbid) (λ x. refl) r.satisfied_forbids.entries i
      ++ (of_dropped forbid is_residual (located_false forbid) (λ x. refl) r.false_forbids.entries i
      ++ of_kept forbid is_residual (located_residual forbid) (λ x. refl) r.residual_forbids.entries i)))))

  pub trues_permit : trues permit (rows_view r) ≡ rows_in (true_rows permit r.satisfied_permits.entries)
  trues_permit = rows_of_located permit is_true (located_view r) ∙ ap rows_in true_permits

  pub falses_permit : falses permit (rows_view r) ≡ rows_in (false_rows permit r.false_permits.entries)
  falses_permit = rows_of_located permit is_false (located_view r) ∙ ap rows_in false_permits

  pub residuals_permit : residuals permit (rows_view r) ≡ rows_in (residual_rows permit r.residual_permits.entries)
  residuals_permit = rows_of_located permit is_residual (located_view r) ∙ ap rows_in residual_permits

  pub trues_forbid : trues forbid (rows_view r) ≡ rows_in (true_rows forbid r.satisfied_forbids.entries)
  trues_forbid = rows_of_located forbid is_true (located_view r) ∙ ap rows_in true_forbids

  pub falses_forbid : falses forbid (rows_view r) ≡ rows_in (false_rows forbid r.false_forbids.entries)
  falses_forbid = rows_of_located forbid is_false (located_view r) ∙ ap rows_in false_forbids

  pub residuals_forbid : residuals forbid (rows_view r) ≡ rows_in (residual_rows forbid r.residual_forbids.entries)
  residuals_forbid = rows_of_located forbid is_residual (located_view r) ∙ ap rows_in residual_forbids

some_here : {A : Type 0} (f : A → Located) (es : List A) (b : Bool) → (IsTrue b ↔ (length es ≡ 0)) → not b ≡ some_row (rows_in (map f es))
unfolding some_row
some_here f [] true h = refl
some_here f [] false h = let e : false ≡ true = h.1 refl in absurd (cc)
some_here f (x ∷ xs) true h = let e : length (x ∷ xs) ≡ 0 = h.0 refl in absurd (omega arith)
some_here f (x ∷ xs) false h = refl

-- whether a map has an entry
pub some_of : {A : Type 0} (f : A → Located) (es : List A) (b : Bool) → (IsTrue b ↔ (length es ≡ 0)) → (rows : List Row) → rows ≡ rows_in (map f es) → not b ≡ some_row rows
some_of f es b h rows e = some_here f es b h ∙ sym (ap some_row e)

-- ---- some of the six

-- the rows of six lists, list by list
rows_in_six : (tp : List TrueEntry) (fp : List FalseEntry) (rp : List ResidualEntry) (tf : List TrueEntry) (ff : List FalseEntry) (rf : List ResidualEntry)
    → rows_in (six_rows tp fp rp tf ff rf)
    ≡ rows_in (true_rows permit tp) ++ (rows_in (false_rows permit fp) ++ (rows_in (residual_rows permit rp)
    ++ (rows_in (true_rows forbid tf) ++ (rows_in (false_rows forbid ff) ++ rows_in (residual_rows forbid rf)))))
rows_in_six tp fp rp tf ff rf =
    map-append (λ (l : Located). l.row) (true_rows permit tp) _
    ∙ ap (λ rs. rows_in (true_rows permit tp) ++ rs) (map-append (λ (l : Located). l.row) (false_rows permit fp) _
    ∙ ap (λ rs. rows_in (false_rows permit fp) ++ rs) (map-append (λ (l : Located). l.row) (residual_rows permit rp) _
    ∙ ap (λ rs. rows_in (residual_rows permit rp) ++ rs) (map-append (λ (l : Located). l.row) (true_rows forbid tf) _
    ∙ ap (λ rs. rows_in (true_rows forbid tf) ++ rs) (map-append (λ (l : Located). l.row) (false_rows forbid ff) _))))

some_block : {A : Type 0} (f : A → Located) (b : Bool) (es : List A) (rows : List Row) → rows ≡ rows_in (map f es) → rows_in (map f (cond b es [])) ≡ cond b rows []
some_block f true es rows e = sym e
some_block f false es rows e = refl

pub chosen_rows : (r : PartialResponse) (a b c d e f : Bool)
    → rows_in (six_rows (cond a r.satisfied_permits.entries []) (cond b r.false_permits.entries []) (cond c r.residual_permits.entries [])
    (cond d r.satisfied_forbids.entries []) (cond e r.false_forbids.entries []) (cond f r.residual_forbids.entries []))
    ≡ cond a (trues permit (rows_view r)) [] ++ (cond b (falses permit (rows_view r)) [] ++ (cond c (residuals permit (rows_view r)) []
    ++ (cond d (trues forbid (rows_view r)) [] ++ (cond e (falses forbid (rows_view r)) [] ++ cond f (residuals forbid (rows_view r)) []))))
chosen_rows r a b c d e f =
    rows_in_six _ _ _ _ _ _
    ∙ (λ i. some_block (located_true permit) a r.satisfied_permits.entries _ (trues_permit r) i
    ++ (some_block (located_false permit) b r.false_permits.entries _ (falses_permit r) i
    ++ (some_block (located_residual permit) c r.residual_permits.entries _ (residuals_permit r) i
    ++ (some_block (located_true forbid) d r.satisfied_forbids.entries _ (trues_forbid r) i
    ++ (some_block (located_false forbid) e r.false_forbids.entries _ (falses_forbid r) i
    ++ some_block (located_residual forbid) f r.residual_forbids.entries _ (residuals_forbid r) i)))))

among_left : (ls ms : List Located) → AreAmong ls (ls ++ ms)
among_left ls ms =
    All-weaker (λ l. Contains ls l) (λ l. Contains (ls ++ ms) l) (λ l h. Contains-append_left ls ms l h) ls (All-contains_itself ls)

among_right : (ks ls ms : List Located) → AreAmong ks ms → AreAmong ks (ls ++ ms)
among_right ks ls ms h =
    All-weaker (λ l. Contains ms l) (λ l. Contains (ls ++ ms) l) (λ l g. Contains-append_right ls ms l g) ks h

among_block : {A : Type 0} (f : A → Located) (b : Bool) (es : List A) (ms : List Located) → AreAmong (map f es) ms → AreAmong (map f (cond b es [])) ms
among_block f true es ms h = h
among_block f false es ms h = All-nil (λ l. Contains ms l)

module _ (r : PartialResponse) (a b c d e f : Bool) where
  abbrev all : List Located
  all = located_view r

  abbrev together : List Located → List Located → Type 0
  together xs ys = AreAmong xs all → AreAmong ys all → AreAmong (xs ++ ys) all

  both_among : (xs ys : List Located) → together xs ys
  both_among xs ys h g = All-append (λ l. Contains all l) xs ys h g

  pub chosen_among : AreAmong (six_rows (cond a r.satisfied_permits.entries []) (cond b r.false_permits.entries []) (cond c r.residual_permits.entries [])
      (cond d r.satisfied_forbids.entries []) (cond e r.false_forbids.entries []) (cond f r.residual_forbids.entries [])) all
  unfolding located_view
  chosen_among =
      let tp = true_rows permit r.satisfied_permits.entries in
      let fp = false_rows permit r.false_permits.entries in
      let rp = residual_rows permit r.residual_permits.entries in
      let tf = true_rows forbid r.satisfied_forbids.entries in
      let ff = false_rows forbid r.false_forbids.entries in
      let rf = residual_rows forbid r.residual_forbids.entries in
      both_among _ _ (among_block (located_true permit) a r.satisfied_permits.entries all (among_left tp _))
      (both_among _ _ (among_block (located_false permit) b r.false_permits.entries all (among_right fp tp _ (among_left fp _)))
      (both_among _ _ (among_block (located_residual permit) c r.residual_permits.entries all (among_right rp tp _ (among_right rp fp _ (among_left rp _))))
      (both_among _ _ (among_block (located_true forbid) d r.satisfied_forbids.entries all (among_right tf tp _ (among_right tf fp _ (among_right tf rp _ (among_left tf _)))))
      (both_among _ _ (among_block (located_false forbid) e r.false_forbids.entries all (among_right ff tp _ (among_right ff fp _ (among_right ff rp _ (among_right ff tf _ (among_left ff rf))))))
      (among_block (located_residual forbid) f r.residual_forbids.entries all (among_right rf tp _ (among_right rf fp _ (among_right rf rp _ (among_right rf tf _ (among_right rf ff _ (All-contains_itself rf)))))))))))

-- ---- copies

pub same_rows : (r s : PartialResponse) → ((e : Effect) → true_rows e s.satisfied_permits.entries ≡ true_rows e r.satisfied_permits.entries)
    → ((e : Effect) → false_rows e s.false_permits.entries ≡ false_rows e r.false_permits.entries)
    → ((e : Effect) → residual_rows e s.residual_permits.entries ≡ residual_rows e r.residual_permits.entries)
    → ((e : Effect) → true_rows e s.satisfied_forbids.entries ≡ true_rows e r.satisfied_forbids.entries)
    → ((e : Effect) → false_rows e s.false_forbids.entries ≡ false_rows e r.false_forbids.entries)
    → ((e : Effect) → residual_rows e s.residual_forbids.entries ≡ residual_rows e r.residual_forbids.entries)
    → located_view s ≡ located_view r
unfolding located_view
same_rows r s a b c d f g = λ j. a permit j ++ (b permit j ++ (c permit j ++ (d forbid j ++ (f forbid j ++ g forbid j))))
