-- Progress: where the map names every unknown, the next request is known, and no policy leaves a residual.
use Rattle.std.specs.Prelude.{◌≡◌, ℕ, Bool, true, false, cond, List, [], ◌∷◌, ◌++◌, map, Option, Some, None}
use Rattle.std.specs.Prelude.{Ok, Err, is_some, codes}
use Rattle.std.proofs.Common.{refl, sym, ◌∙◌, subst}
use Rattle.std.proofs.lemmas.Bool.{and_from, and_parts}
use Rattle.cedar_model.specs.Terms.{Text, EntityName, ValueType, Term, literal, variable, slot, unknown, if_then_else}
use Rattle.cedar_model.specs.Terms.{both, either, unary, binary, call, get_attribute, has_attribute, extended_has}
use Rattle.cedar_model.specs.Terms.{like, is_of_type, set_of, record_of, Terms, no_terms, one_term, Fields, no_fields}
use Rattle.cedar_model.specs.Terms.{one_field}
use Rattle.cedar_model.specs.Values.{Represented, plain_represented, set_represented, record_represented}
use Rattle.cedar_model.specs.Values.{extension_represented, abstract_value, expression_of}
use Rattle.cedar_model.specs.Shapes.{is_restricted, are_restricted, are_restricted_at}
use Rattle.cedar_model.specs.Restricted.{IsSound, IsSoundContext}
use Rattle.cedar_model.specs.Outcomes.{entity_of, bool_of, text_eq}
use Rattle.cedar_model.specs.World.{Slots, Functions}
use Rattle.cedar_model.specs.Failures.{Failure, value, residual, Answer, answers, fails}
use Rattle.cedar_model.specs.Settings.{Entry, known_entry, unknown_entry, ContextPart, absent_context, known_context}
use Rattle.cedar_model.specs.Settings.{residual_context, Setting, Store}
use Rattle.cedar_model.specs.Rules.{StoredCalls}
use Rattle.cedar_model.specs.Agreement
use Rattle.cedar_model.specs.Policies.{permit, forbid, ErrorHandling}
use Rattle.cedar_model.specs.Reordering.{IsReordering, nothing, keeping, swapping, chaining}
use Rattle.cedar_model.specs.Responses
use Rattle.cedar_model.specs.Responses.{Reported, reported_true, reported_false, reported_residual, Row}
use Rattle.cedar_model.specs.Refusals
use Rattle.cedar_model.specs.Chains
use Rattle.cedar_model.specs.Chains.{Mapping, Response, is_residual, has_effect, rows_of}
use Rattle.cedar_model.specs.Reports
use Rattle.cedar_model.specs.Progress
use Rattle.cedar_model.proofs.Answering
use Rattle.cedar_model.proofs.RestrictedAnswers.{sound_restricted}
use Rattle.cedar_model.proofs.Unread.{IsNoResidual}
use Rattle.cedar_model.proofs.Chained.{sorted_is}
use Rattle.cedar_model.proofs.Completions.{concrete_parts}
use Rattle.cedar_model.proofs.Concrete.{concrete_is_defined, residual_same}
use Rattle.cedar_model.proofs.Stepping.{taken}
use Rattle.cedar_model.proofs.Configured.{configured_by}
use Rattle.cedar_model.proofs.Injections.{ok_inj, err_is_not_ok, false_is_not_true}

none_isn't_named : {A : Type 0} (o : Option A) → o ≡ None → is_some o ≡ true → ⊥
none_isn't_named None e h = cc
none_isn't_named (Some x) e h = cc

module _ (ans : Functions) (m : Mapping) where
  -- ---- entries

  entry_known : (name : Text) (e e' : Entry) → Progress.EntryIsNamed ans m name e
      → Refusals.concrete_entry name (m name) e ≡ Ok e' → Agreement.IsKnownEntry e'
  unfolding Refusals.concrete_entry Refusals.entry_by Refusals.entry_beside Refusals.typed_entry
  entry_known name (known_entry d) e' h k = by (m name) k
    where
      by_entity : (v : Represented) (o : Option EntityName) → Refusals.entry_by name v o (known_entry d) ≡ Ok e'
          → Agreement.IsKnownEntry e'
      by_entity v None j = absurd (err_is_not_ok j)
      by_entity v (Some c) j = absurd (err_is_not_ok j)

      by : (o : Option Represented) → Refusals.concrete_entry name o (known_entry d) ≡ Ok e' → Agreement.IsKnownEntry e'
      by None j = subst Agreement.IsKnownEntry (ok_inj j) tt
      by (Some v) j = by_entity v (entity_of (abstract_value v)) j
  entry_known name (unknown_entry t) e' h k = by (m name) refl k
    where
      typed : (v : Represented) (c : EntityName) (u : Option Text) → Refusals.typed_entry name v c u ≡ Ok e'
          → Agreement.IsKnownEntry e'
      typed v c None j = subst Agreement.IsKnownEntry (ok_inj j) tt
      typed v c (Some x) j = by_type (text_eq x c.type_name) j
        where
          by_type : (b : Bool) → cond b (Ok (known_entry c)) (Err (Refusals.type_is_other name x v)) ≡ Ok e'
              → Agreement.IsKnownEntry e'
          by_type true i = subst Agreement.IsKnownEntry (ok_inj i) tt
          by_type false i = absurd (err_is_not_ok i)

      by_entity : (v : Represented) (o : Option EntityName) → Refusals.entry_by name v o (unknown_entry t) ≡ Ok e'
          → Agreement.IsKnownEntry e'
      by_entity v None j = absurd (err_is_not_ok j)
      by_entity v (Some c) j = typed v c t j

      by : (o : Option Represented) → m name ≡ o → Refusals.concrete_entry name o (unknown_entry t) ≡ Ok e'
          → Agreement.IsKnownEntry e'
      by None e j = absurd (none_isn't_named (m name) e h)
      by (Some v) e j = by_entity v (entity_of (abstract_value v)) j

  -- ---- the context

  -- it is there, and what is unknown in it is named
  abbrev IsThere : ContextPart → Type 0
  IsThere absent_context = ⊥
  IsThere (known_context fs) = Unit {0}
  IsThere (residual_context fs) = Progress.AreNamedAt ans m fs × (are_restricted_at fs ≡ true)

  context_by_value : (v : Represented) (c c' : ContextPart) → Refusals.context_by v c ≡ Ok c' → IsThere c'
  unfolding Refusals.context_by Refusals.context_beside
  context_by_value (plain_represented l) c c' h = absurd (err_is_not_ok h)
  context_by_value (set_represented vs) c c' h = absurd (err_is_not_ok h)
  context_by_value (extension_represented t k f ts) c c' h = absurd (err_is_not_ok h)
  context_by_value (record_represented fs) absent_context c' h = subst IsThere (ok_inj h) tt
  context_by_value (record_represented fs) (known_context gs) c' h = absurd (err_is_not_ok h)
  context_by_value (record_represented fs) (residual_context gs) c' h = absurd (err_is_not_ok h)

  context_there : (c c' : ContextPart) → Progress.ContextIsNamed ans m c → IsSoundContext c
      → Refusals.concrete_context (m (codes "context")) c ≡ Ok c' → IsThere c'
  unfolding Refusals.concrete_context
  context_there c c' h sound k = by (m (codes "context")) refl k
    where
      unmapped : (x : ContextPart) → m (codes "context") ≡ None → Progress.ContextIsNamed ans m x → IsSoundContext x
          → IsThere x
      unmapped absent_context e i r = absurd (none_isn't_named (m (codes "context")) e i)
      unmapped (known_context fs) e i r = tt
      unmapped (residual_context fs) e i r = (i, r)

      by : (o : Option Represented) → m (codes "context") ≡ o → Refusals.concrete_context o c ≡ Ok c' → IsThere c'
      by None e j = subst IsThere (ok_inj j) (unmapped c e h sound)
      by (Some v) e j = context_by_value v c c' j

  -- ---- the map's values in a restricted expression

  module _ (plain : (n : Text) (v : Represented) → m n ≡ Some v → Agreement.IsKnown ans (expression_of v)
      × (is_restricted (expression_of v) ≡ true)) where
    value_plain : (n : Text) (t : Option ValueType) (o : Option Represented) → m n ≡ o → is_some o ≡ true
        → Agreement.IsKnown ans (Chains.value_for o (unknown n t))
        × (is_restricted (Chains.value_for o (unknown n t)) ≡ true)
    unfolding Chains.value_for
    value_plain n t None e h = absurd (false_is_not_true h)
    value_plain n t (Some v) e h = plain n v e

    mutual
      unfolding Chains.substituted

      substituted_plain : (t : Term) → Progress.IsNamed ans m t → is_restricted t ≡ true
          → Agreement.IsKnown ans (Chains.substituted m t) × (is_restricted (Chains.substituted m t) ≡ true)
      substituted_plain (literal l) k h = (tt, refl)
      substituted_plain (unknown n t) k h = value_plain n t (m n) refl k
      substituted_plain (call f ts) k h = let z = substituted_each_plain ts k.1 h in ((k.0, z.0), z.1)
      substituted_plain (set_of ts) k h = substituted_each_plain ts k h
      substituted_plain (record_of fs) k h = substituted_at_plain fs k h
      substituted_plain (variable v) k h = absurd (false_is_not_true h)
      substituted_plain (slot i) k h = absurd (false_is_not_true h)
      substituted_plain (if_then_else x y z) k h = absurd (false_is_not_true h)
      substituted_plain (both x y) k h = absurd (false_is_not_true h)
      substituted_plain (either x y) k h = absurd (false_is_not_true h)
      substituted_plain (unary op x) k h = absurd (false_is_not_true h)
      substituted_plain (binary op x y) k h = absurd (false_is_not_true h)
      substituted_plain (get_attribute x l) k h = absurd (false_is_not_true h)
      substituted_plain (has_attribute x l) k h = absurd (false_is_not_true h)
      substituted_plain (extended_has x l ls) k h = absurd (false_is_not_true h)
      substituted_plain (like x p) k h = absurd (false_is_not_true h)
      substituted_plain (is_of_type x t) k h = absurd (false_is_not_true h)

      substituted_each_plain : (ts : Terms) → Progress.AreNamed ans m ts → are_restricted ts ≡ true
          → Agreement.AreKnown ans (Chains.substituted_each m ts)
          × (are_restricted (Chains.substituted_each m ts) ≡ true)
      substituted_each_plain no_terms k h = (tt, refl)
      substituted_each_plain (one_term t ts) k h =
          let z = and_parts (is_restricted t) (are_restricted ts) h in
          let x = substituted_plain t k.0 z.0 in
          let y = substituted_each_plain ts k.1 z.1 in (
            (x.0, y.0),
            and_from (is_restricted (Chains.substituted m t))
                (are_restricted (Chains.substituted_each m ts)) x.1 y.1,
          )

      pub substituted_at_plain : (fs : Fields) → Progress.AreNamedAt ans m fs → are_restricted_at fs ≡ true
          → Agreement.AreKnownAt ans (Chains.substituted_at m fs)
          × (are_restricted_at (Chains.substituted_at m fs) ≡ true)
      substituted_at_plain no_fields k h = (tt, refl)
      substituted_at_plain (one_field l t fs) k h =
          let z = and_parts (is_restricted t) (are_restricted_at fs) h in
          let x = substituted_plain t k.0 z.0 in
          let y = substituted_at_plain fs k.1 z.1 in (
            (x.0, y.0),
            and_from (is_restricted (Chains.substituted m t))
                (are_restricted_at (Chains.substituted_at m fs)) x.1 y.1,
          )

  -- ---- rows

  named_reordered : {xs ys : List Row} → IsReordering Row xs ys → Progress.RowsAreNamed ans m xs
      → Progress.RowsAreNamed ans m ys
  named_reordered nothing h = tt
  named_reordered (keeping r q) h = (h.0, named_reordered q h.1)
  named_reordered (swapping r q) h = (h.1.0, (h.0, h.1.1))
  named_reordered (chaining q p) h = named_reordered p (named_reordered q h)

  clause_named : (o : Reported) → Progress.ReportIsNamed ans m o → Progress.IsNamed ans m (Responses.clause_of o)
  unfolding Responses.clause_of
  clause_named reported_true h = tt
  clause_named (reported_false e) h = tt
  clause_named (reported_residual t) h = h

known_answer : (a : Answer) (c : ContextPart) → IsNoResidual a → Refusals.IsContext a (Ok c)
    → Agreement.IsKnownContext c
known_answer (answers (value (plain_represented l))) c k h = absurd h
known_answer (answers (value (set_represented vs))) c k h = absurd h
known_answer (answers (value (record_represented fs))) c k h = subst Agreement.IsKnownContext (sym (ok_inj h)) tt
known_answer (answers (value (extension_represented t j f ts))) c k h = absurd h
known_answer (answers (residual t)) c k h = absurd k
known_answer (fails e) c k h = absurd (err_is_not_ok (sym h))

not_residual : (a : Answer) → IsNoResidual a → is_residual (Responses.reported_of (Responses.decided a)) ≡ false
unfolding is_residual Responses.reported_of Responses.decided Responses.decided_bool
not_residual (answers (value v)) h = by (bool_of (abstract_value v))
  where
    by : (o : Option Bool) → is_residual (Responses.reported_of (Responses.decided_bool o v)) ≡ false
    by (Some true) = refl
    by (Some false) = refl
    by None = refl
not_residual (answers (residual t)) h = absurd h
not_residual (fails e) h = refl

none_more : (a b : Bool) (r : Row) (xs : List Row) → b ≡ false → xs ≡ [] → cond a (cond b (r ∷ xs) xs) xs ≡ []
none_more true true r xs h k = absurd (cc)
none_more true false r xs h k = k
none_more false b r xs h k = k

more_none : (r : Row) (rs : List Row) → is_residual r.reported ≡ false → Reports.HaveNoResidual rs
    → Reports.HaveNoResidual (r ∷ rs)
unfolding rows_of
more_none r rs h k = (
  none_more (has_effect permit r.effect) (is_residual r.reported) r
      (rows_of permit is_residual rs) h k.0,
  none_more (has_effect forbid r.effect) (is_residual r.reported) r
      (rows_of forbid is_residual rs) h k.1,
)

no_rows : Reports.HaveNoResidual []
unfolding rows_of
no_rows = (refl, refl)

module _ (mode : ErrorHandling) (ans : Functions) (calls : StoredCalls)
    (agree : Agreement.AgreesWithFunctions ans calls) where
  ready_with_slots : (s : Setting) (slots : Slots) → Answering.IsReady ans calls agree s
      → Answering.IsReady ans calls agree (Responses.with_slots s slots)
  ready_with_slots s slots r = record {
    principal_known = r.principal_known;
    action_known = r.action_known;
    resource_known = r.resource_known;
    context_known = r.context_known;
    store_concrete = r.store_concrete;
    store_ready = r.store_ready;
  }

  run_finishes : (s : Setting) → Answering.IsReady ans calls agree s
      → (levels : ℕ) (qs rows : List Row) (errors : List (Text × Failure)) → Progress.RowsAreNamed ans s.map qs
      → Responses.RunOf mode s calls levels (map Responses.carried qs) rows errors → Reports.HaveNoResidual rows
  run_finishes s known levels [] rows errors n h = subst Reports.HaveNoResidual (sym h.0) no_rows
  run_finishes s known levels (q ∷ qs) rows errors n (a, rest, later, g, f, j, e, k) =
      let z = Responses.with_slots s Agreement.no_slots in
      let i = Answering.named_runs ans calls agree z (ready_with_slots s Agreement.no_slots known) levels
      (Responses.carried q).condition a (((tt, tt), tt), clause_named ans s.map q.reported n.0) g in
      subst Reports.HaveNoResidual (sym e) (more_none (Responses.row_of mode (Responses.carried q) a) rest
      (residual_same mode q.effect (Responses.reported_of (Responses.decided a))
      ∙ not_residual a i) (run_finishes s known levels qs rest later n.1 j))

  module _ (s : Setting) (levels : ℕ) (m : Mapping) (store : Store) (old new : Response)
      (concrete : store.is_partial ≡ false)
      (values : Agreement.EachStored (Progress.LeavesNoResidual ans m s.resolution) store)
      (sound : IsSoundContext old.request.context_part)
      (values_sound : (n : Text) (v : Represented) → m n ≡ Some v → IsSound v)
      (named : Progress.NamesAll ans m old) where
    values_plain : (n : Text) (v : Represented) → m n ≡ Some v → Agreement.IsKnown ans (expression_of v)
        × (is_restricted (expression_of v) ≡ true)
    values_plain n v e = (named.values_are_known n v e, sound_restricted v (values_sound n v e))

    context_known : (c c' : ContextPart) → IsThere ans m c
        → Chains.SubstitutesTo (Chains.at_step s.extensions s.resolution old.request store m) calls levels m c (Ok c')
        → Agreement.IsKnownContext c'
    context_known absent_context c' i h = absurd i
    context_known (known_context fs) c' i h = subst Agreement.IsKnownContext (sym (ok_inj h)) tt
    context_known (residual_context fs) c' i (a, g, h) =
        let p = substituted_at_plain ans m values_plain fs i.0 i.1 in
        known_answer a c' (Answering.plain_runs ans calls agree
        (Chains.without_map (Chains.at_step s.extensions s.resolution old.request store m)) levels
        (record_of (Chains.substituted_at m fs)) a p g) h

    pub step_finishes : Chains.StepsTo (configured_by calls mode s levels) m store old new
        → Reports.HaveNoResidual new.rows
    step_finishes h =
        let t = taken mode s calls levels m store old new h in
        let p = concrete_parts m old.request t.request t.concrete in
        let c = context_known t.request.context_part t.context
        (context_there ans m old.request.context_part t.request.context_part named.context_is_named sound p.context_is)
        t.substitutes in
        let r : Answering.IsReady ans calls agree (Chains.at_step s.extensions s.resolution
        (Chains.with_context t.request t.context) store m) = record {
          principal_known = entry_known ans m _ _ _ named.principal_is_named p.principal_is;
          action_known = entry_known ans m _ _ _ named.action_is_named p.action_is;
          resource_known = entry_known ans m _ _ _ named.resource_is_named p.resource_is;
          context_known = c;
          store_concrete = concrete;
          store_ready = values;
        } in
        let k : Answering.IsReady ans calls agree (Chains.at_step s.extensions s.resolution new.request store m) = subst
        (λ x. Answering.IsReady ans calls agree (Chains.at_step s.extensions s.resolution x store m))
        (sym t.request_is) r in
        run_finishes (Chains.at_step s.extensions s.resolution new.request store m) k levels
        (Chains.rows_by permit old.rows ++ Chains.rows_by forbid old.rows) new.rows new.errors
        (named_reordered ans m (sorted_is old.rows) named.rows_are_named) t.runs

pub steps_finish : (calls : StoredCalls) → Progress.StepsFinish calls
steps_finish calls ans agree mode resolution X levels m store old new concrete values sound mapped named h =
    let s : Setting = Chains.at_step X resolution old.request store m in
    let none = step_finishes mode ans calls agree s levels m store old new concrete values sound mapped named h in
    (none, λ w ps stand. concrete_is_defined mode X ans w ps new.rows stand none)
