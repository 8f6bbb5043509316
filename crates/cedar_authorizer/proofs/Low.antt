-- Runs that meet no recursion limit, since all that is given and each condition is low enough.
use Rattle.std.specs.Prelude.{◌≡◌, ◌≢◌, ℕ, ◌+◌, ◌<◌, ◌≤◌, List, [], ◌∷◌, ◌++◌, map, codes, Option, Some, None, Ok}
use Rattle.std.proofs.Common.{refl, sym, ap, subst, arith}
use Rattle.cedar_model.specs.Terms.{Text, Term, literal, variable, slot, unknown, if_then_else, both, either, unary, binary, call}
use Rattle.cedar_model.specs.Terms.{get_attribute, has_attribute, extended_has, like, is_of_type, set_of, record_of}
use Rattle.cedar_model.specs.Values.{Represented, RepresentedFields, plain_represented, set_represented, record_represented, extension_represented, abstract_value, expressions_at}
use Rattle.cedar_model.specs.Outcomes.{bool_of}
use Rattle.cedar_model.specs.World.{Slots}
use Rattle.cedar_model.specs.Failures.{Failure, PartialValue, recursion_limit, value, residual, Answer, answers, fails, limit}
use Rattle.cedar_model.specs.Settings.{ContextPart, absent_context, known_context, residual_context, RequestPart, Store, Setting, context_value}
use Rattle.cedar_model.specs.Rules.{StoredCalls, Runs, Exceeds}
use Rattle.cedar_model.specs.Agreement.{no_slots, height}
use Rattle.cedar_model.specs.Restricted.{AreSoundAt, IsSoundContext, IsGivenSound}
use Rattle.cedar_model.specs.Policies.{Policy, ErrorHandling}
use Rattle.cedar_model.specs.Responses.{Row, decided, decided_bool, error_of, with_slots, with_error, carried, RunOf}
use Rattle.cedar_model.specs.Refusals.{concrete_context, context_by, context_beside, IsContext}
use Rattle.cedar_model.specs.Chains.{Mapping, Response, substituted_at, rows_by, all_residuals, at_step, without_map, SubstitutesTo, StepsTo}
use Rattle.cedar_model.specs.Policies.{permit, forbid}
use Rattle.cedar_model.specs.Authorizations.{HaveNoLimit, AreNoHigher}
use Rattle.cedar_model.specs.laws.Levels.{FunctionsMeetNoLimit}
use Rattle.cedar_model.specs.Depth.{IsNoHigher, IsContextNoHigher, ContextFollows, bound_of}
use Rattle.cedar_model.proofs.Completions.{concrete_parts}
use Rattle.cedar_model.proofs.Heights.{stays, sound_known}
use Rattle.cedar_model.proofs.Needs.{need_bounded}
use Rattle.cedar_model.proofs.StepNeeds.{step_need_bounded}
use Rattle.cedar_model.proofs.Stepping.{Taken, taken}
use Rattle.cedar_model.proofs.Configured.{configured_by}
use Rattle.cedar_model.proofs.Injections.{ok_inj, err_is_not_ok, none_is_not_some}

-- ---- errors of a run

abbrev IsNoLimit : Option Failure → Type 0
IsNoLimit None = Unit {0}
IsNoLimit (Some e) = e ≢ recursion_limit

bool_no_limit : (o : Option _) (v : Represented) → IsNoLimit (error_of (decided_bool o v))
unfolding error_of decided_bool
bool_no_limit (Some b) v = tt
bool_no_limit None v = λ e. cc

answer_no_limit : (a : Answer) → a ≢ limit → IsNoLimit (error_of (decided a))
unfolding decided error_of
answer_no_limit (answers (value v)) h = bool_no_limit (bool_of (abstract_value v)) v
answer_no_limit (answers (residual t)) h = tt
answer_no_limit (fails e) h = λ w. h (ap fails w)

one_more : (id : Text) (o : Option Failure) (later : List (Text × Failure)) → IsNoLimit o → HaveNoLimit later → HaveNoLimit (with_error id o later)
unfolding with_error
one_more id None later h k = k
one_more id (Some e) later h k = (h, k)

module _ (mode : ErrorHandling) (s : Setting) (calls : StoredCalls) (levels : ℕ) where
  -- no condition's need is above the levels
  abbrev AreDeep : List Policy → Type 0
  AreDeep [] = Unit {0}
  AreDeep (p ∷ ps) = (Exceeds (with_slots s p.slots) calls p.condition levels → ⊥) × AreDeep ps

  run_deep : (ps : List Policy) (rows : List Row) (errors : List (Text × Failure)) → AreDeep ps → RunOf mode s calls levels ps rows errors → HaveNoLimit errors
  run_deep [] rows errors h (e, f) = subst HaveNoLimit (sym f) tt
  run_deep (p ∷ ps) rows errors h (a, rest, later, runs, found, run, e, f) =
      subst HaveNoLimit (sym f) (one_more p.id (error_of (decided a)) later
      (answer_no_limit a (λ w. h.0 (subst (Runs (with_slots s p.slots) calls levels p.condition) w runs))) (run_deep ps rest later h.1 run))

  all_deep : (h : ℕ) (ps : List Policy) → ((slots : Slots) (t : Term) → height t ≤ h → Exceeds (with_slots s slots) calls t levels → ⊥) → AreNoHigher ps h → AreDeep ps
  all_deep h [] deep low = tt
  all_deep h (p ∷ ps) deep low = (deep p.slots p.condition low.0, all_deep h ps deep low.1)

  carried_deep : (h : ℕ) (rows : List Row) → ((t : Term) → height t ≤ h → Exceeds (with_slots s no_slots) calls t levels → ⊥) → AreNoHigher (map carried rows) h → AreDeep (map carried rows)
  carried_deep h [] deep low = tt
  carried_deep h (r ∷ rs) deep low = (deep _ low.0, carried_deep h rs deep low.1)

-- ---- a first run

too_deep : (n k h b : ℕ) → n < k + b → k ≤ h → h + b ≤ n → ⊥
too_deep n k h b above low enough = omega (arith, above, low, enough)

module _ (mode : ErrorHandling) (s : Setting) (calls : StoredCalls) (no_limit : FunctionsMeetNoLimit calls) (b h levels : ℕ)
    (sound : IsGivenSound calls s) (low : IsNoHigher calls s s.map b) (enough : h + bound_of s.resolution b ≤ levels) where
  slots_deep : (slots : Slots) (t : Term) → height t ≤ h → Exceeds (with_slots s slots) calls t levels → ⊥
  slots_deep slots t k met =
      let z = need_bounded (with_slots s slots) calls no_limit b
      record { context_sound = sound.context_sound; stored_sound = sound.stored_sound; mapped_sound = sound.mapped_sound; answers_sound = sound.answers_sound }
      record { context_low = low.context_low; stored_low = low.stored_low; mapped_low = low.mapped_low; answers_low = low.answers_low } levels t met in
      too_deep levels (height t) h (bound_of s.resolution b) z k enough

  pub run_is_deep : (ps : List Policy) (rows : List Row) (errors : List (Text × Failure)) → AreNoHigher ps h → RunOf mode s calls levels ps rows errors → HaveNoLimit errors
  run_is_deep ps rows errors low_conditions run =
      run_deep mode s calls levels ps rows errors (all_deep mode s calls levels h ps slots_deep low_conditions) run

-- ---- the run of a step

-- the map leaves the context as it was, or it is a record of the map
data Mapped (o : Option Represented) (c d : ContextPart) : Type 0 where
  as_it_was : c ≡ d → Mapped o c d
  is_mapped : (fs : _) → o ≡ Some (record_represented fs) → known_context fs ≡ d → Mapped o c d

mapped : (o : Option Represented) (c d : ContextPart) → concrete_context o c ≡ Ok d → Mapped o c d
unfolding concrete_context context_by context_beside
mapped None c d e = as_it_was (ok_inj e)
mapped (Some (plain_represented l)) c d e = absurd (err_is_not_ok e)
mapped (Some (set_represented vs)) c d e = absurd (err_is_not_ok e)
mapped (Some (record_represented fs)) absent_context d e = is_mapped fs refl (ok_inj e)
mapped (Some (record_represented fs)) (known_context gs) d e = absurd (err_is_not_ok e)
mapped (Some (record_represented fs)) (residual_context gs) d e = absurd (err_is_not_ok e)
mapped (Some (extension_represented t k f ts)) c d e = absurd (err_is_not_ok e)

too_deep_twice : (n k h b : ℕ) → n < k + (b + b) → k ≤ h → h + (b + b) ≤ n → ⊥
too_deep_twice n k h b above low enough = omega (arith, above, low, enough)

-- the answer that a context is
context_answer : (a : Answer) (d : ContextPart) → IsContext a (Ok d) → a ≡ answers (context_value d)
unfolding context_value
context_answer (answers (value (plain_represented l))) d h = absurd h
context_answer (answers (value (set_represented vs))) d h = absurd h
context_answer (answers (value (record_represented fs))) d h = ap (λ c. answers (context_value c)) (sym (ok_inj h))
context_answer (answers (value (extension_represented t k f ts))) d h = absurd h
context_answer (answers (residual (literal l))) d h = absurd h
context_answer (answers (residual (variable v))) d h = absurd h
context_answer (answers (residual (slot i))) d h = absurd h
context_answer (answers (residual (unknown n t))) d h = absurd h
context_answer (answers (residual (if_then_else c t u))) d h = absurd h
context_answer (answers (residual (both t u))) d h = absurd h
context_answer (answers (residual (either t u))) d h = absurd h
context_answer (answers (residual (unary op t))) d h = absurd h
context_answer (answers (residual (binary op t u))) d h = absurd h
context_answer (answers (residual (call f ts))) d h = absurd h
context_answer (answers (residual (get_attribute t k))) d h = absurd h
context_answer (answers (residual (has_attribute t k))) d h = absurd h
context_answer (answers (residual (extended_has t k ks))) d h = absurd h
context_answer (answers (residual (like t q))) d h = absurd h
context_answer (answers (residual (is_of_type t n))) d h = absurd h
context_answer (answers (residual (set_of ts))) d h = absurd h
context_answer (answers (residual (record_of fs))) d h = ap (λ c. answers (context_value c)) (sym (ok_inj h))
context_answer (fails e) d h = absurd (err_is_not_ok (sym h))

is_answer : (a : Answer) (p : PartialValue) → a ≡ answers p → answers p ≢ limit
is_answer a p e w = absurd (cc)

module _ (mode : ErrorHandling) (s : Setting) (calls : StoredCalls) (levels : ℕ) (m : Mapping) (store : Store) where
  -- what follows of a context
  follows : (c d : ContextPart) (r : RequestPart) → SubstitutesTo (at_step s.extensions s.resolution r store m) calls levels m c (Ok d) → ContextFollows (without_map (at_step s.extensions s.resolution r store m)) calls m c d
  follows absent_context d r h = ok_inj h
  follows (known_context fs) d r h = ok_inj h
  follows (residual_context fs) d r (a, runs, is) =
      let e = context_answer a d is in
      (is_answer a (context_value d) e, levels, subst (Runs (without_map (at_step s.extensions s.resolution r store m)) calls levels (record_of (substituted_at m fs))) e runs)

  module _ (no_limit : FunctionsMeetNoLimit calls) (b h : ℕ) (old : Response)
      (sound : IsGivenSound calls (at_step s.extensions s.resolution old.request store m)) (low : IsNoHigher calls (at_step s.extensions s.resolution old.request store m) m b) (enough : h + (b + b) ≤ levels) where
    known_low : (fs : RepresentedFields) (c : ContextPart) → AreSoundAt fs → height (record_of (expressions_at fs)) ≤ b → known_context fs ≡ c → IsContextNoHigher m b c
    known_low fs c f k e =
        subst (IsContextNoHigher m b) e (subst (λ t. height t ≤ b) (sym (stays m (record_of (expressions_at fs)) (sound_known (record_represented fs) f))) k)

    -- no condition that is low enough needs more, after a context of the old request or of another one that is as low
    deep_after : (r new : RequestPart) → IsSoundContext r.context_part → IsContextNoHigher m b r.context_part → ContextFollows (without_map (at_step s.extensions s.resolution r store m)) calls m r.context_part new.context_part
        → (t : Term) → height t ≤ h → Exceeds (at_step s.extensions s.resolution new store m) calls t levels → ⊥
    deep_after r new good no_higher f t k met =
        too_deep_twice levels (height t) h b (step_need_bounded (without_map (at_step s.extensions s.resolution r store m)) calls m b (λ n v e. absurd (none_is_not_some e))
        record { context_sound = good; stored_sound = sound.stored_sound; mapped_sound = λ n v e. absurd (none_is_not_some e); answers_sound = sound.answers_sound }
        sound.mapped_sound
        record { context_low = no_higher; stored_low = low.stored_low; mapped_low = low.mapped_low; answers_low = low.answers_low }
        no_limit new f levels t met) k enough

    deep : (new : Response) (z : Taken mode s calls levels m store old new) → Mapped (m (codes "context")) old.request.context_part z.request.context_part → (t : Term) → height t ≤ h → Exceeds (at_step s.extensions s.resolution new.request store m) calls t levels → ⊥
    deep new z (as_it_was e) =
        deep_after old.request new.request sound.context_sound low.context_low
        (subst (λ q. ContextFollows (without_map (at_step s.extensions s.resolution old.request store m)) calls m old.request.context_part q) (sym (ap (λ q. q.context_part) z.request_is))
        (subst (λ c. ContextFollows (without_map (at_step s.extensions s.resolution old.request store m)) calls m c z.context) (sym e) (follows z.request.context_part z.context old.request z.substitutes)))
    deep new z (is_mapped fs e f) =
        let good : AreSoundAt fs = sound.mapped_sound (codes "context") (record_represented fs) e in
        deep_after z.request new.request (subst IsSoundContext f good)
        (known_low fs z.request.context_part good (low.mapped_low (codes "context") (record_represented fs) e) f)
        (subst (λ q. ContextFollows (without_map (at_step s.extensions s.resolution z.request store m)) calls m z.request.context_part q) (sym (ap (λ q. q.context_part) z.request_is))
        (known_follows fs z.request.context_part z.context f z.substitutes))
      where
        known_follows : (fs : RepresentedFields) (c d : ContextPart) → known_context fs ≡ c → SubstitutesTo (at_step s.extensions s.resolution old.request store m) calls levels m c (Ok d) → ContextFollows (without_map (at_step s.extensions s.resolution z.request store m)) calls m c d
        known_follows fs c d e g =
            subst (λ x. ContextFollows (without_map (at_step s.extensions s.resolution z.request store m)) calls m x d) e (ok_inj (subst (λ x. SubstitutesTo (at_step s.extensions s.resolution old.request store m) calls levels m x (Ok d)) (sym e) g))

    -- a step meets no limit
    pub step_is_deep : (new : Response) → StepsTo (configured_by calls mode s levels) m store old new → AreNoHigher (all_residuals old.rows) h → HaveNoLimit new.errors
    step_is_deep new taken_to conditions =
        let z = taken mode s calls levels m store old new taken_to in
        let c = concrete_parts m old.request z.request z.concrete in
        run_deep mode (at_step s.extensions s.resolution new.request store m) calls levels (all_residuals old.rows) new.rows new.errors
        (carried_deep mode (at_step s.extensions s.resolution new.request store m) calls levels h (rows_by permit old.rows ++ rows_by forbid old.rows) (deep new z (mapped (m (codes "context")) old.request.context_part z.request.context_part c.context_is)) conditions)
        z.runs
