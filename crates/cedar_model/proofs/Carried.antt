-- A step keeps what stands: the policies that a response carries on have the outcomes of the original ones.
use Rattle.std.specs.Prelude.{◌≡◌, ◌⊎◌, ℕ, zero, suc, Bool, true, false, List, [], ◌∷◌, map, Option, Some, None}
use Rattle.std.proofs.Common.{refl, sym, ap, ◌∙◌, subst, inl, inr}
use Rattle.cedar_model.specs.Terms.{Text, bool_literal, Term, literal, variable, slot, unknown, if_then_else, both}
use Rattle.cedar_model.specs.Terms.{either, unary, binary, call, get_attribute, has_attribute, extended_has, like}
use Rattle.cedar_model.specs.Terms.{is_of_type, set_of, record_of}
use Rattle.cedar_model.specs.Outcomes.{Outcome, gives, errs, gives_bool, and_then, needing, bool_of}
use Rattle.cedar_model.specs.World.{World, Slots, Extensions, Functions}
use Rattle.cedar_model.specs.Meaning
use Rattle.cedar_model.specs.Failures.{Failure, failure_kind, Answer, answers_bool, limit}
use Rattle.cedar_model.specs.Settings.{Setting}
use Rattle.cedar_model.specs.Rules
use Rattle.cedar_model.specs.Agreement.{outcome_value, HaveSameOutcome, Fits, no_slots, IsCompletion}
use Rattle.cedar_model.specs.Agreement.{AgreesWithFunctions, AnswerFaithfully}
use Rattle.cedar_model.specs.Policies.{Policy, verdict, ErrorHandling, counted_verdict}
use Rattle.cedar_model.specs.Responses
use Rattle.cedar_model.proofs.Recorded
use Rattle.cedar_model.proofs.Binds.{same_bool_bind}
use Rattle.cedar_model.proofs.Conjunction.{step_is_bool}
use Rattle.cedar_model.proofs.Standing.{answer_stands, counted_true, counted_false, errs_isn't, recorded, with_slots_done}
use Rattle.cedar_model.proofs.Soundness.{sound_stands, runs_sound}
use Rattle.cedar_model.proofs.Injections.{some_inj}

-- ---- conditions are bools or errors

needing_twice : (o : Option Bool) → Meaning.and_then_bool (needing o gives_bool) gives_bool ≡ needing o gives_bool
unfolding needing and_then bool_of
needing_twice None = refl
needing_twice (Some b) = refl

bool_twice : (o : Outcome) → Meaning.and_then_bool (Meaning.and_then_bool o gives_bool) gives_bool
    ≡ Meaning.and_then_bool o gives_bool
unfolding and_then
bool_twice (gives v) = needing_twice (bool_of v)
bool_twice (errs e) = refl

both_is_bool : (X : Extensions) (ans : Functions) (w : World) (slots : Slots) (t u : Term)
    → Meaning.and_then_bool (Meaning.meaning X ans w slots (both t u)) gives_bool
    ≡ Meaning.meaning X ans w slots (both t u)
unfolding Meaning.meaning
both_is_bool X ans w slots t u =
    step_is_bool w (Meaning.meaning X ans w slots t)
    (Meaning.and_then_bool (Meaning.meaning X ans w slots u) gives_bool)
    (bool_twice (Meaning.meaning X ans w slots u))

condition_is_bool : (X : Extensions) (ans : Functions) (w : World) (slots : Slots) (t : Term)
    → Responses.IsCondition t → Meaning.and_then_bool (Meaning.meaning X ans w slots t) gives_bool
    ≡ Meaning.meaning X ans w slots t
condition_is_bool X ans w slots (both t u) h = both_is_bool X ans w slots t u
condition_is_bool X ans w slots (literal l) h = absurd h
condition_is_bool X ans w slots (variable v) h = absurd h
condition_is_bool X ans w slots (slot i) h = absurd h
condition_is_bool X ans w slots (unknown n t) h = absurd h
condition_is_bool X ans w slots (if_then_else c a b) h = absurd h
condition_is_bool X ans w slots (either a b) h = absurd h
condition_is_bool X ans w slots (unary op a) h = absurd h
condition_is_bool X ans w slots (binary op a b) h = absurd h
condition_is_bool X ans w slots (call f ts) h = absurd h
condition_is_bool X ans w slots (get_attribute a k) h = absurd h
condition_is_bool X ans w slots (has_attribute a k) h = absurd h
condition_is_bool X ans w slots (extended_has a k ks) h = absurd h
condition_is_bool X ans w slots (like a p) h = absurd h
condition_is_bool X ans w slots (is_of_type a t) h = absurd h
condition_is_bool X ans w slots (set_of ts) h = absurd h
condition_is_bool X ans w slots (record_of fs) h = absurd h

-- ---- the same outcome stands alike

verdict_same : (o p : Outcome) → HaveSameOutcome o p → verdict o ≡ verdict p
unfolding outcome_value verdict
verdict_same (gives u) (gives v) h = ap (λ x. verdict (gives x)) (some_inj h)
verdict_same (gives u) (errs e) h = absurd (cc)
verdict_same (errs e) (gives v) h = absurd (cc)
verdict_same (errs e) (errs f) h = refl

module _ (mode : ErrorHandling) (X : Extensions) (ans : Functions) (w : World) where
  abbrev M : Policy → Outcome
  M p = Meaning.meaning X ans w p.slots p.condition

  verdict_counts : (q p : Policy) → q.effect ≡ p.effect → HaveSameOutcome (M q) (M p)
      → counted_verdict mode q.effect (verdict (M q)) ≡ counted_verdict mode p.effect (verdict (M p))
  verdict_counts q p f e = λ i. counted_verdict mode (f i) (verdict_same (M q) (M p) e i)

  stands_same : (q p : Policy) (r : Responses.Reported) → q.effect ≡ p.effect → HaveSameOutcome (M q) (M p)
      → Responses.StandsAs mode X ans w q r → Responses.StandsAs mode X ans w p r
  stands_same q p Responses.reported_true f e h = sym (verdict_counts q p f e) ∙ h
  stands_same q p (Responses.reported_false true) f e h =
      subst (λ x. Responses.ErrsAs mode x (verdict (M p))) f
      (subst (Responses.ErrsAs mode q.effect) (verdict_same (M q) (M p) e) h)
  stands_same q p (Responses.reported_false false) f e h = λ z. h (verdict_counts q p f e ∙ z)
  stands_same q p (Responses.reported_residual t) f e h = (h.0, h.1 ∙ e)

  -- a residual that is carried on has the outcome of the original condition
  carried_outcome : (r : Responses.Row) (t : Term) (p : Policy) → r.reported ≡ Responses.reported_residual t
      → Responses.IsCondition p.condition → HaveSameOutcome (Meaning.meaning X ans w no_slots t) (M p)
      → HaveSameOutcome (M (Responses.carried r)) (M p)
  unfolding Meaning.meaning Responses.clause_of and_then needing bool_of
  carried_outcome r t p e c h =
      ap (λ z. outcome_value (Meaning.and_then_bool
      (Meaning.meaning X ans w no_slots (Responses.clause_of z)) gives_bool)) e
      ∙ same_bool_bind (Meaning.meaning X ans w no_slots t) (M p) gives_bool gives_bool h (λ b. refl)
      ∙ ap outcome_value (condition_is_bool X ans w p.slots p.condition c)

-- ---- clauses that are true or false

-- the limit, or this bool
abbrev pub IsBoolOrLimit : Bool → Answer → Type 0
IsBoolOrLimit b a = (a ≡ limit) ⊎ (a ≡ answers_bool b)

module _ (s : Setting) (calls : Rules.StoredCalls) where
  abbrev pub Always : Bool → Term → Type 0
  Always b t = (n : ℕ) (a : Answer) → Rules.Runs s calls n t a → IsBoolOrLimit b a

  pub literal_always : (b : Bool) → Always b (literal (bool_literal b))
  literal_always b zero a r = inl r
  literal_always b (suc n) a r = inr r

  joined_always : (b : Bool) (h : Term → Term) (x : Answer) → IsBoolOrLimit b x → IsBoolOrLimit b (Rules.joined h x)
  unfolding Rules.joined Rules.bool_or_failure bool_of
  joined_always b h x (inl e) = inl (ap (Rules.joined h) e)
  joined_always b h x (inr e) = inr (ap (Rules.joined h) e)

  right_always : (n : ℕ) (b : Bool) (u : Term) (a : Answer) → Always b u
      → Rules.Then (answers_bool true) (Rules.AfterAndLeft (Rules.Runs s calls n) u) a → IsBoolOrLimit b a
  unfolding bool_of
  right_always n b u a h (y, g, e) =
      subst (IsBoolOrLimit b) (sym e) (joined_always b (both (literal (bool_literal true))) y (h n y g))

  left_always : (n : ℕ) (b : Bool) (u : Term) (x a : Answer) → Always b u → IsBoolOrLimit true x
      → Rules.Then x (Rules.AfterAndLeft (Rules.Runs s calls n) u) a → IsBoolOrLimit b a
  left_always n b u x a h (inl e) r = inl (subst (λ z. Rules.Then z (Rules.AfterAndLeft (Rules.Runs s calls n) u) a) e r)
  left_always n b u x a h (inr e) r =
      right_always n b u a h (subst (λ z. Rules.Then z (Rules.AfterAndLeft (Rules.Runs s calls n) u) a) e r)

  both_always : (b : Bool) (t u : Term) → Always true t → Always b u → Always b (both t u)
  both_always b t u ht hu zero a r = inl r
  both_always b t u ht hu (suc n) a (x, g, r) = left_always n b u x a hu (ht n x g) r

  pub clause_always : (b : Bool) (c : Term) → Always b c
      → Always b (both (both (both Responses.truth Responses.truth) Responses.truth) c)
  clause_always b c h =
      both_always b _ c (both_always true _ Responses.truth
      (both_always true Responses.truth Responses.truth (literal_always true) (literal_always true))
      (literal_always true)) h

-- ---- one row

module _ (mode : ErrorHandling) (ans : Functions) (calls : Rules.StoredCalls) (agree : AgreesWithFunctions ans calls)
    (w : World) (s : Setting) (done : IsCompletion ans w s) (faithful : AnswerFaithfully s.extensions ans calls)
    (limit_of : ℕ) where
  not_limit : (b : Bool) (a : Answer) → IsBoolOrLimit b a
      → Recorded.IsRecordable (Responses.error_of (Responses.decided a))
      → a ≡ answers_bool b
  unfolding Responses.error_of Responses.decided failure_kind
  not_limit b a (inl e) h =
      absurd ((subst (λ z. Recorded.IsRecordable (Responses.error_of (Responses.decided z))) e h).0 refl)
  not_limit b a (inr e) h = e

  decided_bool_is : (b : Bool) → Responses.decided (answers_bool b) ≡ Responses.decides b
  unfolding Responses.decided Responses.decided_bool bool_of
  decided_bool_is b = refl

  true_is : Responses.reported_of (Responses.decides true) ≡ Responses.reported_true
  unfolding Responses.reported_of
  true_is = refl

  false_is : Responses.reported_of (Responses.decides false) ≡ Responses.reported_false false
  unfolding Responses.reported_of
  false_is = refl

  clause_true : Responses.clause_of Responses.reported_true ≡ Responses.truth
  unfolding Responses.clause_of
  clause_true = refl

  clause_false : (e : Bool) → Responses.clause_of (Responses.reported_false e) ≡ literal (bool_literal false)
  unfolding Responses.clause_of
  clause_false e = refl

  clause_residual : (t : Term) → Responses.clause_of (Responses.reported_residual t) ≡ t
  unfolding Responses.clause_of
  clause_residual t = refl

  abbrev Carries : Policy → Term → Answer → Type 0
  Carries p c a =
      Rules.Runs (Responses.with_slots s no_slots) calls limit_of
      (both (both (both Responses.truth Responses.truth) Responses.truth) c) a

  -- what is reported of a row that is carried on
  abbrev Again : Responses.Row → Answer → Responses.Reported
  Again r a = Responses.counted_report mode r.effect (Responses.reported_of (Responses.decided a))

  bool_row : (p : Policy) (r : Responses.Row) (b : Bool) (c : Term) (a : Answer) (r' : Responses.Reported)
      → c ≡ literal (bool_literal b) → Carries p c a → Recorded.IsRecordable (Responses.error_of (Responses.decided a))
      → Responses.counted_report mode r.effect (Responses.reported_of (Responses.decides b)) ≡ r'
      → Responses.StandsAs mode s.extensions ans w p r' → Responses.StandsAs mode s.extensions ans w p (Again r a)
  bool_row p r b c a r' e g h q k =
      let i : Rules.Runs (Responses.with_slots s no_slots) calls limit_of
      (both (both (both Responses.truth Responses.truth) Responses.truth) (literal (bool_literal b))) a = subst
      (λ z. Carries p z a) e g in
      let j : a ≡ answers_bool b = not_limit b a (clause_always (Responses.with_slots s no_slots) calls b
      (literal (bool_literal b)) (literal_always (Responses.with_slots s no_slots) calls b) limit_of a i) h in
      subst (Responses.StandsAs mode s.extensions ans w p)
      (sym (ap (Responses.counted_report mode r.effect) (ap (λ z. Responses.reported_of (Responses.decided z)) j
      ∙ ap Responses.reported_of (decided_bool_is b)) ∙ q)) k

  true_again : (r : Responses.Row)
      → Responses.counted_report mode r.effect (Responses.reported_of (Responses.decides true))
      ≡ Responses.reported_true
  true_again r = ap (Responses.counted_report mode r.effect) true_is ∙ counted_true mode r.effect

  false_again : (r : Responses.Row)
      → Responses.counted_report mode r.effect (Responses.reported_of (Responses.decides false))
      ≡ Responses.reported_false false
  false_again r = ap (Responses.counted_report mode r.effect) false_is ∙ counted_false mode r.effect

  row_stands : (p : Policy) (r : Responses.Row) (o : Responses.Reported) (a : Answer) → r.effect ≡ p.effect
      → r.reported ≡ o → Responses.IsCondition p.condition → Responses.StandsAs mode s.extensions ans w p o
      → Carries p (Responses.clause_of r.reported) a → Recorded.IsRecordable (Responses.error_of (Responses.decided a))
      → Responses.StandsAs mode s.extensions ans w p (Again r a)
  row_stands p r Responses.reported_true a x e c k g h =
      bool_row p r true (Responses.clause_of r.reported) a Responses.reported_true (ap Responses.clause_of e
      ∙ clause_true) g h (true_again r) k
  row_stands p r (Responses.reported_false true) a x e c k g h =
      bool_row p r false (Responses.clause_of r.reported) a (Responses.reported_false false) (ap Responses.clause_of e
      ∙ clause_false true) g h (false_again r) (errs_isn't mode p.effect _ k)
  row_stands p r (Responses.reported_false false) a x e c k g h =
      bool_row p r false (Responses.clause_of r.reported) a (Responses.reported_false false) (ap Responses.clause_of e
      ∙ clause_false false) g h (false_again r) k
  row_stands p r (Responses.reported_residual t) a x e c k g h =
      let f : Fits ans w (Responses.carried r).condition =
      (((tt, tt), tt), subst (Fits ans w) (sym (ap Responses.clause_of e ∙ clause_residual t)) k.0) in
      let d = with_slots_done ans w s no_slots done in
      let z = sound_stands ans calls agree w (Responses.with_slots s no_slots) d faithful
      (Responses.carried r).condition a (runs_sound ans calls agree w
      (Responses.with_slots s no_slots) d faithful limit_of (Responses.carried r).condition a f g) in
      stands_same mode s.extensions ans w (Responses.carried r) p (Again r a) x
      (carried_outcome mode s.extensions ans w r t p e c k.1)
      (answer_stands mode ans w s (Responses.carried r) a h z)

  -- ---- rows in the order of the run

  -- a later row follows an earlier one: it stands for each policy for which that one stands
  abbrev pub Follows : Responses.Row → Responses.Row → Type 0
  Follows r r' =
      (r'.id ≡ r.id) × (r'.effect ≡ r.effect) × ((p : Policy) → r.effect ≡ p.effect
      → Responses.IsCondition p.condition → Responses.StandsAs mode s.extensions ans w p r.reported
      → Responses.StandsAs mode s.extensions ans w p r'.reported)

  abbrev pub AllFollow : List Responses.Row → List Responses.Row → Type 0
  AllFollow [] [] = Unit {0}
  AllFollow [] (r ∷ rs) = ⊥
  AllFollow (r ∷ rs) [] = ⊥
  AllFollow (r ∷ rs) (r' ∷ rs') = Follows r r' × AllFollow rs rs'

  pub run_follows : (rs rows : List Responses.Row) (errors : List (Text × Failure)) → Recorded.AreRecordable errors
      → Responses.RunOf mode s calls limit_of (map Responses.carried rs) rows errors → AllFollow rs rows
  run_follows [] rows errors h r = subst (AllFollow []) (sym r.0) tt
  run_follows (q ∷ qs) rows errors h (a, rest, later, g, m, j, e, k) =
      let z = recorded q.id (Responses.error_of (Responses.decided a)) later (subst Recorded.AreRecordable k h) in
      subst (AllFollow (q ∷ qs)) (sym e) (
        (refl, refl, λ p x c i. row_stands p q q.reported a x refl c i g z.0),
        run_follows qs rest later z.1 j,
      )
