-- The laws of the evaluation over frames.
use Rattle.std.specs.Prelude.{◌≡◌, ◌≢◌, ℕ, zero, suc, ◌+◌, ◌-◌, ◌^◌, ◌<◌, ◌≤◌, true, false, List, [], ◌∷◌, ◌++◌, length, drop}
use Rattle.std.specs.Prelude.{Option, Result, Ok, Err, IfOk}
use Rattle.std.proofs.Common.{refl, sym, ap, ◌∙◌, subst, arith, append_assoc}
use Rattle.cedar_model.specs.Terms.{Text, Term, Terms, Literal, ValueType, literal, unknown, one_term}
use Rattle.cedar_model.specs.Values.{plain_represented}
use Rattle.cedar_model.specs.Operators.{mapped}
use Rattle.cedar_model.specs.Failures as model
use Rattle.cedar_model.specs.Failures.{Failure, answers, fails, out_of_memory}
use Rattle.cedar_model.specs.Shapes.{is_restricted}
use Rattle.cedar_model.specs.Settings.{Setting}
use Rattle.cedar_model.specs.Rules.{StoredCalls, MayAnswer, Rule, Runs, Parts}
use Rattle.cedar_model.specs.World as world
use Rattle.cedar_model.proofs.Injections.{answers_is_not_fails}
use Rattle.cedar_names.specs.declared.names.Loc.{Loc}
use Rattle.cedar_expressions.specs.declared.expr.Expr.{Expr}
use Rattle.cedar_expressions.specs.View.{view, terms_view, expr_loc}
use Rattle.cedar_values.specs.declared.partial_value.PartialValue.{PartialValue}
use Rattle.cedar_values.specs.Residuals.{partial_view, partial_loc}
use Rattle.cedar_errors.specs.declared.evaluator.err.EvaluationError.{EvaluationError}
use Rattle.cedar_errors.specs.Failures.{failure_of}
use Rattle.cedar_frames.specs.declared.machine.Transition.TheVariants.{Done, Wait}
use Rattle.cedar_frames.specs.Frames.{Resumes, Fewer, Below}
use Rattle.cedar_restricted.specs.declared.answers.Answers.{Answers}
use Rattle.cedar_restricted.specs.declared.parts.PartsFrame.{PartsFrame}
use Rattle.cedar_restricted.specs.declared.whole.Whole.{Whole}
use Rattle.cedar_restricted.specs.Evaluations.{partial_answer, AnswersWith, bare_setting, ends_all, limit_error}
use Rattle.cedar_restricted.specs.Evaluations.{out_of_memory_error}
use Rattle.cedar_restricted.specs.Parts as shapes
use Rattle.cedar_restricted.specs.Parts.{whole_term, HasKeys, count, Are, Makes}
use Rattle.cedar_restricted.specs.Frames.{NextPart, Reads, Begun, StartsParts, Continued, ContinuesParts, HasRead, IsNext, WaitsForParts}
use Rattle.cedar_restricted.specs.Frames.{IsRight, left_of, parts_left, parts_behind}
use Rattle.cedar_restricted.specs.Frames as frames
use Rattle.cedar_restricted.specs.Literals.{literals_then, literal_answers, AreBehind, Behind, behind}
use Rattle.cedar_restricted.specs.Steps.{so_far_none, so_far_more, so_far_literals, so_far_all, so_far_fails}
use Rattle.cedar_restricted.specs.Steps.{whole_fails, whole_answers}
use Rattle.cedar_restricted.specs.Steps.{parts_restricted, next_restricted, left_after, none_left}

no_place : (l : Option Loc) (r : Result PartialValue EvaluationError) (e : Failure) → partial_answer r ≡ fails e →
    IfOk r (λ p. partial_loc p ≡ l)
no_place l (Ok p) e h = absurd (answers_is_not_fails (partial_view p) e h)
no_place l (Err x) e h = tt

-- ---- the next part, or the whole

module _ (x : world.Extensions) (calls : StoredCalls) (k : ℕ) (t : Expr) where
  pub reads_right : (whole : Whole) (parts : frames.SharedParts) (a : Answers) (loc : Option Loc) (s : NextPart) →
      whole_term whole (terms_view parts.value.items) ≡ view t → HasKeys whole (length parts.value.items) → loc ≡
      expr_loc t →
      (is_restricted (view t) ≡ true → HasRead (Runs (bare_setting x) calls k) parts a) → Reads x calls whole parts a loc s →
      Resumes (IsRight x calls) (WaitsForParts x calls) k t s
  reads_right whole parts a loc (Wait f c) term keys place read (w, p, b, l, n) = record {
    term = ap (λ y. whole_term y (terms_view f.parts.value.items)) w ∙
        ap (λ y. whole_term whole (terms_view y.value.items)) p ∙ term;
    place = l ∙ place;
    next = subst (λ y. IsNext y f.answers c) (sym p) (subst (λ y. IsNext parts y c) (sym b) n);
    read = λ is_r. subst (λ y. HasRead (Runs (bare_setting x) calls k) y f.answers) (sym p)
        (subst (λ y. HasRead (Runs (bare_setting x) calls k) parts y) (sym b) (read is_r));
  }
  reads_right whole parts a loc (Done r) term keys place read (h, l) = record {
    answer = λ is_r ok. finished is_r (h ok);
    place = subst (λ y. IfOk r (λ p. partial_loc p ≡ y)) place l;
  }
    where
      finished : is_restricted (view t) ≡ true → (count a ≡ length parts.value.items) ×
          Makes x calls whole a (partial_answer r) → Runs (bare_setting x) calls (suc k) (view t) (partial_answer r)
      finished is_r all_made =
          let so_far = read is_r in
          let items = parts.value.items in
          let all : Parts (Runs (bare_setting x) calls k) (terms_view items) (Ok so_far.0) =
          so_far_all (Runs (bare_setting x) calls k) (terms_view items) _ so_far.0 so_far.2
          (none_left items (count a) all_made.0) in
          let rule : Rule (bare_setting x) calls (Runs (bare_setting x) calls k) (whole_term whole (terms_view items))
          (partial_answer r) =
          whole_answers (bare_setting x) calls (Runs (bare_setting x) calls k) whole items a so_far.0 (partial_answer r)
          keys all_made.0 so_far.1 all all_made.1 in
          subst (λ u. Runs (bare_setting x) calls (suc k) u (partial_answer r)) term rule

  begun_read : (parts : frames.SharedParts) (a : Answers) → Are a [] → count a ≡ 0 → HasRead (Runs (bare_setting x) calls k) parts a
  begun_read parts a none zero_count = (
    [],
    none,
    subst (λ n. shapes.SoFar (Runs (bare_setting x) calls k) (terms_view parts.value.items)
        (terms_view (drop n parts.value.items)) []) (sym zero_count)
        (so_far_none (Runs (bare_setting x) calls k) (terms_view parts.value.items)),
  )

  begun_right : (loc : Option Loc) (s : NextPart) → loc ≡ expr_loc t → Begun x calls (view t) loc s →
      Resumes (IsRight x calls) (WaitsForParts x calls) k t s
  begun_right loc s place b =
      reads_right b.whole b.parts b.answers loc s b.term b.keys place
      (λ is_r. begun_read b.parts b.answers b.none.0 b.none.1) b.reads

  -- an expression that begins
  pub begins_right : (loc : Option Loc) (s : NextPart) → loc ≡ expr_loc t → StartsParts x calls (view t) loc s →
      Resumes (IsRight x calls) (WaitsForParts x calls) k t s
  begins_right loc (Wait f c) place b = begun_right loc (Wait f c) place b
  begins_right loc (Done r) place (b, l) = record {
    answer = λ is_r ok. (begun_right loc (Done r) place (b ok)).answer is_r ok;
    place = subst (λ y. IfOk r (λ p. partial_loc p ≡ y)) place l;
  }

-- ---- on with an answer

-- what an answer is right of has a level, in which a literal is its value
pub literal_runs : (s : Setting) (calls : StoredCalls) (k : ℕ) (t : Term) (p : model.PartialValue) →
    Runs s calls k t (answers p) → (l : Literal) → Runs s calls k (literal l) (answers (model.value (plain_represented l)))
literal_runs s calls zero t p h l = absurd (answers_is_not_fails p model.recursion_limit h)
literal_runs s calls (suc k) t p h l = refl

-- the answers of the first parts, after one more and those of the literals that follow
pub grown_read : (May : MayAnswer) (x : world.Extensions) (calls : StoredCalls) (f : PartsFrame) (p : PartialValue)
    (s : NextPart) (c : Term) (rest : Terms) →
    ((l : Literal) → May (literal l) (answers (model.value (plain_represented l)))) → HasRead May f.parts f.answers →
    parts_left f.parts f.answers ≡ one_term c rest → May c (answers (partial_view p)) → (h : Continued x calls f p s) →
    HasRead May f.parts h.answers
grown_read May x calls f p s c rest literals read next gives h =
    let items = f.parts.value.items in
    let all = terms_view items in
    let ps = read.0 ++ partial_view p ∷ [] in
    let now : shapes.SoFar May all (parts_behind f.parts f.answers) ps =
    so_far_more May all (parts_left f.parts f.answers) (parts_behind f.parts f.answers) c read.0 (partial_view p) read.2
    (next ∙ ap (one_term c) (sym (left_after items (count f.answers) c rest next))) gives in
    let literals_now : shapes.SoFar May all (literals_then h.literals (parts_left f.parts h.answers)) ps =
    subst (λ ts. shapes.SoFar May all ts ps) h.follow now in (
      read.0 ++ partial_view p ∷ literal_answers h.literals,
      h.one_more read.0 read.1,
      subst (shapes.SoFar May all (parts_left f.parts h.answers))
          (append_assoc read.0 (partial_view p ∷ []) (literal_answers h.literals))
          (so_far_literals May all (parts_left f.parts h.answers) h.literals ps literals literals_now),
    )

-- this failure of the part is right
abbrev pub IsRightFailure : world.Extensions → StoredCalls → ℕ → Expr → Failure → Type 0
IsRightFailure x calls k c e =
    is_restricted (view c) ≡ true → fails e ≢ fails out_of_memory → Runs (bare_setting x) calls k (view c) (fails e)

module _ (x : world.Extensions) (calls : StoredCalls) (k : ℕ) (f : PartsFrame) (t c : Expr)
    (w : WaitsForParts x calls k f t c) where
  part_restricted : is_restricted (view t) ≡ true → is_restricted (view c) ≡ true
  part_restricted is_r =
      let items = f.parts.value.items in
      let whole : is_restricted (whole_term f.whole (terms_view items)) ≡ true = ap is_restricted w.term ∙ is_r in
      next_restricted items (count f.answers) (view c) w.next.0 (parts_restricted f.whole items f.keys whole) w.next.1

  -- the failure of a part is the whole's
  pub failure_upward : (e : Failure) (r : Result PartialValue EvaluationError) → IsRightFailure x calls k c e →
      partial_answer r ≡ fails e → IsRight x calls (suc k) t r
  failure_upward e r right is = record {
    answer = λ is_r ok.
        let no_memory : fails e ≢ fails out_of_memory = λ y. ok (is ∙ y) in
        let items = f.parts.value.items in
        let so_far = w.read is_r in
        let parts : Parts (Runs (bare_setting x) calls k) (terms_view items) (Err e) =
        so_far_fails (Runs (bare_setting x) calls k)
        (terms_view items) _ w.next.0 (view c) so_far.0 e
        so_far.2 w.next.1 (right (part_restricted is_r) no_memory) in
        let rule : Rule (bare_setting x) calls (Runs (bare_setting x) calls k) (whole_term f.whole (terms_view items)) (fails e) =
        whole_fails (bare_setting x) calls (Runs (bare_setting x) calls k) f.whole items e f.keys parts in
        subst (λ b. Runs (bare_setting x) calls (suc k) (view t) b) (sym is)
        (subst (λ u. Runs (bare_setting x) calls (suc k) u (fails e)) w.term rule);
    place = no_place (expr_loc t) r e is;
  }

  continued_read : (p : PartialValue) (s : NextPart) → IsRight x calls k c (Ok p) →
      (more : Continued x calls f p s) → is_restricted (view t) ≡ true →
      HasRead (Runs (bare_setting x) calls k) f.parts more.answers
  continued_read p s right more is_r =
      let gives : Runs (bare_setting x) calls k (view c) (answers (partial_view p)) =
      right.answer (part_restricted is_r) (answers_is_not_fails (partial_view p) out_of_memory) in
      grown_read (Runs (bare_setting x) calls k) x calls f p s (view c) w.next.0
      (literal_runs (bare_setting x) calls k (view c) (partial_view p) gives) (w.read is_r) w.next.1 gives more

  continued_right : (p : PartialValue) (s : NextPart) → IsRight x calls k c (Ok p) → Continued x calls f p s →
      Resumes (IsRight x calls) (WaitsForParts x calls) k t s
  continued_right p s right more =
      reads_right x calls k t f.whole f.parts more.answers f.loc s
      w.term f.keys w.place (continued_read p s right more) more.reads

  pub goes_on_right : (y : Result PartialValue EvaluationError) (s : NextPart) → IsRight x calls k c y →
      ContinuesParts x calls f y s → Resumes (IsRight x calls) (WaitsForParts x calls) k t s
  goes_on_right (Ok p) (Wait g d) right more = continued_right p (Wait g d) right more
  goes_on_right (Ok p) (Done r) right (more, l) = record {
    answer = λ is_r ok. (continued_right p (Done r) right (more ok)).answer is_r ok;
    place = subst (λ z. IfOk r (λ q. partial_loc q ≡ z)) w.place l;
  }
  goes_on_right (Err e) (Wait g d) right more = absurd more
  goes_on_right (Err e) (Done r) right more = failure_upward (failure_of e) r right.answer more

-- ---- the laws of the loop

pub right_limit : (x : world.Extensions) (calls : StoredCalls) (t : Expr) → IsRight x calls 0 t (Err limit_error)
right_limit x calls t = record { answer = λ is_r ok. refl; place = tt }

pub right_out_of_memory : (x : world.Extensions) (calls : StoredCalls) (k : ℕ) (t : Expr) → IsRight x calls k t (Err out_of_memory_error)
right_out_of_memory x calls k t = record { answer = λ is_r ok. absurd (ok refl); place = tt }

pub limit_ends : ends_all (Err limit_error) ≡ true
limit_ends = refl

pub right_upward : (x : world.Extensions) (calls : StoredCalls) (k : ℕ) (f : PartsFrame) (t c : Expr)
    (a : Result PartialValue EvaluationError) → ends_all a ≡ true → WaitsForParts x calls k f t c → IsRight x calls k c a →
    IsRight x calls (suc k) t a
right_upward x calls k f t c (Ok p) ends w right = absurd (cc)
right_upward x calls k f t c (Err e) ends w right =
    failure_upward x calls k f t c w (failure_of e) (Err e) right.answer refl

pub some_left : (f : PartsFrame) → 1 ≤ left_of f
some_left f = let h = f.waits in omega arith

pub some_most : 1 ≤ 2 ^ 64 + 1
some_most = omega arith

-- no frame has more parts left than a vector can have
pub left_below : (f : PartsFrame) → left_of f < 2 ^ 64 + 1
left_below f = let h = f.parts.value.small in let l = f.parts.value.ok in omega arith

pub below_any : (s : NextPart) → Below left_of (2 ^ 64 + 1) s
below_any (Done r) = tt
below_any (Wait f c) = left_below f

fewer_after : (len before after more : ℕ) → before < len → after ≡ suc before + more → len - after < len - before
fewer_after len before after more h is = omega (arith, h, is)

-- with whatever is stored
module _ (x : world.Extensions) (calls : StoredCalls) where
  pub goes_on_fewer : (f : PartsFrame) (y : Result PartialValue EvaluationError) (s : NextPart) → ContinuesParts x calls f y s →
      Fewer left_of f s
  goes_on_fewer f (Ok p) (Done r) more = tt
  goes_on_fewer f (Ok p) (Wait g c) more =
      let (w, parts, now, l, n) = more.reads in
      let counted : count g.answers ≡ suc (count f.answers) + length more.literals = ap count now ∙ more.counted in
      subst (λ v. length v.value.items - count g.answers < length f.parts.value.items - count f.answers) (sym parts)
      (fewer_after (length f.parts.value.items) (count f.answers) (count g.answers) (length more.literals)
      f.waits counted)
  goes_on_fewer f (Err e) (Wait g c) more = absurd more
  goes_on_fewer f (Err e) (Done r) more = tt

  -- ---- what the steps say

  pub begins : (whole : Whole) (parts : frames.SharedParts) (a : Answers) (loc : Option Loc) (t : Term) (s : NextPart) →
      whole_term whole (terms_view parts.value.items) ≡ t → HasKeys whole (length parts.value.items) →
      Are a [] × (count a ≡ 0) → Reads x calls whole parts a loc s → StartsParts x calls t loc s
  begins whole parts a loc t (Wait f c) term keys none reads =
      record { whole = whole; parts = parts; answers = a; term = term; keys = keys; none = none; reads = reads }
  begins whole parts a loc t (Done r) term keys none reads = (
    λ ok. record { whole = whole; parts = parts; answers = a; term = term; keys = keys; none = none; reads = reads },
    reads.1,
  )

  pub continues : (f : PartsFrame) (p : PartialValue) (one a : Answers) (s : NextPart) →
      ((ps : List model.PartialValue) → Are f.answers ps → Are one (ps ++ partial_view p ∷ [])) → count one ≡
      suc (count f.answers) → AreBehind f.parts.value.items one a →
      Reads x calls f.whole f.parts a f.loc s → ContinuesParts x calls f (Ok p) s
  continues f p one a s one_more counted follow reads = goes_on s reads
    where
      items : List Expr
      items = f.parts.value.items

      more : Behind items one a
      more = behind items one a follow

      with_literals : (ps : List model.PartialValue) → Are f.answers ps →
          Are a (ps ++ partial_view p ∷ literal_answers more.literals)
      with_literals ps are =
          subst (Are a) (append_assoc ps (partial_view p ∷ []) (literal_answers more.literals))
          (more.answers (ps ++ partial_view p ∷ []) (one_more ps are))

      continued : (y : NextPart) → Reads x calls f.whole f.parts a f.loc y → Continued x calls f p y
      continued y h = record {
        answers = a;
        literals = more.literals;
        follow = ap (λ n. terms_view (drop n items)) (sym counted) ∙ more.follow;
        one_more = with_literals;
        counted = more.counted ∙ ap (λ n. n + length more.literals) counted;
        reads = h;
      }

      goes_on : (y : NextPart) → Reads x calls f.whole f.parts a f.loc y → ContinuesParts x calls f (Ok p) y
      goes_on (Wait g c) h = continued (Wait g c) h
      goes_on (Done r) h = (λ ok. continued (Done r) h, h.1)

-- ---- expressions without parts

pub literal_right : (x : world.Extensions) (calls : StoredCalls) (k : ℕ) (t : Expr) (l : Literal)
    (r : Result PartialValue EvaluationError) → view t ≡ literal l →
    AnswersWith r (answers (model.value (plain_represented l))) → IfOk r (λ p. partial_loc p ≡ expr_loc t) →
    IsRight x calls (suc k) t r
literal_right x calls k t l r is answer place = record {
  answer = λ is_r ok. subst (λ u. Runs (bare_setting x) calls (suc k) u (partial_answer r)) (sym is) (answer ok);
  place = place;
}

pub unknown_right : (x : world.Extensions) (calls : StoredCalls) (k : ℕ) (t : Expr) (n : Text)
    (ty : Option ValueType) (r : Result PartialValue EvaluationError) →
    view t ≡ unknown n ty → AnswersWith r (answers (model.residual (view t))) →
    IfOk r (λ p. partial_loc p ≡ expr_loc t) →
    IsRight x calls (suc k) t r
unfolding mapped
unknown_right x calls k t n ty r is answer place = record {
  answer = λ is_r ok. subst (λ u. Runs (bare_setting x) calls (suc k) u (partial_answer r)) (sym is)
      (answer ok ∙ ap (λ u. answers (model.residual u)) is);
  place = place;
}

pub not_restricted_right : (x : world.Extensions) (calls : StoredCalls) (k : ℕ) (t : Expr) (e : EvaluationError) →
    is_restricted (view t) ≡ false →
    IsRight x calls (suc k) t (Err e)
not_restricted_right x calls k t e not = record { answer = λ is_r. absurd (cc); place = tt }
