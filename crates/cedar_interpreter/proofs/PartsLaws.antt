-- The laws of sets, records and calls, whose parts are evaluated one after another.
use Rattle.std.specs.Prelude.{◌≡◌, ◌≢◌, ◌<◌, ℕ, suc, [], length, drop, Option, Ok}
use Rattle.std.proofs.Common.{refl, sym, ap, ◌∙◌, subst}
use Rattle.std.specs.declared.alloc.Global.{Global}
use Rattle.std.specs.declared.boxed.Box.{Box}
use Rattle.cedar_model.specs.Terms.{Term}
use Rattle.cedar_model.specs.Failures as model
use Rattle.cedar_model.specs.Failures.{Failure, Answer, answers, fails}
use Rattle.cedar_model.specs.World as world
use Rattle.cedar_model.specs.Settings.{Setting}
use Rattle.cedar_model.specs.Rules.{StoredCalls, Rule, Runs, Parts}
use Rattle.cedar_model.proofs.Injections.{answers_is_not_fails}
use Rattle.cedar_names.specs.declared.names.Loc.{Loc}
use Rattle.cedar_expressions.specs.declared.expr.Expr.{Expr}
use Rattle.cedar_expressions.specs.View.{view, terms_view}
use Rattle.cedar_values.specs.declared.partial_value.PartialValue.{PartialValue}
use Rattle.cedar_values.specs.Residuals.{partial_view}
use Rattle.cedar_frames.specs.declared.machine.Transition.TheVariants.{Done, Wait}
use Rattle.cedar_restricted.specs.declared.answers.Answers.{Answers}
use Rattle.cedar_restricted.specs.declared.parts.PartsFrame.{PartsFrame}
use Rattle.cedar_restricted.specs.declared.whole.Whole.{Whole}
use Rattle.cedar_restricted.specs.Evaluations.{partial_answer}
use Rattle.cedar_restricted.specs.Parts as shapes
use Rattle.cedar_restricted.specs.Parts.{whole_term, HasKeys, count, Are}
use Rattle.cedar_restricted.specs.Frames as restricted
use Rattle.cedar_restricted.specs.Frames.{NextPart, Reads, Continued, ContinuesParts, HasRead, parts_left, left_of}
use Rattle.cedar_restricted.specs.Laws.{goes_on_fewer, grown_read, literal_runs}
use Rattle.cedar_restricted.specs.Steps.{so_far_none, so_far_all, whole_answers, none_left}
use Rattle.cedar_interpreter.specs.declared.frame.Task.TheVariants as tasks
use Rattle.cedar_interpreter.specs.declared.frame.Task.{Task}
use Rattle.cedar_interpreter.specs.Endings.{ending_answer}
use Rattle.cedar_interpreter.specs.Tasks.{Next, WaitsForPart, WaitsFor, Starts, LeftFewer, task_left}
use Rattle.cedar_interpreter.specs.Parts.{IsTakenAs, IsTaken}

module _ (s : Setting) (calls : StoredCalls) (k : ℕ) (t : Term) (here : Option Loc) where
  abbrev May : Term → Answer → Type 0
  May = Runs s calls k

  waits_right : (whole : Whole) (ps : restricted.SharedParts) (a : Answers) (loc : Option Loc) (f : PartsFrame) (c : Expr) (task : Task) (d : Expr) →
      whole_term whole (terms_view ps.value.items) ≡ t → HasRead May ps a → Reads s.extensions calls whole ps a loc (Wait f c) →
      IsTakenAs f c task d → WaitsFor s calls k task t (view d)
  waits_right whole ps a loc f c (tasks.Parts g) d term read (w, p, b, l, next) (same, part) = record {
    term = ap (λ y. whole_term y.whole (terms_view y.parts.value.items)) same ∙ ap (λ y. whole_term y (terms_view f.parts.value.items)) w ∙ ap (λ y. whole_term whole (terms_view y.value.items)) p ∙ term;
    next = (next.0, ap (λ y. parts_left y.parts y.answers) same ∙ ap (λ y. parts_left y f.answers) p ∙ ap (λ y. parts_left ps y) b ∙ next.1 ∙ ap (λ y. Rattle.cedar_model.specs.Terms.one_term (view y) next.0) (sym part));
    read = subst (λ y. HasRead May y.parts y.answers) (sym same) (subst (λ y. HasRead May y f.answers) (sym p) (subst (λ y. HasRead May ps y) (sym b) read));
  }
  waits_right whole ps a loc f c (tasks.Other p) d term read h taken = absurd taken

  reads_right : (whole : Whole) (ps : restricted.SharedParts) (a : Answers) (loc : Option Loc) (x : NextPart) (n : Next) →
      whole_term whole (terms_view ps.value.items) ≡ t → HasKeys whole (length ps.value.items) → HasRead May ps a →
      Reads s.extensions calls whole ps a loc x → IsTaken here x n → Starts s calls k here t n
  reads_right whole ps a loc (Wait f c) (Wait g d) term keys read h (taken, place) =
      (waits_right whole ps a loc f c g.task d.value term read h taken, place)
  reads_right whole ps a loc (Wait f c) (Done o) term keys read h taken =
      subst (λ y. Starts s calls k here t (Done y)) (sym taken) (λ ok. absurd (ok refl), tt)
  reads_right whole ps a loc (Done r) (Wait g d) term keys read h taken = absurd taken
  reads_right whole ps a loc (Done r) (Done o) term keys read (h, l) (taken, place) = (
    λ ok.
        let is : ending_answer o ≡ partial_answer r = taken ok in
        let x = h (λ i. ok (is ∙ i)) in
        let items = ps.value.items in
        let all : Parts May (terms_view items) (Ok read.0) = so_far_all May (terms_view items) _ read.0 read.2 (none_left items (count a) x.0) in
        let rule : Rule s calls May (whole_term whole (terms_view items)) (partial_answer r) = whole_answers s calls May whole items a read.0 (partial_answer r) keys x.0 read.1 all x.1 in
        subst (λ b. Runs s calls (suc k) t b) (sym is) (subst (λ u. Runs s calls (suc k) u (partial_answer r)) term rule),
    place,
  )

  begun_read : (ps : restricted.SharedParts) (a : Answers) → Are a [] → count a ≡ 0 → HasRead May ps a
  begun_read ps a none zero_count =
      ([], none, subst (λ n. shapes.SoFar May (terms_view ps.value.items) (terms_view (drop n ps.value.items)) []) (sym zero_count) (so_far_none May (terms_view ps.value.items)))

  -- an expression that starts
  pub parts_start : (loc : Option Loc) (x : NextPart) (n : Next) → restricted.StartsParts s.extensions calls t loc x → IsTaken here x n → Starts s calls k here t n
  parts_start loc (Wait f c) n b taken =
      reads_right b.whole b.parts b.answers loc (Wait f c) n b.term b.keys (begun_read b.parts b.answers b.none.0 b.none.1) b.reads taken
  parts_start loc (Done r) (Done o) (b, l) taken = (
    λ ok.
        let begun = b (λ i. ok (taken.0 ok ∙ i)) in
        (reads_right begun.whole begun.parts begun.answers loc (Done r) (Done o) begun.term begun.keys (begun_read begun.parts begun.answers begun.none.0 begun.none.1) begun.reads taken).0 ok,
    taken.1,
  )
  parts_start loc (Done r) (Wait g d) b taken = absurd taken

  module _ (f : PartsFrame) (c : Term) (w : WaitsForPart s calls k f t c) where
    continued : (p : PartialValue) (x : NextPart) (n : Next) → Runs s calls k c (answers (partial_view p)) → Continued s.extensions calls f p x → IsTaken here x n → Starts s calls k here t n
    continued p x n gives h taken =
        let read : HasRead May f.parts h.answers = grown_read May s.extensions calls f p x c w.next.0 (literal_runs s calls k c (partial_view p) gives) w.read w.next.1 gives h in
        reads_right f.whole f.parts h.answers f.loc x n w.term f.keys read h.reads taken

    -- with the answer of the next part
    pub parts_continue : (p : PartialValue) (x : NextPart) (n : Next) → Runs s calls k c (answers (partial_view p)) → ContinuesParts s.extensions calls f (Ok p) x → IsTaken here x n → Starts s calls k here t n
    parts_continue p (Wait g d) n gives h taken = continued p (Wait g d) n gives h taken
    parts_continue p (Done r) (Done o) gives (h, l) (taken, place) =
        (λ ok. (continued p (Done r) (Done o) gives (h (λ i. ok (taken ok ∙ i))) (taken, place)).0 ok, place)
    parts_continue p (Done r) (Wait g d) gives h taken = absurd taken

taken_fewer : (f h : PartsFrame) (c : Expr) (task : Task) (d : Expr) → left_of h < left_of f → IsTakenAs h c task d → task_left task < left_of f
taken_fewer f h c (tasks.Parts g) d fewer (same, part) = subst (λ y. left_of y < left_of f) (sym same) fewer
taken_fewer f h c (tasks.Other p) d fewer taken = absurd taken

-- a frame that waits again has fewer parts left
pub parts_fewer : (X : world.Extensions) (calls : StoredCalls) (l : Option Loc) (f : Box PartsFrame Global) (p : PartialValue) (x : NextPart) (n : Next) → ContinuesParts X calls f.value (Ok p) x → IsTaken l x n → LeftFewer (tasks.Parts f) n
parts_fewer X calls l f p (Wait h c) (Wait g d) goes (taken, place) =
    taken_fewer f.value h c g.task d.value (goes_on_fewer X calls f.value (Ok p) (Wait h c) goes) taken
parts_fewer X calls l f p (Wait h c) (Done o) goes taken = tt
parts_fewer X calls l f p (Done r) (Done o) goes taken = tt
parts_fewer X calls l f p (Done r) (Wait g d) goes taken = absurd taken
