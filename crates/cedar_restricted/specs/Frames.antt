-- What the frames of the evaluation wait for.
use Rattle.std.specs.Prelude.{◌≡◌, ◌≢◌, ℕ, suc, ◌+◌, ◌-◌, true, List, [], ◌∷◌, ◌++◌, length, drop, Option, Result, Ok, Err}
use Rattle.std.specs.Prelude.{IfOk}
use Rattle.std.specs.declared.alloc.Global.{Global}
use Rattle.std.specs.declared.rc.Rc.{Rc}
use Rattle.std.specs.declared.vec.Vec.{Vec}
use Rattle.cedar_model.specs.Terms.{Term, Terms, Literal, one_term}
use Rattle.cedar_model.specs.Failures as model
use Rattle.cedar_model.specs.Failures.{fails, out_of_memory}
use Rattle.cedar_model.specs.Shapes.{is_restricted}
use Rattle.cedar_model.specs.Rules.{StoredCalls, MayAnswer, Runs, Meets}
use Rattle.cedar_model.specs.World as world
use Rattle.cedar_names.specs.declared.names.Loc.{Loc}
use Rattle.cedar_expressions.specs.declared.expr.Expr.{Expr}
use Rattle.cedar_expressions.specs.View.{view, terms_view, expr_loc}
use Rattle.cedar_values.specs.declared.partial_value.PartialValue.{PartialValue}
use Rattle.cedar_values.specs.Residuals.{partial_view, partial_loc}
use Rattle.cedar_errors.specs.declared.evaluator.err.EvaluationError.{EvaluationError}
use Rattle.cedar_errors.specs.Failures.{failure_of}
use Rattle.cedar_frames.specs.Frames.{Resumes}
use Rattle.cedar_frames.specs.declared.machine.Transition.{Transition}
use Rattle.cedar_frames.specs.declared.machine.Transition.TheVariants.{Done, Wait}
use Rattle.cedar_restricted.specs.declared.answers.Answers.{Answers}
use Rattle.cedar_restricted.specs.declared.parts.PartsFrame.{PartsFrame}
use Rattle.cedar_restricted.specs.declared.whole.Whole.{Whole}
use Rattle.cedar_restricted.specs.Evaluations.{partial_answer, bare_setting}
use Rattle.cedar_restricted.specs.Parts.{whole_term, HasKeys, count, Are, Makes, SoFar}
use Rattle.cedar_restricted.specs.Literals.{literals_then, literal_answers}

-- what comes next of a set, a record or a call
abbrev pub NextPart : Type 0
NextPart = Transition PartsFrame Expr (Result PartialValue EvaluationError)

abbrev pub SharedParts : Type 0
SharedParts = Rc (Vec Expr Global) Global

-- the terms of the parts that have not answered yet
abbrev pub parts_left : SharedParts → Answers → Terms
parts_left parts answers = terms_view (drop (count answers) parts.value.items)

-- and of those behind the next one
abbrev pub parts_behind : SharedParts → Answers → Terms
parts_behind parts answers = terms_view (drop (suc (count answers)) parts.value.items)

-- this part answers next
abbrev pub IsNext : SharedParts → Answers → Expr → Type 0
IsNext parts answers c = (rest : Terms) × (parts_left parts answers ≡ one_term (view c) rest)

-- with these extensions, where stored functions may answer this: the next part, or what all answers make
abbrev pub Reads : world.Extensions → StoredCalls → Whole → SharedParts → Answers → Option Loc → NextPart → Type 0
Reads x calls whole parts answers loc (Wait f c) =
    (f.whole ≡ whole) × (f.parts ≡ parts) × (f.answers ≡ answers) × (f.loc ≡ loc) × IsNext parts answers c
Reads x calls whole parts answers loc (Done r) =
    (partial_answer r ≢ fails out_of_memory →
    (count answers ≡ length parts.value.items) × Makes x calls whole answers (partial_answer r)) ×
    IfOk r (λ p. partial_loc p ≡ loc)

-- the whole t stands at this place: its parts are read from the first on
pub record Begun (x : world.Extensions) (calls : StoredCalls) (t : Term) (loc : Option Loc) (s : NextPart) :
    Type 0 where
  pub whole : Whole
  pub parts : SharedParts
  pub answers : Answers
  pub term : whole_term whole (terms_view parts.value.items) ≡ t
  pub keys : HasKeys whole (length parts.value.items)
  pub none : Are answers [] × (count answers ≡ 0)
  pub reads : Reads x calls whole parts answers loc s

-- unless out of memory
abbrev pub StartsParts : world.Extensions → StoredCalls → Term → Option Loc → NextPart → Type 0
StartsParts x calls t loc (Wait f c) = Begun x calls t loc (Wait f c)
StartsParts x calls t loc (Done r) = (partial_answer r ≢ fails out_of_memory → Begun x calls t loc (Done r)) ×
    IfOk r (λ p. partial_loc p ≡ loc)

-- with one more answer, and those of the literals that follow its part, which are their values
pub record Continued (x : world.Extensions) (calls : StoredCalls) (f : PartsFrame) (p : PartialValue) (s : NextPart) :
    Type 0 where
  pub answers : Answers
  pub literals : List Literal
  pub follow : parts_behind f.parts f.answers ≡ literals_then literals (parts_left f.parts answers)
  pub one_more : (ps : List model.PartialValue) → Are f.answers ps →
      Are answers (ps ++ partial_view p ∷ literal_answers literals)
  pub counted : count answers ≡ suc (count f.answers) + length literals
  pub reads : Reads x calls f.whole f.parts answers f.loc s

-- with the next answer: the next part, or the whole, unless out of memory; an error is the whole's
abbrev pub ContinuesParts : world.Extensions → StoredCalls → PartsFrame → Result PartialValue EvaluationError → NextPart →
    Type 0
ContinuesParts x calls f (Ok p) (Wait g c) = Continued x calls f p (Wait g c)
ContinuesParts x calls f (Ok p) (Done r) = (partial_answer r ≢ fails out_of_memory → Continued x calls f p (Done r)) ×
    IfOk r (λ q. partial_loc q ≡ f.loc)
ContinuesParts x calls f (Err e) (Wait g c) = ⊥
ContinuesParts x calls f (Err e) (Done r) = partial_answer r ≡ fails (failure_of e)

-- ---- right answers

-- the answers so far are those of the first parts
abbrev pub HasRead : MayAnswer → SharedParts → Answers → Type 0
HasRead May parts answers =
    (ps : List model.PartialValue) × Are answers ps ×
    SoFar May (terms_view parts.value.items) (parts_left parts answers) ps

-- in the frame the expression waits for its part, where parts have so many levels
pub record WaitsForParts (x : world.Extensions) (calls : StoredCalls) (k : ℕ) (f : PartsFrame) (t c : Expr) : Type 0 where
  pub term : whole_term f.whole (terms_view f.parts.value.items) ≡ view t
  pub place : f.loc ≡ expr_loc t
  pub next : IsNext f.parts f.answers c
  pub read : is_restricted (view t) ≡ true → HasRead (Runs (bare_setting x) calls k) f.parts f.answers

-- the answer is right, with so many levels, and at the expression's location
pub record IsRight (x : world.Extensions) (calls : StoredCalls) (k : ℕ) (t : Expr)
    (r : Result PartialValue EvaluationError) : Type 0 where
  pub answer : is_restricted (view t) ≡ true → Meets (Runs (bare_setting x) calls k (view t)) (partial_answer r)
  pub place : IfOk r (λ p. partial_loc p ≡ expr_loc t)

-- the next step of an expression leads to right answers
abbrev pub Leads : world.Extensions → StoredCalls → ℕ → Expr → NextPart → Type 0
Leads x calls k t s = Resumes (IsRight x calls) (WaitsForParts x calls) k t s

-- how many parts have not answered yet, the one that the frame waits for included
abbrev pub left_of : PartsFrame → ℕ
left_of f = length f.parts.value.items - count f.answers
