-- Where the elements of an evaluated set stand: each where the part stands of which it is the value.
use Rattle.std.specs.Prelude.{◌≡◌, ◌≢◌, true, ℕ, zero, suc, ◌<◌, ◌++◌, List, [], ◌∷◌, length, drop, get_or}
use Rattle.std.specs.Prelude.{Result, Ok, Err, IfOk}
use Rattle.std.proofs.Common.{refl, sym, ap, ◌∙◌, subst, arith}
use Rattle.cedar_model.specs.Terms.{Terms, Literal, literal, set_of}
use Rattle.cedar_model.specs.Values.{set_represented}
use Rattle.cedar_model.specs.Sets.{canonical_set}
use Rattle.cedar_model.specs.Failures as model
use Rattle.cedar_model.specs.World as world
use Rattle.cedar_model.specs.Rules.{StoredCalls}
use Rattle.cedar_expressions.specs.declared.expr.Expr.{Expr}
use Rattle.cedar_expressions.specs.View.{view, expr_loc}
use Rattle.cedar_expressions.specs.Nodes.{parts_of}
use Rattle.cedar_values.specs.Sound.{Placed, whats, firsts, inside_each}
use Rattle.cedar_values.specs.declared.partial_value.PartialValue.{PartialValue}
use Rattle.cedar_values.specs.declared.partial_value.PartialValue.TheVariants as partials
use Rattle.cedar_values.specs.Residuals.{partial_view, partial_loc, partial_inside, IfValue}
use Rattle.cedar_errors.specs.declared.evaluator.err.EvaluationError.{EvaluationError}
use Rattle.cedar_frames.specs.declared.machine.Transition.TheVariants.{Done, Wait}
use Rattle.cedar_frames.specs.Frames.{Resumes}
use Rattle.cedar_restricted.specs.declared.answers.Answers.{Answers}
use Rattle.cedar_restricted.specs.declared.answers.Answers.TheVariants as answereds
use Rattle.cedar_restricted.specs.declared.parts.PartsFrame.{PartsFrame}
use Rattle.cedar_restricted.specs.declared.whole.Whole.TheVariants as wholes
use Rattle.cedar_restricted.specs.Parts.{count, Are}
use Rattle.cedar_restricted.specs.Literals.{IsOfLiteral, AreOfLiterals, AreBehind}
use Rattle.cedar_restricted.specs.Evaluations.{ends_all}
use Rattle.cedar_restricted.specs.Frames.{NextPart, IsRight, WaitsForParts}

-- ---- elements

-- each value is that of a part, in turn, and stands where the part does; there may be more parts
abbrev pub AreOfFirst : (Expr → Placed → Type 0) → List Expr → List Placed → Type 0
AreOfFirst Of es [] = Unit {0}
AreOfFirst Of [] (v ∷ vs) = ⊥
AreOfFirst Of (e ∷ es) (v ∷ vs) = (v.loc ≡ expr_loc e) × Of e v × AreOfFirst Of es vs

-- the value is the set of values of these parts, each where its part stands: of equal ones the first stays
pub record IsSetOf (Of : Expr → Placed → Type 0) (es : List Expr) (v : Placed) : Type 0 where
  pub values : List Placed
  pub each : AreOfFirst Of es values
  pub all : length values ≡ length es
  pub what : v.what ≡ set_represented (canonical_set (whats values))
  pub inside : v.inside ≡ inside_each (firsts values)

-- where the expression is a set, each element of its value stands where the part does of which it is the value; and so
-- for parts that are sets, n sets deep
abbrev pub ElementsStand : ℕ → Expr → Placed → Type 0
ElementsStand zero e v = Unit {0}
ElementsStand (suc n) e v = (ts : Terms) → view e ≡ set_of ts → IsSetOf (ElementsStand n) (parts_of e) v

-- the same of what an expression is answered
abbrev pub AnswerStands : Expr → Result PartialValue EvaluationError → Type 0
AnswerStands e r = (n : ℕ) → IfOk r (λ p. IfValue p (ElementsStand n e))

-- ---- in turn

-- it is a copy of the part with this number
pub record IsPart (es : List Expr) (n : ℕ) (c : Expr) : Type 0 where
  pub below : n < length es
  pub seen : view c ≡ view (get_or es n c)
  pub place : expr_loc c ≡ expr_loc (get_or es n c)
  pub parts : parts_of c ≡ parts_of (get_or es n c)

-- the answers so far, where they are values, are those of the first parts
abbrev pub FirstStand : ℕ → List Expr → Answers → Type 0
FirstStand n es (answereds.Values vs) = AreOfFirst (ElementsStand n) es vs.items
FirstStand n es (answereds.Mixed m) = Unit {0}

-- the set of these parts waits in the frame for this one
pub record SetWaits (es : List Expr) (f : PartsFrame) (c : Expr) : Type 0 where
  pub whole : f.whole ≡ wholes.Set
  pub parts : f.parts.value.items ≡ es
  pub next : IsPart es (count f.answers) c
  pub first : (n : ℕ) → FirstStand n es f.answers

-- what comes next of the set of these parts
abbrev pub SetLeads : List Expr → NextPart → Type 0
SetLeads es (Wait f c) = SetWaits es f c
SetLeads es (Done r) = (n : ℕ) → IfOk r (λ p. IfValue p (IsSetOf (ElementsStand n) es))

-- where the expression is a set, it waits in the frame for this part
abbrev pub FrameStands : PartsFrame → Expr → Expr → Type 0
FrameStands f t c = (ts : Terms) → view t ≡ set_of ts → SetWaits (parts_of t) f c

-- what comes next of an expression, where it is a set
abbrev pub StepStands : Expr → NextPart → Type 0
StepStands e s = (ts : Terms) → view e ≡ set_of ts → SetLeads (parts_of e) s

-- what a set's frame goes on to with the answer of the part that it waits for
abbrev pub SetGoesOn : PartsFrame → Result PartialValue EvaluationError → NextPart → Type 0
SetGoesOn f r s =
    (es : List Expr) (c : Expr) → SetWaits es f c →
    ((n : ℕ) → IfOk r (λ p. IfValue p (λ v. (v.loc ≡ expr_loc c) × ElementsStand n c v))) → SetLeads es s

-- ---- answers and one more

abbrev pub AreWith : Answers → PartialValue → Answers → Type 0
AreWith (answereds.Values vs) (partials.Value v) (answereds.Values ws) = ws.items ≡ vs.items ++ v ∷ []
AreWith (answereds.Values vs) (partials.Value v) (answereds.Mixed m) = ⊥
AreWith (answereds.Values vs) (partials.Residual r) (answereds.Values ws) = ⊥
AreWith (answereds.Values vs) (partials.Residual r) (answereds.Mixed m) = Unit {0}
AreWith (answereds.Mixed k) p (answereds.Values ws) = ⊥
AreWith (answereds.Mixed k) p (answereds.Mixed m) = Unit {0}

-- one more answer, and behind it, where answers are values, those of the literals that follow its part
pub record GrowsWith (es : List Expr) (a : Answers) (p : PartialValue) (b : Answers) : Type 0 where
  pub one : Answers
  pub counted : count one ≡ suc (count a)
  pub answers : (ps : List model.PartialValue) → Are a ps → Are one (ps ++ partial_view p ∷ [])
  pub values : AreWith a p one
  pub follow : AreBehind es one b

-- the value is the set of these answers, which are values
abbrev pub IsMadeOf : Answers → Placed → Type 0
IsMadeOf (answereds.Values vs) v =
    (v.what ≡ set_represented (canonical_set (whats vs.items))) × (v.inside ≡ inside_each (firsts vs.items))
IsMadeOf (answereds.Mixed m) v = ⊥

-- ---- laws

-- what stands for an expression stands for one whose copy it is
pub stands_for : (n : ℕ) (c e : Expr) (v : Placed) → view c ≡ view e → parts_of c ≡ parts_of e → ElementsStand n c v →
    ElementsStand n e v
stands_for zero c e v seen parts h = tt
stands_for (suc n) c e v seen parts h =
    λ ts is. subst (λ es. IsSetOf (ElementsStand n) es v) parts (h ts (seen ∙ is))

-- what is answered to a copy
pub answer_for : (n : ℕ) (c e : Expr) (r : Result PartialValue EvaluationError) → view c ≡ view e →
    parts_of c ≡ parts_of e → IfOk r (λ p. IfValue p (ElementsStand n c)) → IfOk r (λ p. IfValue p (ElementsStand n e))
answer_for n c e (Ok (partials.Value v)) seen parts h = stands_for n c e v seen parts h
answer_for n c e (Ok (partials.Residual r)) seen parts h = tt
answer_for n c e (Err x) seen parts h = tt

-- one more
with_one : (n : ℕ) (es : List Expr) (vs : List Placed) (c : Expr) (v : Placed) → AreOfFirst (ElementsStand n) es vs →
    IsPart es (length vs) c → v.loc ≡ expr_loc c → ElementsStand n c v → AreOfFirst (ElementsStand n) es (vs ++ v ∷ [])
with_one n [] [] c v h part place stands = absurd (omega (arith, part.below))
with_one n (e ∷ es) [] c v h part place stands =
    (place ∙ part.place, stands_for n c e v part.seen part.parts stands, tt)
with_one n [] (w ∷ ws) c v h part place stands = absurd h
with_one n (e ∷ es) (w ∷ ws) c v (l, o, h) part place stands = (
  l,
  o,
  with_one n es ws c v h
      (record {
        below = let b = part.below in omega (arith, b);
        seen = part.seen;
        place = part.place;
        parts = part.parts;
      })
      place stands,
)

pub first_with : (n : ℕ) (es : List Expr) (a b : Answers) (c : Expr) (p : PartialValue) → AreWith a p b →
    FirstStand n es a → IsPart es (count a) c →
    IfValue p (λ v. (v.loc ≡ expr_loc c) × ElementsStand n c v) → FirstStand n es b
first_with n es (answereds.Values vs) (answereds.Values ws) c (partials.Value v) is h part (place, stands) =
    subst (AreOfFirst (ElementsStand n) es) (sym is) (with_one n es vs.items c v h part place stands)
first_with n es (answereds.Values vs) (answereds.Mixed m) c (partials.Value v) is h part stands = tt
first_with n es (answereds.Values vs) (answereds.Values ws) c (partials.Residual r) is h part stands = absurd is
first_with n es (answereds.Values vs) (answereds.Mixed m) c (partials.Residual r) is h part stands = tt
first_with n es (answereds.Mixed k) (answereds.Values ws) c p is h part stands = absurd is
first_with n es (answereds.Mixed k) (answereds.Mixed m) c p is h part stands = tt

literal_stands : (n : ℕ) (e : Expr) (v : Placed) → IsOfLiteral e v → ElementsStand n e v
literal_stands zero e v o = tt
literal_stands (suc n) e v o = λ ts is. absurd (no_set o.of ts (sym o.seen ∙ is))
  where
    no_set : (l : Literal) (ts : Terms) → literal l ≢ set_of ts
    no_set l ts h = cc

literals_stand : (n : ℕ) (es : List Expr) (vs : List Placed) → AreOfLiterals es vs → AreOfFirst (ElementsStand n) es vs
literals_stand n es [] h = tt
literals_stand n [] (v ∷ vs) h = absurd h
literals_stand n (e ∷ es) (v ∷ vs) (o, h) = (o.place, literal_stands n e v o, literals_stand n es vs h)

with_literals : (n : ℕ) (es : List Expr) (vs more : List Placed) → AreOfFirst (ElementsStand n) es vs →
    AreOfLiterals (drop (length vs) es) more → AreOfFirst (ElementsStand n) es (vs ++ more)
with_literals n es [] more h o = literals_stand n es more o
with_literals n [] (v ∷ vs) more h o = absurd h
with_literals n (e ∷ es) (v ∷ vs) more (l, of, h) o = (l, of, with_literals n es vs more h o)

-- and the values of the literals that follow
pub first_behind : (n : ℕ) (es : List Expr) (a b : Answers) → AreBehind es a b → FirstStand n es a → FirstStand n es b
first_behind n es (answereds.Values vs) (answereds.Values ws) grown h =
    subst (AreOfFirst (ElementsStand n) es) (sym grown.all) (with_literals n es vs.items grown.values h grown.each)
first_behind n es (answereds.Values vs) (answereds.Mixed m) grown h = tt
first_behind n es (answereds.Mixed k) (answereds.Values ws) grown h = absurd grown
first_behind n es (answereds.Mixed k) (answereds.Mixed m) grown h = tt

-- what all answers make is the set of their parts
made_of_all : (n : ℕ) (es : List Expr) (a : Answers) (v : Placed) → FirstStand n es a → count a ≡ length es →
    IsMadeOf a v → IsSetOf (ElementsStand n) es v
made_of_all n es (answereds.Values vs) v h all (what, inside) =
    record { values = vs.items; each = h; all = all; what = what; inside = inside }
made_of_all n es (answereds.Mixed m) v h all made = absurd made

value_what : (v w : Placed) → partial_view (partials.Value v) ≡ partial_view (partials.Value w) → v.what ≡ w.what
value_what v w h = cc

-- the same, put at another place
pub set_put : (Of : Expr → Placed → Type 0) (es : List Expr) (p q : PartialValue) → partial_view q ≡ partial_view p →
    partial_inside q ≡ partial_inside p → IfValue p (IsSetOf Of es) → IfValue q (IsSetOf Of es)
set_put Of es (partials.Value w) (partials.Value v) seen inside made = record {
  values = made.values;
  each = made.each;
  all = made.all;
  what = value_what v w seen ∙ made.what;
  inside = inside ∙ made.inside;
}
set_put Of es (partials.Residual r) (partials.Value v) seen inside made = absurd (cc)
set_put Of es p (partials.Residual r) seen inside made = tt

all_made : (n : ℕ) (es : List Expr) (a : Answers) (p : PartialValue) → FirstStand n es a → count a ≡ length es →
    IfValue p (IsMadeOf a) → IfValue p (IsSetOf (ElementsStand n) es)
all_made n es a (partials.Value v) h all made = made_of_all n es a v h all made
all_made n es a (partials.Residual r) h all made = tt

-- what they make, put at a place
pub set_placed : (es : List Expr) (a : Answers) (p q : PartialValue) → ((n : ℕ) → FirstStand n es a) → count a ≡ length es →
    IfValue p (IsMadeOf a) → partial_view q ≡ partial_view p → partial_inside q ≡ partial_inside p → (n : ℕ) →
    IfValue q (IsSetOf (ElementsStand n) es)
set_placed es a p q h all made seen inside n =
    set_put (ElementsStand n) es p q seen inside (all_made n es a p (h n) all made)

-- ---- the loop

-- the answer to a part, at its place
pub stood : (c : Expr) (r : Result PartialValue EvaluationError) → IfOk r (λ p. partial_loc p ≡ expr_loc c) →
    AnswerStands c r → (n : ℕ) → IfOk r (λ p. IfValue p (λ v. (v.loc ≡ expr_loc c) × ElementsStand n c v))
stood c (Ok (partials.Value v)) place stands n = (place, stands n)
stood c (Ok (partials.Residual r)) place stands n = tt
stood c (Err e) place stands n = tt

-- what a set is answered
pub set_answered : (t : Expr) (r : Result PartialValue EvaluationError) → StepStands t (Done r) → AnswerStands t r
set_answered t (Ok (partials.Value v)) h zero = tt
set_answered t (Ok (partials.Value v)) h (suc n) = λ ts is. h ts is n
set_answered t (Ok (partials.Residual r)) h n = tt
set_answered t (Err e) h n = tt

-- what a frame goes on to stands
pub goes_on_standing : (x : world.Extensions) (calls : StoredCalls) (k : ℕ) (f : PartsFrame) (t c : Expr)
    (r : Result PartialValue EvaluationError) (s : NextPart) → FrameStands f t c → IsRight x calls k c r →
    AnswerStands c r → SetGoesOn f r s → StepStands t s
goes_on_standing x calls k f t c r s waits right stands more =
    λ ts is. more (parts_of t) c (waits ts is) (stood c r right.place stands)

-- an answer that ends all is no value
pub ended_stands : (t : Expr) (r : Result PartialValue EvaluationError) → ends_all r ≡ true → AnswerStands t r
ended_stands t (Ok p) ends = absurd (cc)
ended_stands t (Err e) ends = λ n. tt

-- a step that leads to right answers, and whose elements stand
pub both_lead : (x : world.Extensions) (calls : StoredCalls) (k : ℕ) (t : Expr) (s : NextPart) →
    Resumes (IsRight x calls) (WaitsForParts x calls) k t s → StepStands t s →
    Resumes (λ j e r. IsRight x calls j e r × AnswerStands e r) (λ j f e c. WaitsForParts x calls j f e c × FrameStands f e c) k t s
both_lead x calls k t (Done r) right stands = (right, set_answered t r stands)
both_lead x calls k t (Wait f c) waits stands = (waits, stands)

-- the part that is looked at, as a copy
any_other : (es : List Expr) (n : ℕ) (d e : Expr) → n < length es → get_or es n d ≡ get_or es n e
any_other [] n d e h = absurd (omega (arith, h))
any_other (e ∷ es) zero d c h = refl
any_other (e ∷ es) (suc n) d c h = any_other es n d c (omega (arith, h))

pub part_copied : (es : List Expr) (n : ℕ) (e c : Expr) → n < length es → e ≡ get_or es n e → view c ≡ view e →
    expr_loc c ≡ expr_loc e → parts_of c ≡ parts_of e → IsPart es n c
part_copied es n e c below here seen place parts =
    let is : e ≡ get_or es n c = here ∙ any_other es n e c below in record {
      below = below;
      seen = seen ∙ ap view is;
      place = place ∙ ap expr_loc is;
      parts = parts ∙ ap parts_of is;
    }
