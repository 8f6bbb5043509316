-- Calls in trees that steps make, and where calls stand that are refused.
use Rattle.std.proofs.Common.{◌≡◌, ℕ, zero, suc, ◌+◌, ◌-◌, ◌<◌, ◌≤◌, List, [], ◌∷◌, ◌++◌, length, take, All, arith, refl}
use Rattle.std.proofs.Common.{sym, subst, ap, inl, inr, Option, None, Some, get_or, Result, Ok, Err, IfErr}
use Rattle.std.proofs.Math.Nat.{eq-or-lt_of_le}
use Rattle.std.proofs.lemmas.List.{take_more}
use Rattle.cedar_text_lexer.specs.Tokens.{IsTokens}
use Rattle.cedar_text_lexer.specs.Values.{Stands}
use Rattle.cedar_text_lexer.specs.Sequence.{start_at, end_at}
use Rattle.cedar_names.specs.declared.names.CallStyle.TheVariants.{FunctionStyle, MethodStyle}
use Rattle.cedar_functions.specs.Functions.{Knowledge}
use Rattle.cedar_text_syntax.specs.Places.{IsInOrder}
use Rattle.cedar_text_syntax.specs.Reading.{HasRead, has_read}
use Rattle.cedar_text_syntax.specs.Trees.{Tree, count, gathered, left_below, made, parts_of, FindParts, trees_from, trees}
use Rattle.cedar_text_syntax.specs.declared.steps.Bracketed.{Bracketed}
use Rattle.cedar_text_syntax.specs.declared.steps.Bracketed.TheVariants as brackets
use Rattle.cedar_text_syntax.specs.declared.steps.Step.{Step}
use Rattle.cedar_text_syntax.specs.declared.steps.What.{What}
use Rattle.cedar_text_syntax.specs.declared.steps.What.TheVariants as what
use Rattle.cedar_text_syntax.proofs.Ordered.{in_order}
use Rattle.cedar_text_parser.specs.Calls.{Callee, callee_at, method_callee, callee_of, IsKnownStep, AreKnownSteps}
use Rattle.cedar_text_parser.specs.Calls.{AllCallsAreKnown, EachCallsKnown, IsKnownCall, IsWhyUnknown, unknown_name}
use Rattle.cedar_text_parser.specs.Calls.{other_style, other_number, AreNamed, IsCallRefused, by_name, by_callee}
use Rattle.cedar_text_parser.specs.Calls.{AreCallsRefused, IsCalleeRefused, for_out_of_memory, for_why}
use Rattle.cedar_text_parser.specs.Reading.{IsPlaceWithin, IsNotParsed, in_call}
use Rattle.cedar_text_parser.specs.Sources.{Tokenized}
use Rattle.cedar_text_parser.specs.declared.errors.ParseError.{ParseError}
use Rattle.cedar_text_lexer.specs.declared.errors.ReadError.TheVariants as read
use Rattle.cedar_text_parser.specs.declared.words.MethodKind.{MethodKind}
use Rattle.cedar_text_parser.specs.declared.words.MethodKind.TheVariants.{Operator, IsEmpty, Function}
use Rattle.cedar_text_parser.specs.Wording.{method_of, word_at}
use Rattle.cedar_text_parser.proofs.Places.{token_within, refused_within}

-- ---- what steps make

count_gathered : (n : ℕ) (ts : List Tree) → n ≤ length ts → count (gathered n ts) ≡ n
count_gathered zero ts h = refl
count_gathered (suc n) [] h = absurd (omega (arith, h))
count_gathered (suc n) (t ∷ ts) h = ap suc (count_gathered n ts (omega (arith, h)))

gathered_known : (k : Knowledge) (source : Tokenized) (n : ℕ) (ts : List Tree) →
    EachCallsKnown k source ts → AllCallsAreKnown k source (gathered n ts)
gathered_known k source zero ts h = tt
gathered_known k source (suc n) [] h = tt
gathered_known k source (suc n) (t ∷ ts) h = (gathered_known k source n ts h.1, h.0)

left_known : (k : Knowledge) (source : Tokenized) (n : ℕ) (ts : List Tree) →
    EachCallsKnown k source ts → EachCallsKnown k source (left_below n ts)
left_known k source zero ts h = h
left_known k source (suc n) [] h = tt
left_known k source (suc n) (t ∷ ts) h = left_known k source n ts h.1

-- what a step makes calls known functions, where its parts do and what it calls is known
step_known : (k : Knowledge) (source : Tokenized) (w : What) (s e : ℕ) (ts : List Tree) →
    IsKnownStep k source w → parts_of w ≤ length ts → EachCallsKnown k source ts →
    EachCallsKnown k source (made w s e ts)
step_known k source (what.Leaf l) s e ts is low h = (tt, h)
step_known k source (what.Unary u) s e [] is low h = tt
step_known k source (what.Unary u) s e (p ∷ ts) is low h = h
step_known k source (what.Binary b) s e [] is low h = tt
step_known k source (what.Binary b) s e (q ∷ []) is low h = tt
step_known k source (what.Binary b) s e (q ∷ p ∷ ts) is low h = ((h.1.0, h.0), h.1.1)
step_known k source what.If s e [] is low h = tt
step_known k source what.If s e (r ∷ []) is low h = tt
step_known k source what.If s e (r ∷ q ∷ []) is low h = tt
step_known k source what.If s e (r ∷ q ∷ p ∷ ts) is low h = ((h.1.1.0, h.1.0, h.0), h.1.1.1)
step_known k source (what.Field i) s e [] is low h = tt
step_known k source (what.Field i) s e (p ∷ ts) is low h = h
step_known k source (what.Bracketed b n) s e ts is low h = (
  (
    subst (λ m. IsKnownCall k source b m) (sym (count_gathered n ts low)) is,
    gathered_known k source n ts h,
  ),
  left_known k source n ts h,
)

steps_known : (k : Knowledge) (source : Tokenized) (ts : List Tree) (steps : List Step) →
    AreKnownSteps k source steps → FindParts ts steps → EachCallsKnown k source ts →
    EachCallsKnown k source (trees_from ts steps)
steps_known k source ts [] is find h = h
steps_known k source ts (x ∷ xs) is find h =
    steps_known k source (made x.what x.start x.end ts) xs is.1 find.1
    (step_known k source x.what x.start x.end ts is.0 find.0 h)

-- what steps make calls known functions, where each step does
pub trees_known : (k : Knowledge) (source : Tokenized) (steps : List Step) →
    AreKnownSteps k source steps → FindParts [] steps → EachCallsKnown k source (trees steps)
trees_known k source steps is find = steps_known k source [] steps is find tt

one_more : (k : Knowledge) (source : Tokenized) (xs : List Step) (x : Step) →
    AreKnownSteps k source xs → IsKnownStep k source x.what → AreKnownSteps k source (xs ++ x ∷ [])
one_more k source [] x hs h = (h, tt)
one_more k source (y ∷ ys) x hs h = (hs.0, one_more k source ys x hs.1 h)

-- one step more was looked at
pub step_more : (k : Knowledge) (source : Tokenized) (steps : List Step) (i : ℕ) (d : Step) →
    i < length steps → IsKnownStep k source (get_or steps i d).what → AreKnownSteps k source (take i steps) →
    AreKnownSteps k source (take (i + 1) steps)
step_more k source steps i d lt h hs =
    rw (take_more steps i d lt) (one_more k source (take i steps) (get_or steps i d) hs h)

-- ---- where calls stand

-- a name begins before it ends, within the text
name_within : (source : Tokenized) → IsInOrder source.tokens → All (Stands source.text) source.tokens → (i k : ℕ) →
    i < k →
    k ≤ length source.tokens →
    (start_at source.tokens i ≤ end_at source.tokens (k - 1)) × (end_at source.tokens (k - 1) ≤ length source.text)
name_within source order stand i k lt le =
    let first = token_within source i stand (omega arith) in
    let last = token_within source (k - 1) stand (omega arith) in
    let low : i ≤ k - 1 = omega arith in
    elim (eq-or-lt_of_le low)
    as (λ _. (start_at source.tokens i ≤ end_at source.tokens (k - 1)) ×
    (end_at source.tokens (k - 1) ≤ length source.text)) [
      | inl same ↦ (subst (λ j. start_at source.tokens i ≤ end_at source.tokens j) same first.0, last.1)
      | inr before ↦
          let apart = order.apart i (k - 1) before (omega arith) in (omega (arith, first.0, apart, last.0), last.1)
    ]

-- so does the name of what is called
callee_within : (source : Tokenized) (c : Callee) → IsInOrder source.tokens → All (Stands source.text) source.tokens →
    (b : Bracketed) → AreNamed source.tokens b → callee_of source b ≡ Some c →
    (c.start ≤ c.end) × (c.end ≤ length source.text)
callee_within source c order stand brackets.Set named is = absurd (no_callee is)
  where
    no_callee : {d : Callee} → ◌≡◌ {A = Option Callee} None (Some d) → ⊥
    no_callee e = cc
callee_within source c order stand brackets.Record named is = absurd (no_callee is)
  where
    no_callee : {d : Callee} → ◌≡◌ {A = Option Callee} None (Some d) → ⊥
    no_callee e = cc
callee_within source c order stand (brackets.Call i k) named is =
    let same : callee_at source FunctionStyle i k ≡ c = cc in
    subst (λ (d : Callee). (d.start ≤ d.end) × (d.end ≤ length source.text)) same
    (name_within source order stand i k named.0 named.1)
callee_within source c order stand (brackets.Method i) named is = at (method_of (word_at source i)) is
  where
    at : (m : MethodKind) → method_callee source i m ≡ Some c → (c.start ≤ c.end) × (c.end ≤ length source.text)
    at (Operator op) e = let none : ◌≡◌ {A = Option Callee} None (Some c) = e in cc
    at IsEmpty e = let none : ◌≡◌ {A = Option Callee} None (Some c) = e in cc
    at Function e =
        let same : callee_at source MethodStyle i (i + 1) ≡ c = cc in
        subst (λ (d : Callee). (d.start ≤ d.end) × (d.end ≤ length source.text)) same
        (name_within source order stand i (i + 1) (omega arith) (omega (arith, named)))

why_within : {k : Knowledge} {c : Callee} {n : ℕ} {e : ParseError} (text : List ℕ) →
    (c.start ≤ c.end) × (c.end ≤ length text) → IsWhyUnknown k c n e → IsPlaceWithin text e
why_within text h (unknown_name is same near) = h
why_within text h (other_style is not same) = h
why_within text h (other_number is not same) = h

pub call_within : (k : Knowledge) (source : Tokenized) → IsTokens 0 source.text source.tokens →
    All (Stands source.text) source.tokens →
    {w : What} (e : ParseError) → IsCallRefused k source w e → IsPlaceWithin source.text e
call_within k source cut stand e (by_name {r} h) = refused_within source stand r h
call_within k source cut stand e (by_callee {b} {n} {c} is named called why) =
    why_within source.text (callee_within source c (in_order cut) stand b named called) why

-- ---- the whole

-- what is told of a call
pub whole_call_refused : {k : Knowledge} {source : Tokenized} {limit : ℕ} {steps : List Step}
    {e : ParseError} → IsTokens 0 source.text source.tokens → HasRead source.tokens limit (trees steps) →
    AreCallsRefused k source steps e →
    IsNotParsed k source.text e
whole_call_refused {k} {source} {limit} {steps} {e} cut h refused = at (trees steps) refl h
  where
    at : (ts : List Tree) → trees steps ≡ ts → HasRead source.tokens limit ts → IsNotParsed k source.text e
    at _ is (has_read derived low nested) = in_call cut derived is refused

-- ---- one call

-- what is told of a function that is called in brackets is told of the call
pub call_refused : {k : Knowledge} {source : Tokenized} (b : Bracketed) (n : ℕ) (c : Callee)
    (e : ParseError) → AreNamed source.tokens b → callee_of source b ≡ Some c → IsCalleeRefused k c n e →
    IsCallRefused k source (what.Bracketed b n) e
call_refused b n c _ named is for_out_of_memory = by_name {r = read.Memory} tt
call_refused b n c e named is (for_why h) = by_callee refl named is h

-- so is what an answer has
pub told_on : {T E : Type 0} {P : E → Type 0} (r : Result T E) (Q : E → Type 0) → ((e : E) → P e → Q e) → IfErr r P →
    IfErr r Q
told_on (Ok x) Q f h = tt
told_on (Err e) Q f h = f e h

-- the function that is called as a method
pub method_callee_is : (source : Tokenized) (i : ℕ) → method_of (word_at source i) ≡ Function →
    callee_of source (brackets.Method i) ≡ Some (callee_at source MethodStyle i (i + 1))
method_callee_is source i is = rw is refl
