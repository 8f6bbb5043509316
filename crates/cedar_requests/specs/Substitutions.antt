-- What is answered where values are put into a context, against the model's steps.
use Rattle.std.specs.Prelude.{◌≡◌, ◌≢◌, ℕ, true, List, [], ◌∷◌, ◌++◌, Result, Ok, Err, IfOk}
use Rattle.std.specs.declared.alloc.Global.{Global}
use Rattle.std.specs.declared.rc.RcStr.{RcStr}
use Rattle.std.specs.declared.vec.Vec.{Vec}
use Rattle.cedar_model.specs.Terms.{Term, Terms, record_of}
use Rattle.cedar_model.specs.World.{World, Functions}
use Rattle.cedar_model.specs.World as world
use Rattle.cedar_model.specs.Failures.{out_of_memory, PartialValue, Answer, answers, fails}
use Rattle.cedar_model.specs.Settings.{ContextPart, absent_context, known_context, residual_context, Setting}
use Rattle.cedar_model.specs.Shapes.{are_restricted_at}
use Rattle.cedar_model.specs.Rules.{StoredCalls, MayAnswer, Parts, Meets}
use Rattle.cedar_model.specs.Agreement.{AgreesWithContext, IsFaithfulContext, FitsContext}
use Rattle.cedar_model.specs.Agreement.{AgreesWithFunctions, AnswerFaithfully}
use Rattle.cedar_model.specs.Headline.{CompletesMap}
use Rattle.cedar_model.specs.Refusals.{Refusal, context_fails}
use Rattle.cedar_model.specs.Chains.{Mapping, substituted_at, SubstitutesTo}
use Rattle.cedar_expressions.specs.View.{terms_view}
use Rattle.cedar_expressions.specs.Mappings.{mapping_of}
use Rattle.cedar_values.specs.Sound.{Placed}
use Rattle.cedar_errors.specs.declared.evaluator.err.EvaluationError.{EvaluationError}
use Rattle.cedar_errors.specs.Failures.{failure_of}
use Rattle.cedar_restricted.specs.declared.answers.Answers.{Answers}
use Rattle.cedar_restricted.specs.declared.answers.Answers.TheVariants as answereds
use Rattle.cedar_restricted.specs.Keys.{texts_of, fields_named}
use Rattle.cedar_restricted.specs.Parts.{Are, record_made}
use Rattle.cedar_restricted.specs.Evaluations.{IsBare, IsAnswerWithin}
use Rattle.cedar_requests.specs.declared.context.Context.{Context}
use Rattle.cedar_requests.specs.declared.context.pairs.ResidualPairs.{ResidualPairs}
use Rattle.cedar_requests.specs.Contexts.{context_view, context_part_value, residual_fields}

-- the values that a map has for unknowns
abbrev pub values_for : List (RcStr Global × Placed) → Mapping
values_for es = mapping_of (λ (v : Placed). v.what) es

-- the record that a context is, or the error
abbrev pub context_answer : Result Context EvaluationError → Answer
context_answer (Ok c) = answers (context_part_value c)
context_answer (Err e) = fails (failure_of e)

-- the record of these expressions with the values in it
abbrev pub record_with : Mapping → ResidualPairs → Term
record_with m r = record_of (substituted_at m (residual_fields r))

-- the context, or the step's refusal that its error is
abbrev pub context_result : Result Context EvaluationError → Result ContextPart Refusal
context_result (Ok c) = Ok (context_view c)
context_result (Err e) = Err (context_fails (failure_of e))

-- in this setting a step makes this of the context, running out of memory aside
abbrev pub IsSubstituted : Setting → StoredCalls → ℕ → Mapping → ContextPart → Result Context EvaluationError → Type 0
IsSubstituted s calls levels m c r =
    context_result r ≢ Err (context_fails out_of_memory) → SubstitutesTo s calls levels m c (context_result r)

-- a residual is answered by what its record, with the values in it, is evaluated to within so many levels; else the
-- context stays
abbrev pub IsSubstitutedWithin : Setting → StoredCalls → ℕ → Mapping → ContextPart → Result Context EvaluationError →
    Type 0
IsSubstitutedWithin s calls levels m absent_context r = context_result r ≡ Ok absent_context
IsSubstitutedWithin s calls levels m (known_context fs) r = context_result r ≡ Ok (known_context fs)
IsSubstitutedWithin s calls levels m (residual_context fs) r =
    Meets (IsAnswerWithin s calls levels (record_of (substituted_at m fs))) (context_answer r)

-- a step makes this of the context in each setting that has these extensions
abbrev pub IsStepOfContext : world.Extensions → StoredCalls → ℕ → Mapping → ContextPart →
    Result Context EvaluationError → Type 0
IsStepOfContext x calls levels m c r = (s : Setting) → s.extensions ≡ x → IsSubstituted s calls levels m c r

-- a residual is evaluated again with these extensions, whatever else is in the setting
abbrev pub IsEvaluatedAgain : world.Extensions → StoredCalls → ℕ → Mapping → ContextPart →
    Result Context EvaluationError → Type 0
IsEvaluatedAgain x calls levels m c r = (s : Setting) → IsBare x s → IsSubstitutedWithin s calls levels m c r

-- the world agrees with the context and fits it, and its values are faithful
pub record CompletesContext (x : world.Extensions) (ans : Functions) (w : World) (c : ContextPart) : Type 0 where
  pub agrees : AgreesWithContext x ans w c
  pub fits : FitsContext x ans w c
  pub faithful : IsFaithfulContext x ans c

-- a world that completes the context and the map completes the context that is answered, whatever else is in it
abbrev pub KeepsCompletions : world.Extensions → StoredCalls → Mapping → ContextPart → Result Context EvaluationError →
    Type 0
KeepsCompletions x calls m c r =
    (ans : Functions) (w : World) → AgreesWithFunctions ans calls → AnswerFaithfully x ans calls →
    CompletesContext x ans w c → CompletesMap x ans w m → IfOk r (λ d. CompletesContext x ans w (context_view d))

-- ---- part by part

-- these are the answers of all expressions in turn, or this is the first error
abbrev pub AreAnswered : MayAnswer → Terms → Result Answers EvaluationError → Type 0
AreAnswered May ts (Ok a) = (ps : List PartialValue) × Are a ps × Parts May ts (Ok ps)
AreAnswered May ts (Err e) = failure_of e ≢ out_of_memory → Parts May ts (Err (failure_of e))

-- these are the answers before and that of the next expression, or this is its error
abbrev pub IsAnsweredNext : MayAnswer → Term → Answers → Result Answers EvaluationError → Type 0
IsAnsweredNext May t before (Ok after) =
    (p : PartialValue) × May t (answers p) × ((ps : List PartialValue) → Are before ps → Are after (ps ++ p ∷ []))
IsAnsweredNext May t before (Err e) = failure_of e ≢ out_of_memory → May t (fails (failure_of e))

-- the context is the record of these answers under the keys
abbrev pub IsRecordOf : Vec (RcStr Global) Global → Answers → Context → Type 0
IsRecordOf ks a c = answers (context_part_value c) ≡ record_made ks a

-- where something is left of them, that record is restricted
abbrev pub IsRestrictedRecord : Vec (RcStr Global) Global → Answers → Type 0
IsRestrictedRecord ks (answereds.Values vs) = Unit {0}
IsRestrictedRecord ks (answereds.Mixed m) =
    are_restricted_at (fields_named (texts_of ks.items) (terms_view m.exprs.items)) ≡ true
