-- What is answered where a context is asked for, against the rules of restricted evaluation.
use Rattle.std.specs.Prelude.{◌≡◌, ◌≢◌, ◌≤◌, ℕ, Bool, true, false, List, Some, None, is_some, Result, Ok, Err, IfErr}
use Rattle.std.specs.Prelude.{codes}
use Rattle.std.specs.Rc.{rc_str_bytes}
use Rattle.std.specs.declared.alloc.Global.{Global}
use Rattle.std.specs.declared.rc.RcStr.{RcStr}
use Rattle.cedar_model.specs.Terms.{Term, record_of}
use Rattle.cedar_model.specs.Values.{record_represented}
use Rattle.cedar_model.specs.World as world
use Rattle.cedar_model.specs.Failures as model
use Rattle.cedar_model.specs.Failures.{out_of_memory, value, residual, answers, fails}
use Rattle.cedar_model.specs.Settings.{Setting}
use Rattle.cedar_model.specs.Rules.{StoredCalls, fields_of_record}
use Rattle.cedar_model.specs.Agreement.{height}
use Rattle.cedar_expressions.specs.declared.expr.Expr.{Expr}
use Rattle.cedar_expressions.specs.declared.errors.ExpressionConstructionError.{ExpressionConstructionError}
use Rattle.cedar_expressions.specs.declared.errors.ExpressionConstructionError.TheVariants as constructions
use Rattle.cedar_model.specs.Refusals.{first_repeated}
use Rattle.cedar_expressions.specs.Records.{fields_in_order, pairs_view, keys_view}
use Rattle.cedar_expressions.specs.View.{view}
use Rattle.cedar_errors.specs.Failures.{failure_of}
use Rattle.cedar_restricted.specs.Evaluations.{IsBare, IsAnswerWithin}
use Rattle.cedar_requests.specs.declared.context.Context.{Context}
use Rattle.cedar_requests.specs.declared.errors.ContextCreationError.{ContextCreationError}
use Rattle.cedar_requests.specs.declared.errors.ContextCreationError.TheVariants as refusals
use Rattle.cedar_requests.specs.Contexts.{context_part_value}
use Rattle.cedar_requests.specs.Errors.{IsAtLimit}

-- whether an expression is a record
abbrev pub is_record : Term → Bool
is_record t = is_some (fields_of_record t)

-- a record of values, or a residual that is a record
abbrev pub IsRecordPart : model.PartialValue → Type 0
IsRecordPart (value (record_represented fs)) = Unit {0}
IsRecordPart (value v) = ⊥
IsRecordPart (residual r) = is_record r ≡ true

-- the record's answer within so many levels, where stored functions may answer this, is this context or this error
abbrev pub IsOfRecord : Setting → StoredCalls → ℕ → Term → Result Context ContextCreationError → Type 0
IsOfRecord s calls n t (Ok c) = IsAnswerWithin s calls n t (answers (context_part_value c))
IsOfRecord s calls n t (Err (refusals.NotARecord e)) = ⊥
IsOfRecord s calls n t (Err (refusals.Evaluation e)) =
    IsAnswerWithin s calls n t (fails (failure_of e)) × (failure_of e ≢ out_of_memory)
IsOfRecord s calls n t (Err (refusals.ExpressionConstruction e)) = ⊥
IsOfRecord s calls n t (Err (refusals.Memory e)) = Unit {0}

-- the error is that this is no record
abbrev pub IsNoRecord : Term → ContextCreationError → Type 0
IsNoRecord t (refusals.NotARecord e) = (is_record t ≡ false) × (view e.expr ≡ t)
IsNoRecord t (refusals.Evaluation e) = ⊥
IsNoRecord t (refusals.ExpressionConstruction e) = ⊥
IsNoRecord t (refusals.Memory e) = Unit {0}

-- what is no record is refused, whatever is in it; a record is answered by what it is evaluated to
abbrev pub IsOfExpr : Setting → StoredCalls → ℕ → Term → Result Context ContextCreationError → Type 0
IsOfExpr s calls n t (Ok c) = (is_record t ≡ true) × IsOfRecord s calls n t (Ok c)
IsOfExpr s calls n t (Err (refusals.NotARecord e)) = IsNoRecord t (refusals.NotARecord e)
IsOfExpr s calls n t (Err (refusals.Evaluation e)) =
    (is_record t ≡ true) × IsOfRecord s calls n t (Err (refusals.Evaluation e))
IsOfExpr s calls n t (Err (refusals.ExpressionConstruction e)) = ⊥
IsOfExpr s calls n t (Err (refusals.Memory e)) = Unit {0}

-- the record of pairs, in byte order of their keys
abbrev pub record_of_pairs : List (RcStr Global × Expr) → Term
record_of_pairs ps = record_of (fields_in_order (pairs_view ps))

-- the error names this key, in a context
abbrev pub NamesKey : List (RcStr Global × Expr) → ExpressionConstructionError → Type 0
NamesKey ps (constructions.DuplicateKey key context) =
    (first_repeated (keys_view ps) ≡ Some (rc_str_bytes key)) × (context.now ≡ codes "in context")
NamesKey ps (constructions.Memory e) = ⊥

-- the first duplicate key is refused; else the record is answered by what it is evaluated to
abbrev pub IsOfPairs : Setting → StoredCalls → ℕ → List (RcStr Global × Expr) → Result Context ContextCreationError →
    Type 0
IsOfPairs s calls n ps (Ok c) =
    (first_repeated (keys_view ps) ≡ None) × IsOfRecord s calls n (record_of_pairs ps) (Ok c)
IsOfPairs s calls n ps (Err (refusals.NotARecord e)) = ⊥
IsOfPairs s calls n ps (Err (refusals.Evaluation e)) =
    (first_repeated (keys_view ps) ≡ None)
    × IsOfRecord s calls n (record_of_pairs ps) (Err (refusals.Evaluation e))
IsOfPairs s calls n ps (Err (refusals.ExpressionConstruction e)) = NamesKey ps e
IsOfPairs s calls n ps (Err (refusals.Memory e)) = Unit {0}

-- ---- where only extensions are given

-- within so many levels this is answered of the expression, whatever else is in the setting
abbrev pub IsCreated : world.Extensions → StoredCalls → ℕ → Term → Result Context ContextCreationError → Type 0
IsCreated x calls n t r = (s : Setting) → IsBare x s → IsOfExpr s calls n t r

-- and of the pairs
abbrev pub IsCreatedOfPairs : world.Extensions → StoredCalls → ℕ → List (RcStr Global × Expr) →
    Result Context ContextCreationError → Type 0
IsCreatedOfPairs x calls n ps r = (s : Setting) → IsBare x s → IsOfPairs s calls n ps r

-- an expression that is no higher than the limit never meets it
abbrev pub IsCreatedWithinLimit : ℕ → Term → Result Context ContextCreationError → Type 0
IsCreatedWithinLimit n t r = height t ≤ n → IfErr r (λ e. ¬ (IsAtLimit e))
