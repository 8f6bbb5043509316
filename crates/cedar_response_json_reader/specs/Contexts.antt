-- The context that an expression is.
use Rattle.std.specs.Prelude.{◌≡◌, ◌≢◌, ◌⊎◌, ⊤, ℕ, Bool, true, false, MatchBool, [], ◌∷◌, Option, Some, None, is_some, bytes_eq}
use Rattle.std.specs.Prelude.{Ok, Err, codes}
use Rattle.cedar_model.specs.Terms.{Text, ValueType, Term}
use Rattle.cedar_model.specs.World as world
use Rattle.cedar_model.specs.Failures.{answers}
use Rattle.cedar_model.specs.Settings.{ContextPart, absent_context, context_value, Setting}
use Rattle.cedar_model.specs.Restricted.{first_disallowed}
use Rattle.cedar_model.specs.Rules.{StoredCalls}
use Rattle.cedar_policy_json_reader.specs.Paths.{at_key, path_view}
use Rattle.cedar_values.specs.Residuals.{partial_term}
use Rattle.cedar_requests.specs.Contexts.{context_part_value}
use Rattle.cedar_requests.specs.Creations.{IsCreated}
use Rattle.cedar_requests.specs.declared.context.Context.{Context}
use Rattle.cedar_requests.specs.declared.errors.ContextCreationError.{ContextCreationError}
use Rattle.cedar_requests.specs.declared.errors.ContextCreationError.TheVariants as creations
use Rattle.cedar_restricted.specs.Evaluations.{IsBare, IsAnswerWithin}
use Rattle.cedar_response_json_reader.specs.declared.errors.ResponseJsonError.{ResponseJsonError}
use Rattle.cedar_response_json_reader.specs.declared.errors.ResponseJsonError.TheVariants as errors
use Rattle.cedar_response_json_reader.specs.declared.errors.ResponseRefusal.TheVariants as reasons
use Rattle.cedar_response_json_reader.specs.Refusals.{IsRefusedAt, IsMemory}
use Rattle.cedar_response_json_reader.specs.Requests.{unknown_in}

-- whether it is the unknown of a context of which nothing is known
abbrev pub is_absent : Option (Text × Option ValueType) → Bool
is_absent None = false
is_absent (Some (n, None)) = bytes_eq n (codes "context")
is_absent (Some (n, Some t)) = false

-- it is not out of memory
abbrev pub IsNoMemory : ContextCreationError → Type 0
IsNoMemory (creations.NotARecord e) = ⊤
IsNoMemory (creations.Evaluation e) = ⊤
IsNoMemory (creations.ExpressionConstruction e) = ⊤
IsNoMemory (creations.Memory e) = ⊥

-- there is no context because of this error
abbrev pub IsNoneFor : ContextCreationError → ResponseJsonError → Type 0
IsNoneFor (creations.NotARecord e) r = IsRefusedAt (at_key (codes "context") ∷ []) reasons.NotAContext r
IsNoneFor (creations.Evaluation e) r = IsRefusedAt (at_key (codes "context") ∷ []) reasons.NotAContext r
IsNoneFor (creations.ExpressionConstruction e) r = IsRefusedAt (at_key (codes "context") ∷ []) reasons.NotAContext r
IsNoneFor (creations.Memory e) r = IsMemory r

-- with these extensions, whose functions may answer this, within so many levels
module _ (x : world.Extensions) (calls : StoredCalls) (n : ℕ) where
  -- what the record is evaluated to, which is written as this very record: each set in order, each element once
  abbrev pub IsRecordOf : Term → ContextPart → Type 0
  IsRecordOf t c =
      ((s : Setting) → IsBare x s → IsAnswerWithin s calls n t (answers (context_value c)))
      × (partial_term (context_value c) ≡ t)

  -- no context, where it is that unknown, and else what the record is evaluated to
  abbrev pub IsContextOf : Term → ContextPart → Type 0
  IsContextOf t c = MatchBool (is_absent (unknown_in t)) (c ≡ absent_context) (IsRecordOf t c)

  -- it is not restricted, or no record, or its evaluation fails, or it is evaluated to what is written in another way
  abbrev pub IsNone : Term → Type 0
  IsNone t =
      (is_some (first_disallowed t) ≡ true)
      ⊎ (((e : ContextCreationError) × IsCreated x calls n t (Err e) × IsNoMemory e)
      ⊎ ((c : Context) × IsCreated x calls n t (Ok c) × (partial_term (context_part_value c) ≢ t)))

  -- that is why there is no context, or memory ran out
  abbrev pub IsWhyNone : Term → ResponseJsonError → Type 0
  IsWhyNone t errors.Syntax = ⊥
  IsWhyNone t (errors.Refused path reason) =
      (path_view path ≡ at_key (codes "context") ∷ []) × (reason ≡ reasons.NotAContext) × IsNone t
  IsWhyNone t (errors.Memory e) = ⊤
