-- What the JSON of a context says, and what becomes of it.
use Rattle.std.specs.Prelude.{◌≡◌, ⊤, ℕ, List, [], Option, Some, None, Ok, Err}
use Rattle.json.specs.Json.{Json, Members}
use Rattle.json.specs.Find.{as_object}
use Rattle.cedar_model.specs.Terms.{Term}
use Rattle.cedar_model.specs.World as world
use Rattle.cedar_model.specs.Rules.{StoredCalls}
use Rattle.cedar_requests.specs.declared.context.Context.{Context}
use Rattle.cedar_requests.specs.declared.errors.ContextCreationError.{ContextCreationError}
use Rattle.cedar_requests.specs.declared.errors.ContextCreationError.TheVariants as creations
use Rattle.cedar_requests.specs.Creations.{IsCreated}
use Rattle.cedar_errors.specs.declared.evaluator.err.EvaluationError.{EvaluationError}
use Rattle.cedar_json_reader.specs.declared.errors.JsonError.{JsonError}
use Rattle.cedar_json_reader.specs.declared.errors.JsonError.TheVariants as errors
use Rattle.cedar_json_reader.specs.declared.errors.RefusalReason.TheVariants as reasons
use Rattle.cedar_json_reader.specs.declared.paths.JsonPath.{JsonPath}
use Rattle.cedar_json_reader.specs.Paths.{Step, path_view}
use Rattle.cedar_json_reader.specs.Refusals.{Said, refused, IsEvaluationAt, IsMemory}
use Rattle.cedar_json_reader.specs.Said.{record_said, said_members}

-- the record of an object's members
abbrev pub record_in : Option Members → Said Term
record_in None = refused reasons.NotAnObject
record_in (Some ms) = record_said (said_members ms)

abbrev pub context_said : Json → Said Term
context_said j = record_in (as_object j)

-- with these extensions and so many levels the record that is said is evaluated to this context
abbrev pub IsContextOf : world.Extensions → StoredCalls → ℕ → Said Term → Context → Type 0
IsContextOf x calls n (Ok t) c = IsCreated x calls n t (Ok c)
IsContextOf x calls n (Err r) c = ⊥

-- and this is the error of its evaluation, there
abbrev pub IsFailedContext : world.Extensions → StoredCalls → ℕ → Said Term → List Step → JsonPath → EvaluationError → Type 0
IsFailedContext x calls n (Ok t) there path e = (path_view path ≡ there) × IsCreated x calls n t (Err (creations.Evaluation e))
IsFailedContext x calls n (Err r) there path e = ⊥

-- why there is no context there: nothing is said, its evaluation fails, or memory ran out
abbrev pub IsContextRefusal : world.Extensions → StoredCalls → ℕ → Said Term → List Step → JsonError → Type 0
IsContextRefusal x calls n s there errors.Syntax = ⊥
IsContextRefusal x calls n s there errors.DuplicateKey = ⊥
IsContextRefusal x calls n s there (errors.Refused path reason) = s ≡ Err (record { path = path_view path; reason = reason })
IsContextRefusal x calls n s there (errors.Evaluation path e) = IsFailedContext x calls n s there path e
IsContextRefusal x calls n s there (errors.Memory e) = ⊤

-- what is told of an error of a creation; for private clauses
abbrev pub IsUncreated : ContextCreationError → JsonError → Type 0
IsUncreated (creations.NotARecord r) e = ⊤
IsUncreated (creations.Evaluation r) e = IsEvaluationAt [] r e
IsUncreated (creations.ExpressionConstruction r) e = ⊤
IsUncreated (creations.Memory r) e = IsMemory e
