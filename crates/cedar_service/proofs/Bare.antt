-- What is made of a record, and why nothing is.
use Rattle.std.proofs.Common.{◌≡◌, refl, sym, subst, true, false, Ok, Err}
use Rattle.json.specs.Json.{Json}
use Rattle.cedar_model.specs.Terms.{Term}
use Rattle.cedar_model.specs.World as world
use Rattle.cedar_model.specs.Rules.{StoredCalls}
use Rattle.cedar_restricted.specs.Evaluations.{bare_setting}
use Rattle.cedar_requests.specs.declared.context.Context.{Context}
use Rattle.cedar_requests.specs.declared.errors.ContextCreationError.{ContextCreationError}
use Rattle.cedar_requests.specs.declared.errors.ContextCreationError.TheVariants as creations
use Rattle.cedar_requests.specs.Creations.{IsCreated, is_record}
use Rattle.cedar_json_reader.specs.declared.errors.JsonError.{JsonError}
use Rattle.cedar_json_reader.specs.declared.errors.JsonError.TheVariants as errors
use Rattle.cedar_json_reader.specs.Refusals.{Said, IsRefusal}
use Rattle.cedar_json_reader.specs.Said.{said}
use Rattle.cedar_json_reader.specs.SaidContexts.{context_said, IsContextOf}
use Rattle.cedar_service.specs.Asked.{levels, IsNoContext, unsaid, IsNoContextOf, is_none, fails_as, IsOfCreation}
use Rattle.cedar_service.specs.Faults.{IsOfJson}
use Rattle.cedar_service.proofs.Records.{as_context}

module _ (X : world.Extensions) (calls : StoredCalls) where
  record_made : (t : Term) (c : Context) → IsCreated X calls levels t (Ok c) → is_record t ≡ true
  record_made t c h = (h (bare_setting X) record { no_map = refl; has_extensions = refl }).0

  made_as : (s : Said Term) (t : Term) (c : Context) → s ≡ Ok t → IsCreated X calls levels t (Ok c)
      → IsContextOf X calls levels s c
  made_as s t c is made = subst (λ (x : Said Term). IsContextOf X calls levels x c) (sym is) made

  pub context_made : (j : Json) (t : Term) (c : Context) → said j ≡ Ok t → IsCreated X calls levels t (Ok c)
      → IsContextOf X calls levels (context_said j) c
  context_made j t c is made = made_as (context_said j) t c (as_context j t is (record_made t c made)) made

  pub uncreated : (t : Term) (e : ContextCreationError) → IsCreated X calls levels t (Err e) → IsOfCreation e
      → IsNoContextOf X calls t
  uncreated t (creations.NotARecord e) h of =
      is_none ((h (bare_setting X) record { no_map = refl; has_extensions = refl }).0)
  uncreated t (creations.Evaluation e) h of = fails_as e h
  uncreated t (creations.ExpressionConstruction e) h of =
      absurd (h (bare_setting X) record { no_map = refl; has_extensions = refl })
  uncreated t (creations.Memory e) h of = absurd of

  pub unsaid_json : (j : Json) (e : JsonError) → IsRefusal (said j) e → IsOfJson e → IsNoContext X calls j
  unsaid_json j errors.Syntax h of = absurd h
  unsaid_json j errors.DuplicateKey h of = absurd h
  unsaid_json j (errors.Refused p r) h of = unsaid _ h
  unsaid_json j (errors.Evaluation p e) h of = absurd h
  unsaid_json j (errors.Memory e) h of = absurd of
