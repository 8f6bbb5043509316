-- What becomes of a request by its parts.
use Rattle.std.proofs.Common.{◌≡◌, ℕ, List, [], ◌∷◌, Option, Some, Ok, sym, ap, ◌∙◌, subst, codes}
use Rattle.json.specs.Json.{Json}
use Rattle.cedar_model.specs.Terms.{Text, EntityName, Term}
use Rattle.cedar_model.specs.World as world
use Rattle.cedar_model.specs.Rules.{StoredCalls}
use Rattle.cedar_requests.specs.declared.context.Context.{Context}
use Rattle.cedar_requests.specs.declared.entry.EntityUIDEntry.{EntityUIDEntry}
use Rattle.cedar_requests.specs.declared.entry.EntityUIDEntry.TheVariants as entries
use Rattle.cedar_text_lexer.specs.declared.errors.ReadError.{ReadError}
use Rattle.cedar_text_lexer.specs.declared.errors.ReadError.TheVariants as reading
use Rattle.cedar_text_parser.specs.Paths.{IsPathRefused}
use Rattle.cedar_text_parser.specs.Reading.{IsWithin}
use Rattle.cedar_json_reader.specs.declared.errors.JsonError.{JsonError}
use Rattle.cedar_json_reader.specs.declared.errors.JsonError.TheVariants as errors
use Rattle.cedar_json_reader.specs.declared.errors.RefusalReason.{RefusalReason}
use Rattle.cedar_json_reader.specs.Paths.{Step, at_key}
use Rattle.cedar_json_reader.specs.Refusals.{Said, IsRefusal, IsRefusedAt, IsUnder, IsMemory}
use Rattle.cedar_json_reader.specs.NamedEntities.{IsNoEntity, expected, too_deep, IsNoEntityText, IsTold, IsNamedAt, IsUnnamedAt}
use Rattle.cedar_json_reader.specs.SaidContexts.{IsContextOf, IsContextRefusal}
use Rattle.cedar_json_reader.specs.SaidRequests.{object_said, context_at, IsKnownAs, IsEntryAt, IsGivenContext, AreUnnamed, no_principal, no_action, no_resource}
use Rattle.cedar_json_reader.specs.SaidRequests.{all_named, IsRequestRefusal, no_request, no_entity, no_context}

no_text_at : (t : Text) (reason : RefusalReason) (e : JsonError) → IsNoEntity t reason → IsRefusedAt [] reason e → IsNoEntityText t [] e
no_text_at t reason errors.Syntax is h = h
no_text_at t reason errors.DuplicateKey is h = h
no_text_at t reason (errors.Refused p r) is h = (h.0, subst (λ (q : RefusalReason). IsNoEntity t q) (sym h.1) is)
no_text_at t reason (errors.Evaluation p x) is h = h
no_text_at t reason (errors.Memory m) is h = tt

no_text_memory : (t : Text) (e : JsonError) → IsMemory e → IsNoEntityText t [] e
no_text_memory t errors.Syntax h = h
no_text_memory t errors.DuplicateKey h = h
no_text_memory t (errors.Refused p r) h = absurd h
no_text_memory t (errors.Evaluation p x) h = h
no_text_memory t (errors.Memory m) h = tt

-- an error of reading, and what is told of it
pub no_text : (t : Text) (r : ReadError) (e : JsonError) → IsPathRefused t r → IsWithin t r → IsTold r e → IsNoEntityText t [] e
no_text t reading.Memory e is within h = no_text_memory t e h
no_text t (reading.Expected w k s u) e is within h = no_text_at t _ e (expected is within) h
no_text t (reading.TooDeep n s u) e is within h = no_text_at t _ e (too_deep is within) h

-- the same, seen from the object
pub no_text_under : (t : Text) (there : List Step) (k : Step) (d e : JsonError) → IsNoEntityText t there d → IsUnder k d e → IsNoEntityText t (k ∷ there) e
no_text_under t there k d errors.Syntax h u = subst (λ (x : JsonError). IsNoEntityText t there x) u h
no_text_under t there k d errors.DuplicateKey h u = subst (λ (x : JsonError). IsNoEntityText t there x) u h
no_text_under t there k errors.Syntax (errors.Refused q r) h u = absurd u
no_text_under t there k errors.DuplicateKey (errors.Refused q r) h u = absurd u
no_text_under t there k (errors.Refused p s) (errors.Refused q r) h u =
    (u.0 ∙ ap (λ (ss : List Step). k ∷ ss) h.0, subst (λ (x : RefusalReason). IsNoEntity t x) (sym u.1) h.1)
no_text_under t there k (errors.Evaluation p x) (errors.Refused q r) h u = absurd u
no_text_under t there k (errors.Memory m) (errors.Refused q r) h u = absurd u
no_text_under t there k errors.Syntax (errors.Evaluation q x) h u = absurd u
no_text_under t there k errors.DuplicateKey (errors.Evaluation q x) h u = absurd u
no_text_under t there k (errors.Refused p s) (errors.Evaluation q x) h u = absurd u
no_text_under t there k (errors.Evaluation p y) (errors.Evaluation q x) h u = absurd h
no_text_under t there k (errors.Memory m) (errors.Evaluation q x) h u = absurd u
no_text_under t there k d (errors.Memory m) h u = tt

-- the entity of a request is the one that was read
pub entry_named : (k : Text) (j : Json) (e : EntityName) (i : EntityUIDEntry) → IsNamedAt k j e → IsKnownAs e i → IsEntryAt k j i
entry_named k j e (entries.Known u l) is h = subst (λ (n : EntityName). IsNamedAt k j n) (sym h) is
entry_named k j e (entries.Unknown t l) is h = h

-- and so is its context
pub context_given : (x : world.Extensions) (calls : StoredCalls) (n : ℕ) (s : Said Term) (c : Context) (o : Option Context)
    → o ≡ Some c → IsContextOf x calls n s c → IsGivenContext x calls n s o
context_given x calls n s c o is h = subst (λ (p : Option Context). IsGivenContext x calls n s p) (sym is) h

-- which of the three names no entity
pub principal_unnamed : (j : Json) (e : JsonError) → IsUnnamedAt (codes "principal") j e → AreUnnamed j e
principal_unnamed j e h = no_principal h

pub action_unnamed : (j : Json) (p : EntityName) (e : JsonError) → IsNamedAt (codes "principal") j p → IsUnnamedAt (codes "action") j e → AreUnnamed j e
action_unnamed j p e n h = no_action p n h

pub resource_unnamed : (j : Json) (p a : EntityName) (e : JsonError) → IsNamedAt (codes "principal") j p → IsNamedAt (codes "action") j a
    → IsUnnamedAt (codes "resource") j e → AreUnnamed j e
resource_unnamed j p a e n m h = no_resource p a n m h

-- why there is no request
pub request_refused : (x : world.Extensions) (calls : StoredCalls) (n : ℕ) (j : Json) (e : JsonError) → IsRefusal (object_said j) e → IsRequestRefusal x calls n j e
request_refused x calls n j e h = no_request h

pub request_unnamed : (x : world.Extensions) (calls : StoredCalls) (n : ℕ) (j : Json) (e : JsonError) → object_said j ≡ Ok j → AreUnnamed j e → IsRequestRefusal x calls n j e
request_unnamed x calls n j e is h = no_entity is h

pub request_without_context : (x : world.Extensions) (calls : StoredCalls) (n : ℕ) (j : Json) (p a r : EntityName) (e : JsonError) → object_said j ≡ Ok j
    → IsNamedAt (codes "principal") j p → IsNamedAt (codes "action") j a → IsNamedAt (codes "resource") j r
    → IsContextRefusal x calls n (context_at j) (at_key (codes "context") ∷ []) e → IsRequestRefusal x calls n j e
request_without_context x calls n j p a r e is f g i h = no_context is (all_named p a r f g i) h

pub ruleset requests =
    (no_text, no_text_under, entry_named, context_given, principal_unnamed, action_unnamed, resource_unnamed, request_refused, request_unnamed, request_without_context)
