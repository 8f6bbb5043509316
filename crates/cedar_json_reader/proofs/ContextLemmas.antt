-- Why there is no context of a record.
use Rattle.std.proofs.Common.{◌≡◌, true, false, ℕ, List, [], ◌∷◌, Option, Some, None, Ok, Err, refl, sym, ap, ◌∙◌, subst}
use Rattle.cedar_model.specs.Terms.{Text, Term}
use Rattle.cedar_model.specs.World as world
use Rattle.cedar_model.specs.Rules.{StoredCalls, fields_of_record}
use Rattle.cedar_model.specs.Refusals.{first_repeated}
use Rattle.cedar_restricted.specs.Evaluations.{bare_setting}
use Rattle.cedar_requests.specs.declared.context.Context.{Context}
use Rattle.cedar_requests.specs.declared.errors.ContextCreationError.{ContextCreationError}
use Rattle.cedar_requests.specs.declared.errors.ContextCreationError.TheVariants as creations
use Rattle.cedar_requests.specs.Creations.{IsCreated, is_record}
use Rattle.json.specs.Json.{Members}
use Rattle.cedar_errors.specs.declared.evaluator.err.EvaluationError.{EvaluationError}
use Rattle.cedar_json_reader.specs.declared.errors.JsonError.{JsonError}
use Rattle.cedar_json_reader.specs.declared.errors.JsonError.TheVariants as errors
use Rattle.cedar_json_reader.specs.Paths.{Step, path_view}
use Rattle.cedar_json_reader.specs.declared.paths.JsonPath.{JsonPath}
use Rattle.cedar_json_reader.specs.Refusals.{Said, under, IsRefusal, IsUnder}
use Rattle.cedar_json_reader.specs.Said.{said_members, record_said, unique_said, keys_of_pairs}
use Rattle.cedar_json_reader.specs.SaidContexts.{record_in, IsContextOf, IsFailedContext, IsContextRefusal, IsUncreated}

-- what was said is a record
abbrev IsSaidRecord : Said Term → Type 0
IsSaidRecord (Ok t) = is_record t ≡ true
IsSaidRecord (Err r) = Unit {0}

unique_record : (o : Option Text) (ps : List (Text × Term)) (t : Term) → unique_said o ps ≡ Ok t → is_record t ≡ true
unfolding fields_of_record
unique_record None ps t h = subst IsSaidRecord h refl
unique_record (Some k) ps t h = absurd (cc)

said_record : (s : Said (List (Text × Term))) (t : Term) → record_said s ≡ Ok t → is_record t ≡ true
said_record (Ok ps) t h = unique_record (first_repeated (keys_of_pairs ps)) ps t h
said_record (Err r) t h = absurd (cc)

pub in_record : (o : Option Members) (t : Term) → record_in o ≡ Ok t → is_record t ≡ true
in_record None t h = absurd (cc)
in_record (Some ms) t h = said_record (said_members ms) t h

pub context_made : (x : world.Extensions) (calls : StoredCalls) (n : ℕ) (s : Said Term) (t : Term) (c : Context) → s ≡ Ok t → IsCreated x calls n t (Ok c) → IsContextOf x calls n s c
context_made x calls n s t c is h = subst (λ (r : Said Term). IsContextOf x calls n r c) (sym is) h

pub context_refused : (x : world.Extensions) (calls : StoredCalls) (n : ℕ) (s : Said Term) (there : List Step) (e : JsonError) → IsRefusal s e → IsContextRefusal x calls n s there e
context_refused x calls n s there errors.Syntax h = h
context_refused x calls n s there errors.DuplicateKey h = h
context_refused x calls n s there (errors.Refused p r) h = h
context_refused x calls n s there (errors.Evaluation p y) h = absurd h
context_refused x calls n s there (errors.Memory m) h = tt

of_record : (x : world.Extensions) (calls : StoredCalls) (n : ℕ) (t : Term) (c : ContextCreationError) (e : JsonError)
    → is_record t ≡ true → IsCreated x calls n t (Err c) → IsUncreated c e → IsContextRefusal x calls n (Ok t) [] e
of_record x calls n t (creations.NotARecord r) e is h u =
    let other : is_record t ≡ false = (h (bare_setting x) record { no_map = refl; has_extensions = refl }).0 in
    absurd (cc)
of_record x calls n t (creations.Evaluation r) errors.Syntax is h u = u
of_record x calls n t (creations.Evaluation r) errors.DuplicateKey is h u = u
of_record x calls n t (creations.Evaluation r) (errors.Refused p q) is h u = absurd u
of_record x calls n t (creations.Evaluation r) (errors.Evaluation p y) is h u =
    (u.0, subst (λ (z : EvaluationError). IsCreated x calls n t (Err (creations.Evaluation z))) (sym u.1) h)
of_record x calls n t (creations.Evaluation r) (errors.Memory m) is h u = tt
of_record x calls n t (creations.ExpressionConstruction r) e is h u = absurd (h (bare_setting x) record { no_map = refl; has_extensions = refl })
of_record x calls n t (creations.Memory r) errors.Syntax is h u = u
of_record x calls n t (creations.Memory r) errors.DuplicateKey is h u = u
of_record x calls n t (creations.Memory r) (errors.Refused p q) is h u = absurd u
of_record x calls n t (creations.Memory r) (errors.Evaluation p y) is h u = absurd u
of_record x calls n t (creations.Memory r) (errors.Memory m) is h u = tt

pub context_uncreated : (x : world.Extensions) (calls : StoredCalls) (n : ℕ) (s : Said Term) (t : Term) (c : ContextCreationError) (e : JsonError)
    → s ≡ Ok t → is_record t ≡ true → IsCreated x calls n t (Err c) → IsUncreated c e → IsContextRefusal x calls n s [] e
context_uncreated x calls n s t c e same is h u = subst (λ (r : Said Term). IsContextRefusal x calls n r [] e) (sym same) (of_record x calls n t c e is h u)

-- the same of a part
failed_under : (x : world.Extensions) (calls : StoredCalls) (n : ℕ) (s : Said Term) (there : List Step) (k : Step) (p q : JsonPath) (y z : EvaluationError)
    → IsFailedContext x calls n s there p y → (path_view q ≡ k ∷ path_view p) × (z ≡ y) → IsFailedContext x calls n (under k s) (k ∷ there) q z
failed_under x calls n (Ok t) there k p q y z h u =
    (u.0 ∙ ap (λ (ss : List Step). k ∷ ss) h.0, subst (λ (w : EvaluationError). IsCreated x calls n t (Err (creations.Evaluation w))) (sym u.1) h.1)
failed_under x calls n (Err r) there k p q y z h u = h

pub context_under : (x : world.Extensions) (calls : StoredCalls) (n : ℕ) (s : Said Term) (there : List Step) (k : Step) (d e : JsonError)
    → IsContextRefusal x calls n s there d → IsUnder k d e → IsContextRefusal x calls n (under k s) (k ∷ there) e
context_under x calls n s there k d errors.Syntax h u = subst (λ (z : JsonError). IsContextRefusal x calls n s there z) u h
context_under x calls n s there k d errors.DuplicateKey h u = subst (λ (z : JsonError). IsContextRefusal x calls n s there z) u h
context_under x calls n s there k errors.Syntax (errors.Refused q r) h u = absurd u
context_under x calls n s there k errors.DuplicateKey (errors.Refused q r) h u = absurd u
context_under x calls n s there k (errors.Refused p t) (errors.Refused q r) h u = ap (under k) h ∙ (λ i. Err (record { path = sym u.0 i; reason = sym u.1 i }))
context_under x calls n s there k (errors.Evaluation p y) (errors.Refused q r) h u = absurd u
context_under x calls n s there k (errors.Memory m) (errors.Refused q r) h u = absurd u
context_under x calls n s there k errors.Syntax (errors.Evaluation q z) h u = absurd u
context_under x calls n s there k errors.DuplicateKey (errors.Evaluation q z) h u = absurd u
context_under x calls n s there k (errors.Refused p t) (errors.Evaluation q z) h u = absurd u
context_under x calls n s there k (errors.Evaluation p y) (errors.Evaluation q z) h u = failed_under x calls n s there k p q y z h u
context_under x calls n s there k (errors.Memory m) (errors.Evaluation q z) h u = absurd u
context_under x calls n s there k d (errors.Memory m) h u = tt

pub made_under : (x : world.Extensions) (calls : StoredCalls) (n : ℕ) (s : Said Term) (k : Step) (c : Context) → IsContextOf x calls n s c → IsContextOf x calls n (under k s) c
made_under x calls n (Ok t) k c h = h
made_under x calls n (Err r) k c h = h

pub ruleset contexts = (context_made, context_refused, context_under, made_under)
