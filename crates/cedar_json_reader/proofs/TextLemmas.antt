-- What a text says is what its JSON value says.
use Rattle.std.proofs.Common.{◌≡◌, ℕ, List, [], ◌∷◌, Some, None, Ok, Err, sym, subst, Option, codes}
use Rattle.cedar_json_reader.specs.Paths.{path_view}
use Rattle.std.specs.Prelude.{⊤, IsSomeAnd}
use Rattle.json.specs.Json.{Json, document}
use Rattle.json.specs.Find.{as_str, get}
use Rattle.json.specs.Strict.{HasUniqueKeys}
use Rattle.cedar_model.specs.Terms.{Text}
use Rattle.cedar_json_reader.specs.declared.errors.JsonError.{JsonError}
use Rattle.cedar_json_reader.specs.declared.errors.JsonError.TheVariants as errors
use Rattle.cedar_json_reader.specs.declared.errors.RefusalReason.{RefusalReason}
use Rattle.cedar_json_reader.specs.declared.errors.RefusalReason.TheVariants as reasons
use Rattle.cedar_json_reader.specs.Refusals.{Said, under, IsRefusal, IsRefusedAt}
use Rattle.cedar_json_reader.specs.JsonTexts.{Says, IsUnread, IsTextRefusal, IsTextError}
use Rattle.cedar_model.specs.Terms.{Term}
use Rattle.cedar_model.specs.World as world
use Rattle.cedar_model.specs.Rules.{StoredCalls}
use Rattle.cedar_json_reader.specs.Paths.{Step, at_key}
use Rattle.cedar_json_reader.specs.SaidContexts.{IsContextRefusal}
use Rattle.cedar_json_reader.specs.SaidEntities.{plain_uid_said}
use Rattle.cedar_json_reader.specs.NamedEntities.{IsNoEntityText, IsUnnamedBy, IsUnnamedIn}
use Rattle.cedar_json_reader.specs.SaidRequests.{AreUnnamed, no_principal, no_action, no_resource, IsRequestRefusal, no_request, no_entity, no_context, object_said, context_at}

pub text_says : {T : Type 0} (text : Text) (said : Json → Said T) (j : Json) (t : T) → document text ≡ Some j → HasUniqueKeys j → said j ≡ Ok t → Says text said t
text_says text said j t is unique h = subst (λ (o : Option Json). IsSomeAnd o (λ i. HasUniqueKeys i × (said i ≡ Ok t))) (sym is) (unique, h)

pub text_unread : {T : Type 0} (text : Text) (said : Json → Said T) (e : JsonError) → IsUnread text e → IsTextRefusal text said e
text_unread text said errors.Syntax h = h
text_unread text said errors.DuplicateKey h = h
text_unread text said (errors.Refused p r) h = absurd h
text_unread text said (errors.Evaluation p x) h = h
text_unread text said (errors.Memory m) h = tt

pub text_refused : {T : Type 0} (text : Text) (said : Json → Said T) (j : Json) (e : JsonError) → document text ≡ Some j → IsRefusal (said j) e → IsTextRefusal text said e
text_refused text said j errors.Syntax is h = absurd h
text_refused text said j errors.DuplicateKey is h = absurd h
text_refused text said j (errors.Refused p r) is h = subst (λ (o : Option Json). IsSomeAnd o (λ i. said i ≡ Err (record { path = path_view p; reason = r }))) (sym is) h
text_refused text said j (errors.Evaluation p x) is h = h
text_refused text said j (errors.Memory m) is h = tt

-- the error is none of reading the text
abbrev pub IsOfValue : JsonError → Type 0
IsOfValue errors.Syntax = ⊥
IsOfValue errors.DuplicateKey = ⊥
IsOfValue (errors.Refused p r) = ⊤
IsOfValue (errors.Evaluation p x) = ⊤
IsOfValue (errors.Memory m) = ⊤

pub error_of_value : (text : Text) (R : Json → JsonError → Type 0) (j : Json) (e : JsonError) → IsOfValue e → document text ≡ Some j → R j e → IsTextError text R e
error_of_value text R j errors.Syntax v is h = absurd v
error_of_value text R j errors.DuplicateKey v is h = absurd v
error_of_value text R j (errors.Refused p r) v is h = subst (λ (o : Option Json). IsSomeAnd o (λ i. R i (errors.Refused p r))) (sym is) h
error_of_value text R j (errors.Evaluation p x) v is h = subst (λ (o : Option Json). IsSomeAnd o (λ i. R i (errors.Evaluation p x))) (sym is) h
error_of_value text R j (errors.Memory m) v is h = tt

pub context_of_value : (x : world.Extensions) (calls : StoredCalls) (n : ℕ) (s : Said Term) (there : List Step) (e : JsonError) → IsContextRefusal x calls n s there e → IsOfValue e
context_of_value x calls n s there errors.Syntax h = h
context_of_value x calls n s there errors.DuplicateKey h = h
context_of_value x calls n s there (errors.Refused p r) h = tt
context_of_value x calls n s there (errors.Evaluation p y) h = tt
context_of_value x calls n s there (errors.Memory m) h = tt

refusal_of_value : {T : Type 0} (s : Said T) (e : JsonError) → IsRefusal s e → IsOfValue e
refusal_of_value s errors.Syntax h = h
refusal_of_value s errors.DuplicateKey h = h
refusal_of_value s (errors.Refused p r) h = tt
refusal_of_value s (errors.Evaluation p y) h = tt
refusal_of_value s (errors.Memory m) h = tt

pub part_of_value : (path : List Step) (r : RefusalReason) (e : JsonError) → IsRefusedAt path r e → IsOfValue e
part_of_value path r errors.Syntax h = h
part_of_value path r errors.DuplicateKey h = h
part_of_value path r (errors.Refused p q) h = tt
part_of_value path r (errors.Evaluation p y) h = tt
part_of_value path r (errors.Memory m) h = tt

name_of_value : (t : Text) (there : List Step) (e : JsonError) → IsNoEntityText t there e → IsOfValue e
name_of_value t there errors.Syntax h = h
name_of_value t there errors.DuplicateKey h = h
name_of_value t there (errors.Refused p r) h = tt
name_of_value t there (errors.Evaluation p y) h = tt
name_of_value t there (errors.Memory m) h = tt

member_of_value : (k : Text) (o : Option Text) (j : Json) (e : JsonError) → IsUnnamedBy k o j e → IsOfValue e
member_of_value k None j e h = refusal_of_value (under (at_key k) (plain_uid_said j)) e h
member_of_value k (Some t) j e h = name_of_value t (at_key k ∷ []) e h

unnamed_of_value : (k : Text) (o : Option Json) (e : JsonError) → IsUnnamedIn k o e → IsOfValue e
unnamed_of_value k None e h = part_of_value (at_key k ∷ []) reasons.MissingMember e h
unnamed_of_value k (Some j) e h = member_of_value k (as_str j) j e h

entities_of_value : (j : Json) (e : JsonError) → AreUnnamed j e → IsOfValue e
entities_of_value j e (no_principal h) = unnamed_of_value (codes "principal") (get (codes "principal") j) e h
entities_of_value j e (no_action p n h) = unnamed_of_value (codes "action") (get (codes "action") j) e h
entities_of_value j e (no_resource p a n m h) = unnamed_of_value (codes "resource") (get (codes "resource") j) e h

pub request_of_value : (x : world.Extensions) (calls : StoredCalls) (n : ℕ) (j : Json) (e : JsonError) → IsRequestRefusal x calls n j e → IsOfValue e
request_of_value x calls n j e (no_request h) = refusal_of_value (object_said j) e h
request_of_value x calls n j e (no_entity is h) = entities_of_value j e h
request_of_value x calls n j e (no_context is named h) = context_of_value x calls n (context_at j) (at_key (codes "context") ∷ []) e h

pub ruleset text_lemmas = (text_says, text_unread, text_refused)
