-- What a text says is what its JSON value says.
use Rattle.std.proofs.Common.{◌≡◌, ℕ, Some, None, Ok, Err, sym, ap, ◌∙◌, subst, Option}
use Rattle.std.specs.Prelude.{IsSomeAnd}
use Rattle.json.specs.Json.{Json}
use Rattle.cedar_model.specs.Terms.{Text}
use Rattle.cedar_policy_json_reader.specs.declared.errors.PolicyJsonError.{PolicyJsonError}
use Rattle.cedar_policy_json_reader.specs.declared.errors.PolicyJsonError.TheVariants as errors
use Rattle.cedar_policy_json_reader.specs.Paths.{path_view}
use Rattle.cedar_policy_json_reader.specs.Refusals.{Said, Refusal, and_then, IsRefusal}
use Rattle.cedar_policy_json_reader.specs.Repeats.{keys_said}
use Rattle.cedar_policy_json_reader.proofs.Repeats.{unique_json}
use Rattle.cedar_policy_json_reader.specs.JsonTexts.{document_within, strictly, Says, IsUnreadWithin, IsTextRefusal}

pub text_says : {T : Type 0} (depth : ℕ) (text : Text) (said : Json → Said T) (j : Json) (t : T)
    → document_within depth text ≡ Some j → keys_said j ≡ Ok tt → said j ≡ Ok t → Says depth text said t
text_says depth text said j t is unique h =
    subst (λ (o : Option Json). IsSomeAnd o (λ i. strictly said i ≡ Ok t)) (sym is) (ap (and_then (λ u. said j)) unique ∙ h)

pub text_repeats : (depth : ℕ) (text : Text) (j : Json) (e : PolicyJsonError) → document_within depth text ≡ Some j → IsRefusal (keys_said j) e → IsUnreadWithin depth text e
text_repeats depth text j errors.Syntax is h = absurd h
text_repeats depth text j errors.DuplicateKey is h = h
text_repeats depth text j (errors.Refused p r) is h = subst (λ (o : Option Json). IsSomeAnd o (λ i. keys_said i ≡ Err (record { path = path_view p; reason = r }))) (sym is) h
text_repeats depth text j (errors.Memory m) is h = tt

then_refused : {T : Type 0} (said : Json → Said T) (r : Refusal) (o : Option Json) → IsSomeAnd o (λ i. keys_said i ≡ Err r) → IsSomeAnd o (λ i. strictly said i ≡ Err r)
then_refused said r None h = h
then_refused said r (Some j) h = ap (and_then (λ u. said j)) h

pub text_unread : {T : Type 0} (depth : ℕ) (text : Text) (said : Json → Said T) (e : PolicyJsonError) → IsUnreadWithin depth text e → IsTextRefusal depth text said e
text_unread depth text said errors.Syntax h = h
text_unread depth text said errors.DuplicateKey h = h
text_unread depth text said (errors.Refused p r) h = then_refused said (record { path = path_view p; reason = r }) (document_within depth text) h
text_unread depth text said (errors.Memory m) h = tt

pub text_refused : {T : Type 0} (depth : ℕ) (text : Text) (said : Json → Said T) (j : Json) (e : PolicyJsonError)
    → document_within depth text ≡ Some j → keys_said j ≡ Ok tt → IsRefusal (said j) e → IsTextRefusal depth text said e
text_refused depth text said j errors.Syntax is unique h = absurd h
text_refused depth text said j errors.DuplicateKey is unique h = h
text_refused depth text said j (errors.Refused p r) is unique h =
    subst (λ (o : Option Json). IsSomeAnd o (λ i. strictly said i ≡ Err (record { path = path_view p; reason = r }))) (sym is) (ap (and_then (λ u. said j)) unique ∙ h)
text_refused depth text said j (errors.Memory m) is unique h = tt

pub ruleset text_lemmas = (text_says, text_repeats, text_unread, text_refused, unique_json)
