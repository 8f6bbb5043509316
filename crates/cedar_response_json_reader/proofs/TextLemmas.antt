-- What a text says is what its JSON value says.
use Rattle.std.proofs.Common.{◌≡◌, ℕ, ◌⊎◌, inl, inr, Some, None, Ok, sym, subst, Option}
use Rattle.std.specs.Prelude.{IsSomeAnd}
use Rattle.json.specs.Json.{Json}
use Rattle.json.specs.Strict.{HasUniqueKeys}
use Rattle.cedar_model.specs.Terms.{Text}
use Rattle.cedar_model.specs.World as world
use Rattle.cedar_model.specs.Rules.{StoredCalls}
use Rattle.cedar_policy_json_reader.specs.declared.errors.PolicyJsonError.{PolicyJsonError}
use Rattle.cedar_policy_json_reader.specs.declared.errors.PolicyJsonError.TheVariants as policies
use Rattle.cedar_policy_json_reader.specs.JsonTexts.{document_within, IsUnreadWithin}
use Rattle.cedar_policy_json_reader.specs.Paths.{path_view}
use Rattle.cedar_policy_json_reader.specs.Refusals as json
use Rattle.cedar_policy_json_reader.specs.Repeats.{keys_said}
use Rattle.cedar_response_json_reader.specs.declared.errors.ResponseJsonError.{ResponseJsonError}
use Rattle.cedar_response_json_reader.specs.declared.errors.ResponseJsonError.TheVariants as errors
use Rattle.cedar_response_json_reader.specs.Refusals.{Said, IsMemory, IsOfPolicies}
use Rattle.cedar_response_json_reader.specs.JsonTexts.{SaysSo, IsRefusedOf, IsTextRefusal}
use Rattle.cedar_response_json_reader.specs.Responses.{Told, IsWhyNotRead}
use Rattle.cedar_response_json_reader.proofs.Refused.{refused_of_policies}

pub text_says : (depth : ℕ) (text : Text) (holds : Json → Type 0) (j : Json) → document_within depth text ≡ Some j → HasUniqueKeys j → holds j → SaysSo depth text holds
text_says depth text holds j is unique h = subst (λ (o : Option Json). IsSomeAnd o (λ i. HasUniqueKeys i × holds i)) (sym is) (unique, h)

-- a key that comes twice is refused as the reader of policies refuses it
keys_refused : (why : Json → ResponseJsonError → Type 0) (d : PolicyJsonError) (e : ResponseJsonError) → IsOfPolicies d e → (o : Option Json)
    → IsSomeAnd o (λ j. json.IsRefusal (keys_said j) d) → IsSomeAnd o (IsRefusedOf why e)
keys_refused why d e of None h = h
keys_refused why d e of (Some j) h = inl (refused_of_policies (keys_said j) d e h of)

memory_of_text : (depth : ℕ) (text : Text) (why : Json → ResponseJsonError → Type 0) (e : ResponseJsonError) → IsMemory e → IsTextRefusal depth text why e
memory_of_text depth text why errors.Syntax h = absurd h
memory_of_text depth text why (errors.Refused p r) h = absurd h
memory_of_text depth text why (errors.Memory m) h = tt

pub text_unread : (depth : ℕ) (text : Text) (why : Json → ResponseJsonError → Type 0) (d : PolicyJsonError) (e : ResponseJsonError)
    → IsUnreadWithin depth text d → IsOfPolicies d e → IsTextRefusal depth text why e
text_unread depth text why policies.Syntax e h of = subst (λ (x : ResponseJsonError). IsTextRefusal depth text why x) (sym of) h
text_unread depth text why policies.DuplicateKey e h of = absurd h
text_unread depth text why (policies.Refused p r) errors.Syntax h of = absurd of
text_unread depth text why (policies.Refused p r) (errors.Refused q t) h of =
    keys_refused why (policies.Refused p r) (errors.Refused q t) of (document_within depth text) h
text_unread depth text why (policies.Refused p r) (errors.Memory m) h of = tt
text_unread depth text why (policies.Memory m) e h of = memory_of_text depth text why e of

module _ (x : world.Extensions) (calls : StoredCalls) (n : ℕ) (said : Json → Said Told) (depth : ℕ) (text : Text) (j : Json) where
  pub text_refused : (e : ResponseJsonError) → document_within depth text ≡ Some j → keys_said j ≡ Ok tt → IsWhyNotRead x calls n (said j) e
      → IsTextRefusal depth text (λ i. IsWhyNotRead x calls n (said i)) e
  text_refused errors.Syntax is keys (inl h) = absurd h
  text_refused errors.Syntax is keys (inr (p, same, h)) = absurd h
  text_refused (errors.Refused p r) is keys h =
      subst (λ (o : Option Json). IsSomeAnd o (IsRefusedOf (λ i. IsWhyNotRead x calls n (said i)) (errors.Refused p r))) (sym is) (inr (keys, h))
  text_refused (errors.Memory m) is keys h = tt

pub ruleset text_lemmas = (text_says, text_unread, text_refused)
