-- A response reads back as it was written.
use Rattle.std.proofs.Common.{◌≡◌, ℕ, zero, suc, Bool, true, false, ◌&&◌, List, [], ◌∷◌, map, Option, Some, None, Result, Ok, Err, refl, sym, ap, ◌∙◌, subst, codes}
use Rattle.std.specs.Prelude.{if◌then◌else◌, bytes_eq}
use Rattle.std.proofs.lemmas.Slice.Eq.{bytes_eq-Decides}
use Rattle.json.specs.Json.{Json, string, array}
use Rattle.json.specs.Value.{items_of}
use Rattle.cedar_model.specs.Terms.{Text, Term, principal, action, resource, context, entity_type, bool_literal, literal}
use Rattle.cedar_model.specs.World as world
use Rattle.cedar_model.specs.Failures.{Failure}
use Rattle.cedar_model.specs.Policies.{ErrorHandling, skip, forbid_on_error}
use Rattle.cedar_model.specs.Responses.{Row}
use Rattle.cedar_model.specs.Rules.{StoredCalls}
use Rattle.cedar_model.specs.Settings.{RequestPart, Entry, known_entry, unknown_entry, entry_part, type_annotation, variable_part}
use Rattle.cedar_functions.specs.Functions.{Knowledge}
use Rattle.cedar_values.specs.Residuals.{partial_term}
use Rattle.cedar_requests.specs.Requests.{request_view}
use Rattle.cedar_authorizer.specs.declared.responses.partial_response.PartialResponse.{PartialResponse}
use Rattle.cedar_authorizer.specs.responses.Rows.{mode_of, rows_view}
use Rattle.cedar_authorizer.specs.Running.{errors_of, request_of, HoldsRows}
use Rattle.cedar_json_writer.specs.Texts.{texts_json}
use Rattle.cedar_policy_json_reader.specs.Expressions.{expression_said}
use Rattle.cedar_policy_json_reader.specs.Paths.{at_key}
use Rattle.cedar_policy_json_reader.specs.Refusals as json
use Rattle.cedar_response_json.specs.Responses.{mode_word, part_json, rows_json, response_json, IsWritten}
use Rattle.cedar_response_json_reader.specs.declared.errors.ResponseRefusal.TheVariants as reasons
use Rattle.cedar_response_json_reader.specs.Errors.{errors_said}
use Rattle.cedar_response_json_reader.specs.Extensions.{are_texts, names_said}
use Rattle.cedar_response_json_reader.specs.Refusals.{Said, refused, under, both_said, made_of, and_then, of_policies}
use Rattle.cedar_response_json_reader.specs.Requests.{entry_of, entry_of_type, entry_at, context_at}
use Rattle.cedar_response_json_reader.specs.Rows.{rows_said}
use Rattle.cedar_response_json_reader.specs.Responses.{mode_said, Told, IsRead, response_said}
use Rattle.cedar_staged.specs.Wires.{SaysTheSame}
use Rattle.cedar_relays.specs.Travels.{ReadsBack, RowsReadBack, RequestReadsBack, CanTravel, ComesBack, AreToldOf, WhatIsReadComesBack}
use Rattle.cedar_relays.proofs.Errors.{back, limit_kept}
use Rattle.cedar_relays.proofs.Policies.{all_back, false_reads}

itself : (t : Text) → bytes_eq t t ≡ true
itself t = (bytes_eq-Decides t t).1 refl

-- ---- how errors are handled, and with which extensions

mode_back : (mode : ErrorHandling) → mode_said (string (mode_word mode)) ≡ Ok mode
mode_back skip = refl
mode_back forbid_on_error = refl

texts_back : (ts : List Text) → are_texts (items_of (map string ts)) ts ≡ true
texts_back [] = refl
texts_back (t ∷ ts) = λ i. itself t i && texts_back ts i

names_back : (names : List Text) → names_said names (texts_json names) ≡ Ok true
names_back names = ap (λ (b : Bool). if b then Ok true else refused reasons.OtherExtensions) (texts_back names)

-- ---- the request

-- an unknown of the variable's name
named_back : (name : Text) (s : Said Entry) → (if bytes_eq name name then s else refused reasons.NotAnEntity) ≡ s
named_back name s = ap (λ (b : Bool). if b then s else refused reasons.NotAnEntity) (itself name)

entry_back : (name : Text) (e : Entry) → entry_of name (partial_term (entry_part e name)) ≡ Ok e
unfolding entry_part type_annotation
entry_back name (known_entry e) = refl
entry_back name (unknown_entry None) = named_back name (Ok (unknown_entry None))
entry_back name (unknown_entry (Some t)) = named_back name (Ok (unknown_entry (Some t)))

-- what the JSON of a response says, where its parts read back
abbrev told_of : ErrorHandling → RequestPart → List Row → List (Text × Failure) → Told
told_of mode request rows ts = (
  mode,
  (
    (
      request.principal_entry,
      (request.action_entry, (request.resource_entry, partial_term (variable_part request context))),
    ),
    (rows, ts),
  ),
)

module _ (fs : Knowledge) (n : ℕ) where
  part_back : (name : Text) (e : Entry) → ReadsBack fs n (partial_term (entry_part e name))
      → and_then (entry_of name) (of_policies (expression_said fs n (part_json (entry_part e name)))) ≡ Ok e
  part_back name e h =
      ap (λ (s : json.Said Term). and_then (entry_of name) (of_policies s)) h ∙ entry_back name e

  -- ---- the whole

  module _ (mode : ErrorHandling) (names : List Text) (request : RequestPart) (rows : List Row) (errors : Json) where
    principal_back : ReadsBack fs n (partial_term (variable_part request principal)) → entry_at fs n (codes "principal") (response_json mode names request rows errors) ≡ Ok request.principal_entry
    unfolding variable_part
    principal_back h = ap (under (at_key (codes "principal"))) (part_back (codes "principal") request.principal_entry h)

    action_back : ReadsBack fs n (partial_term (variable_part request action)) → entry_at fs n (codes "action") (response_json mode names request rows errors) ≡ Ok request.action_entry
    unfolding variable_part
    action_back h = ap (under (at_key (codes "action"))) (part_back (codes "action") request.action_entry h)

    resource_back : ReadsBack fs n (partial_term (variable_part request resource)) → entry_at fs n (codes "resource") (response_json mode names request rows errors) ≡ Ok request.resource_entry
    unfolding variable_part
    resource_back h = ap (under (at_key (codes "resource"))) (part_back (codes "resource") request.resource_entry h)

    context_back : ReadsBack fs n (partial_term (variable_part request context)) → context_at fs n (response_json mode names request rows errors) ≡ Ok (partial_term (variable_part request context))
    context_back h = ap (λ (s : json.Said Term). under (at_key (codes "context")) (of_policies s)) h

    whole_back : (ts : List (Text × Failure)) → RequestReadsBack fs n request → rows_said fs n (rows_json rows) ≡ Ok rows
        → errors_said errors ≡ Ok ts → response_said fs n names (response_json mode names request rows errors) ≡ Ok (told_of mode request rows ts)
    whole_back ts h rs es =
        λ i. both_said
        (made_of (λ (p : ErrorHandling × Bool). p.0) (both_said (under (at_key (codes "errorHandling")) (mode_back mode i)) (under (at_key (codes "extensions")) (names_back names i))))
        (both_said
        (both_said (principal_back h.principal_reads i) (both_said (action_back h.action_reads i) (both_said (resource_back h.resource_reads i) (context_back h.context_reads i))))
        (both_said (under (at_key (codes "policies")) (rs i)) (under (at_key (codes "errors")) (es i))))

-- ---- what was read

ok_same : {T U : Type 0} (s : Result T U) (a b : T) → s ≡ Ok a → s ≡ Ok b → a ≡ b
ok_same s a b p q = cc

module _ (r read : PartialResponse) where
  same : (x : world.Extensions) (calls : StoredCalls) (n : ℕ) (ts : List (Text × Failure))
      → IsRead x calls n (told_of (mode_of r) (request_view (request_of r)) (rows_view r) ts) read
      → (request_view (request_of read)).context_part ≡ (request_view (request_of r)).context_part → SaysTheSame r read
  same x calls n ts h context_is = record {
    mode_is = h.mode_is;
    request_is = λ i. record {
      principal_entry = h.principal_is i;
      action_entry = h.action_is i;
      resource_entry = h.resource_is i;
      context_part = context_is i;
    };
    held = h.held;
  }

  comes_back : (x : world.Extensions) (calls : StoredCalls) (n : ℕ) (ts : List (Text × Failure)) → AreToldOf (errors_of r) ts
      → IsRead x calls n (told_of (mode_of r) (request_view (request_of r)) (rows_view r) ts) read
      → (request_view (request_of read)).context_part ≡ (request_view (request_of r)).context_part → ComesBack r read
  comes_back x calls n ts told h context_is =
      let are = subst (AreToldOf (errors_of r)) (sym h.errors_are) told in
      record {
        says_the_same = same x calls n ts h context_is;
        errors_are = are;
        limit_is_kept = limit_kept (errors_of r) (errors_of read) are;
      }

  -- the JSON value is that of the response
  of_json : (fs : Knowledge) (n : ℕ) (names : List Text) (j : Json) (x : world.Extensions) (calls : StoredCalls) → CanTravel fs n r
      → (h : IsWritten (mode_of r) names (request_view (request_of r)) (rows_view r) (errors_of r) j)
      → (ts : List (Text × Failure)) → AreToldOf (errors_of r) ts → errors_said h.0 ≡ Ok ts
      → (p : Told) → response_said fs n names j ≡ Ok p → IsRead x calls n p read
      → (request_view (request_of read)).context_part ≡ (request_view (request_of r)).context_part → ComesBack r read
  of_json fs n names j x calls can h ts told es p said is_read context_is =
      let request = request_view (request_of r) in
      let falsity = false_reads fs n (partial_term (variable_part request principal)) can.request_reads.principal_reads in
      let back : response_said fs n names j ≡ Ok (told_of (mode_of r) request (rows_view r) ts) =
      ap (response_said fs n names) h.2
      ∙ whole_back fs n (mode_of r) names request (rows_view r) h.0 ts can.request_reads (all_back fs n falsity (rows_view r) can.rows_read can.ids_differ) es in
      let is : p ≡ told_of (mode_of r) request (rows_view r) ts = ok_same (response_said fs n names j) p (told_of (mode_of r) request (rows_view r) ts) said back in
      comes_back x calls n ts told (subst (λ (q : Told). IsRead x calls n q read) is is_read) context_is

  pub what_is_read_comes_back : (x : world.Extensions) (calls : StoredCalls) → WhatIsReadComesBack x calls r read
  what_is_read_comes_back x calls fs n names j can h reads context_is =
      let errors = back (errors_of r) 0 h.1.0 h.1.1 in
      of_json fs n names j x calls can h errors.errors errors.told (ap errors_said h.1.2 ∙ errors.read) reads.0 reads.1 reads.2 context_is
