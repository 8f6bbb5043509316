-- What is answered to a line is one line.
use Rattle.std.proofs.Common.{sym, subst, ◌∙◌, ℕ, ◌+◌, Bool, true, false, cond, List, [], ◌∷◌, ◌++◌, Option, Some, None}
use Rattle.std.specs.Prelude.{All}
use Rattle.std.proofs.lemmas.List.Elements.{All-nil, All-cons}
use Rattle.json.specs.Json.{Json}
use Rattle.json.specs.Print.{print}
use Rattle.json.specs.Tree.{json_tokens}
use Rattle.json.specs.Value.{items_of}
use Rattle.cedar_model.specs.Terms.{Text}
use Rattle.cedar_model.specs.Policies as model
use Rattle.cedar_model.specs.Policies.{allow, deny}
use Rattle.cedar_decisions.specs.Decisions.{decision_view}
use Rattle.cedar_layers.specs.Policies.{PolicyView}
use Rattle.cedar_layers.specs.PolicySets.{policies_view}
use Rattle.cedar_names.specs.declared.names.Loc.{Loc}
use Rattle.cedar_authorizer.specs.declared.responses.response.Response.{Response}
use Rattle.cedar_authorizer.specs.declared.responses.err.AuthorizationError.{AuthorizationError}
use Rattle.cedar_authorizer.specs.responses.Responses.{has_id, errors_view, error_place}
use Rattle.cedar_json_writer.specs.Responses.{decision_json}
use Rattle.cedar_json_writer.specs.Trees.{members_of}
use Rattle.cedar_cli.specs.declared.asked.Asked.{Asked}
use Rattle.cedar_cli.specs.declared.asked.Way.{Way}
use Rattle.cedar_cli.specs.Authorized.{IsAuthorized}
use Rattle.cedar_cli.specs.Batch.{in_json, LineAnswer, refusal_json, IsAnswerAs, AreAnswers, IsOneLine}
use Rattle.cedar_cli.specs.Documents.{name_under, name_where, names_where, place_members, ArePlacedErrors, IsErrorsArray, IsResponseDocument}
use Rattle.cedar_cli.specs.Named.{annotated, ids_where, is_named}
use Rattle.cedar_cli.proofs.Unbroken.{HasUnbroken, ItemsHave, MembersHave, texts_have, count_unbroken, printed_unbroken, lacks_feed}

-- ---- the parts of a document

decision_has : (d : model.Decision) → HasUnbroken (decision_json (Some d))
decision_has allow = tt
decision_has deny = tt

place_has : (text : Text) (o : Option Loc) → MembersHave (members_of (place_members text o))
place_has text None = tt
place_has text (Some l) = (count_unbroken _, (count_unbroken _, tt))

errors_have : (text : Text) (es : List AuthorizationError) (js : List Json) → ArePlacedErrors text es js
    → ItemsHave (items_of js)
errors_have text [] [] h = tt
errors_have text [] (j ∷ js) h = absurd h
errors_have text (e ∷ es) [] h = absurd h
errors_have text (e ∷ es) (j ∷ js) h =
    let (message, says, is) = h.0 in
    (subst HasUnbroken (sym is) (tt, (tt, place_has text (error_place e))), errors_have text es js h.1)

array_has : (text : Text) (es : List AuthorizationError) (j : Json) → IsErrorsArray text es j → HasUnbroken j
array_has text es j (js, are, is) = subst HasUnbroken (sym is) (errors_have text es js are)

members_behind : (xs ys : List (Text × Json)) → MembersHave (members_of xs) → MembersHave (members_of ys)
    → MembersHave (members_of (xs ++ ys))
members_behind [] ys hx hy = hy
members_behind (x ∷ xs) ys hx hy = (hx.0, members_behind xs ys hx.1 hy)

under_has : (id : Text) (o : Option Text) → MembersHave (members_of (name_under id o))
under_has id None = tt
under_has id (Some name) = (tt, tt)

names_have : (is : Text → Bool) (ps : List PolicyView) → MembersHave (members_of (names_where is ps))
names_have is [] = tt
names_have is (p ∷ ps) = members_behind (name_where is p) (names_where is ps) (by (is p.id)) (names_have is ps)
  where
    by : (b : Bool) → MembersHave (members_of (cond b (name_under p.id (annotated p)) []))
    by true = under_has p.id (annotated p)
    by false = tt

document_has : (text : Text) (ps : List PolicyView) (r : Response) (j : Json) → IsResponseDocument text ps r j
    → HasUnbroken j
document_has text ps r j is =
    subst HasUnbroken (sym is.is_object) (
      decision_has (decision_view r.decision),
      (
        texts_have (ids_where (has_id r.diagnostics.reason) ps),
        (
          array_has text r.diagnostics.errors.items is.errors is.errors_are,
          (names_have (is_named (has_id r.diagnostics.reason) (errors_view r.diagnostics.errors.items)) ps, tt),
        ),
      ),
    )

-- ---- the answers

module _ (text : Text) (w : Way) (Unread : Asked → Type 0) (q : Asked) where
  line_of_each : (b : Bool) (n : ℕ) (line answer : Text)
      → IsAnswerAs b (λ r. IsAuthorized text r (in_json w)) Unread q n line answer → IsOneLine answer
  line_of_each false n line answer h =
      let one = h.answers.printed in (
        print (json_tokens one.document),
        lacks_feed _ (printed_unbroken one.document
            (document_has text (policies_view h.answers.parsed.policies) h.answers.response one.document one.document_is)),
        h.is_answer ∙ one.output_is,
      )
  line_of_each true n line answer h =
      let (why, is) = h.is_answer in (
        print (json_tokens (refusal_json why n)),
        lacks_feed _ (printed_unbroken (refusal_json why n) (tt, (count_unbroken _, tt))),
        is,
      )

  pub one_line_each : (n : ℕ) (ls : List Text) (answers : List LineAnswer)
      → AreAnswers (λ r. IsAuthorized text r (in_json w)) Unread q n ls answers
      → All (λ (a : LineAnswer). IsOneLine a.line) answers
  one_line_each n [] [] h = All-nil (λ (a : LineAnswer). IsOneLine a.line)
  one_line_each n [] (a ∷ more) h = absurd h
  one_line_each n (line ∷ rest) [] h = absurd h
  one_line_each n (line ∷ rest) (a ∷ more) h =
      All-cons (λ (b : LineAnswer). IsOneLine b.line) a more (line_of_each a.is_refused n line a.line h.0)
      (one_line_each (n + 1) rest more h.1)
