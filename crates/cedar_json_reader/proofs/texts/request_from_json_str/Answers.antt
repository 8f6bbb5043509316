use Rattle.std.proofs.Common.{◌≡◌, ℕ, Some, Result, Ok, Err, IfErr}
use Rattle.json.specs.Json.{Json, document}
use Rattle.json.specs.Value.{value_view}
use Rattle.cedar_model.specs.Terms.{Text}
use Rattle.cedar_model.specs.World as world
use Rattle.cedar_model.specs.Rules.{StoredCalls}
use Rattle.cedar_extensions.specs.Extensions.{extensions_view, calls_of}
use Rattle.cedar_requests.specs.declared.request.Request.{Request}
use Rattle.cedar_json_reader.specs.declared.errors.JsonError.{JsonError}
use Rattle.cedar_json_reader.specs.JsonTexts.{IsTextError}
use Rattle.cedar_json_reader.specs.SaidRequests.{IsRequestRefusal}
use Rattle.cedar_json_reader.proofs.TextLemmas.{error_of_value, request_of_value}
use Rattle.cedar_json_reader.proofs.texts.request_from_json_str.Goals as goal

-- what the value refuses, the text does
if_of_value : (x : world.Extensions) (calls : StoredCalls) (n : ℕ) (text : Text) (j : Json) (o : Result Request JsonError) → document text ≡ Some j
    → IfErr o (IsRequestRefusal x calls n j) → IfErr o (IsTextError text (λ i e. IsRequestRefusal x calls n i e))
if_of_value x calls n text j (Ok q) is h = h
if_of_value x calls n text j (Err e) is h = error_of_value text (λ i d. IsRequestRefusal x calls n i d) j e (request_of_value x calls n j e h) is h

pub returns-in-Ok-clause-refused : goal.returns-in-Ok-clause-refused
returns-in-Ok-clause-refused g c =
    if_of_value (extensions_view c.args.extensions.now) (calls_of c.args.extensions.now) c.args.limit c.args.text.now (value_view c.in-Ok.value)
    c.request_from_json_value.result c.in-Ok.ensures.said c.request_from_json_value.ensures.refused
