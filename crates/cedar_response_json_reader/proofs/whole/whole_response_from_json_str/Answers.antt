use Rattle.std.proofs.Common.{ℕ, subst}
use Rattle.json.specs.Value.{value_view}
use Rattle.cedar_extensions.specs.Extensions.{extensions_view, calls_of}
use Rattle.cedar_functions.specs.Functions.{knowledge}
use Rattle.cedar_response_json.specs.Extensions.{names_of}
use Rattle.cedar_response_json_reader.specs.JsonTexts.{IsTextRefusal}
use Rattle.cedar_response_json_reader.specs.Responses.{response_said, IsWhyNotRead}
use Rattle.cedar_response_json_reader.proofs.TextLemmas.{text_refused}
use Rattle.cedar_response_json_reader.proofs.whole.whole_response_from_json_str.Goals as goal

pub returns-in-Ok-clause-refused : goal.returns-in-Ok-clause-refused
returns-in-Ok-clause-refused g c =
    let x = c.args.extensions.now in
    let n = c.args.limit in
    let said = response_said (knowledge c.args.functions.now) n (names_of x) in
    let error = c.in-Err-whole_response_from_json.error in
    subst (λ (d : ℕ). IsTextRefusal d c.args.text.now (λ j. IsWhyNotRead (extensions_view x) (calls_of x) n (said j)) error)
    c.json_depth.ensures
    (text_refused (extensions_view x) (calls_of x) n said c.json_depth.result c.args.text.now (value_view c.in-Ok.value)
    error c.in-Ok.ensures.said c.in-Ok.ensures.unrefused c.in-Err-whole_response_from_json.ensures.refused)
