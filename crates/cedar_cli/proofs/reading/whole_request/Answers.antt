use Rattle.std.proofs.Common.{◌≡◌, sym, subst, Option, Some, IfOk}
use Rattle.cedar_extensions.specs.Extensions.{extensions_view, calls_of}
use Rattle.cedar_requests.specs.Requests.{request_view}
use Rattle.cedar_json_reader.specs.JsonTexts.{SaysSo}
use Rattle.cedar_json_reader.specs.SaidRequests.{IsRequestOf}
use Rattle.cedar_json_reader.specs.NothingUnknown.{IsKnownRequest}
use Rattle.cedar_cli.specs.declared.asked.Source.{Source}
use Rattle.cedar_cli.specs.Questions.{levels, IsOfParts, IsWholeOr, IsWholeRequest}
use Rattle.cedar_cli.proofs.Composed.{of_ok, of_two}
use Rattle.cedar_cli.proofs.KnownRequests.{whole_of_parts}
use Rattle.cedar_cli.proofs.reading.whole_request.Goals as goal

pub returns-in-Some-clause-asked : goal.returns-in-Some-clause-asked
returns-in-Some-clause-asked g c =
    let x = c.args.extensions.now in
    let q = c.args.asked.now in
    of_two (λ r. SaysSo c.in-Some.source.text.now (λ j. IsRequestOf (extensions_view x) (calls_of x) levels j r))
    (λ r. IsKnownRequest (request_view r)) (λ r. IsWholeRequest (extensions_view x) (calls_of x) q r)
    (λ r said known. record {
      said = subst (λ (o : Option Source). IsWholeOr (extensions_view x) (calls_of x) o q r) (sym c.in-Some.is) said;
      known = known;
    })
    c.known_request_of.result c.known_request_of.ensures.said c.known_request_of.ensures.known
