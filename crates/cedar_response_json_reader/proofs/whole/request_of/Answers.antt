use Rattle.cedar_extensions.specs.Extensions.{extensions_view, calls_of}
use Rattle.cedar_requests.specs.Requests.{context_given}
use Rattle.cedar_response_json_reader.proofs.Holding.{request_is}
use Rattle.cedar_response_json_reader.proofs.whole.request_of.Goals as goal

pub returns-in-Ok-clause-request : goal.returns-in-Ok-clause-request
returns-in-Ok-clause-request g c =
    let x = c.args.extensions.now in
    request_is (extensions_view x) (calls_of x) c.args.limit c.args.parts (context_given c.in-Ok.context)
    c.new_with_unknowns.result c.new_with_unknowns.ensures.view c.in-Ok.ensures.said
