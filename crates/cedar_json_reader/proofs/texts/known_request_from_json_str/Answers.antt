use Rattle.std.proofs.Common.{◌∷◌, [], codes}
use Rattle.cedar_extensions.specs.Extensions.{extensions_view, calls_of}
use Rattle.cedar_requests.specs.Requests.{request_view, request_parts}
use Rattle.cedar_json_reader.specs.Paths.{at_key}
use Rattle.cedar_json_reader.specs.SaidRequests.{IsRequestOf, IsRequestRefusal}
use Rattle.cedar_json_reader.specs.NothingUnknown.{IsKnownRequestRefusal, no_request, unknown_request}
use Rattle.cedar_json_reader.proofs.UnknownLemmas.{text_of_context, text_still, known_entry_of_text}
use Rattle.cedar_json_reader.proofs.texts.known_request_from_json_str.Goals as goal

pub returns-in-Ok-refuse_unknown_request-clause-known : goal.returns-in-Ok-refuse_unknown_request-clause-known
returns-in-Ok-refuse_unknown_request-clause-known g c =
    let x = c.args.extensions.now in
    let r = c.in-Ok.request in
    let text = c.args.text.now in
    let said = c.in-Ok.ensures.made in record {
      principal = known_entry_of_text (codes "principal")
          (λ j. IsRequestOf (extensions_view x) (calls_of x) c.args.limit j r) text (request_parts r).0
          (λ j of. of.principal) said;
      action = known_entry_of_text (codes "action")
          (λ j. IsRequestOf (extensions_view x) (calls_of x) c.args.limit j r) text (request_parts r).1
          (λ j of. of.action) said;
      resource = known_entry_of_text (codes "resource")
          (λ j. IsRequestOf (extensions_view x) (calls_of x) c.args.limit j r) text (request_parts r).2
          (λ j of. of.resource) said;
      context = c.in-Ok-refuse_unknown_request.ensures.known;
    }

pub returns-in-Err-refuse_unknown_request-clause-refused : goal.returns-in-Err-refuse_unknown_request-clause-refused
returns-in-Err-refuse_unknown_request-clause-refused g c =
    let x = c.args.extensions.now in
    let r = c.in-Ok.request in
    text_of_context c.args.text.now (λ j. IsRequestOf (extensions_view x) (calls_of x) c.args.limit j r)
    (λ j e. IsKnownRequestRefusal (extensions_view x) (calls_of x) c.args.limit j e)
    (request_view r).context_part (at_key (codes "context") ∷ []) c.in-Err-refuse_unknown_request.error
    c.in-Err-refuse_unknown_request.ensures.refused
    (λ j of. unknown_request r of c.in-Err-refuse_unknown_request.ensures.refused) c.in-Ok.ensures.made

pub returns-in-Err-clause-refused : goal.returns-in-Err-clause-refused
returns-in-Err-clause-refused g c =
    let x = c.args.extensions.now in
    text_still c.args.text.now
    (λ j e. IsRequestRefusal (extensions_view x) (calls_of x) c.args.limit j e)
    (λ j e. IsKnownRequestRefusal (extensions_view x) (calls_of x) c.args.limit j e)
    c.in-Err.error (λ j d h. no_request h) c.in-Err.ensures.refused
