use Rattle.std.proofs.Common.{[]}
use Rattle.cedar_extensions.specs.Extensions.{extensions_view, calls_of}
use Rattle.cedar_requests.specs.Contexts.{context_view}
use Rattle.cedar_json_reader.specs.SaidContexts.{context_said, IsContextOf, IsContextRefusal}
use Rattle.cedar_json_reader.specs.NothingUnknown.{IsKnownContextRefusal, no_context, unknown_context}
use Rattle.cedar_json_reader.proofs.UnknownLemmas.{text_of_context, text_still}
use Rattle.cedar_json_reader.proofs.texts.known_context_from_json_str.Goals as goal

pub returns-in-Err-refuse_unknown_context-clause-refused : goal.returns-in-Err-refuse_unknown_context-clause-refused
returns-in-Err-refuse_unknown_context-clause-refused g c =
    let x = c.args.extensions.now in
    let d = c.in-Ok.context in
    text_of_context c.args.text.now (λ j. IsContextOf (extensions_view x) (calls_of x) c.args.limit (context_said j) d)
    (λ j e. IsKnownContextRefusal (extensions_view x) (calls_of x) c.args.limit (context_said j) [] e)
    (context_view d) [] c.in-Err-refuse_unknown_context.error c.in-Err-refuse_unknown_context.ensures.refused
    (λ j of. unknown_context d of c.in-Err-refuse_unknown_context.ensures.refused) c.in-Ok.ensures.made

pub returns-in-Err-clause-refused : goal.returns-in-Err-clause-refused
returns-in-Err-clause-refused g c =
    let x = c.args.extensions.now in
    text_still c.args.text.now
    (λ j e. IsContextRefusal (extensions_view x) (calls_of x) c.args.limit (context_said j) [] e)
    (λ j e. IsKnownContextRefusal (extensions_view x) (calls_of x) c.args.limit (context_said j) [] e)
    c.in-Err.error (λ j d h. no_context h) c.in-Err.ensures.refused
