use Rattle.json.specs.Json.{document}
use Rattle.cedar_laws.specs.Faithful.{PartHoldsNoExtensionValue}
use Rattle.cedar_extensions.specs.Extensions.{extensions_view, calls_of}
use Rattle.cedar_requests.specs.Contexts.{context_view}
use Rattle.cedar_faithful.proofs.HoldingNone.{context_holds, each_answer_holds}
use Rattle.cedar_faithful.proofs.FromJson.{of_some, context_read}
use Rattle.cedar_faithful.proofs.read.read_contexts_hold_none.Goals as goal

pub returns : goal.returns
returns g c = λ none text limit h.
    let x = extensions_view c.args.extensions.now in
    let calls = calls_of c.args.extensions.now in
    of_some (document text) _ _ h (λ j k. context_holds (context_view c.args.context.now)
    (context_read PartHoldsNoExtensionValue x calls limit (each_answer_holds x calls none limit) j c.args.context.now
    k.1))
