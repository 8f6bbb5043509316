use Rattle.json.specs.Json.{document}
use Rattle.cedar_laws.specs.Faithful.{PartHoldsNoExtensionValue}
use Rattle.cedar_extensions.specs.Extensions.{extensions_view, calls_of}
use Rattle.cedar_faithful.proofs.HoldingNone.{each_answer_holds}
use Rattle.cedar_faithful.proofs.FromJson.{of_some, entities_read}
use Rattle.cedar_faithful.proofs.read.read_entities_hold_none.Goals as goal

pub returns : goal.returns
returns g c = λ none text limit es h.
    let x = extensions_view c.args.extensions.now in
    let calls = calls_of c.args.extensions.now in
    of_some (document text) _ _ h (λ j k. entities_read PartHoldsNoExtensionValue x calls limit
    (each_answer_holds x calls none limit) j es k.1)
