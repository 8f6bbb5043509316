use Rattle.json.specs.Json.{document}
use Rattle.cedar_model.specs.Agreement.{IsFaithfulPart}
use Rattle.cedar_extensions.specs.Extensions.{extensions_view, calls_of}
use Rattle.cedar_faithful.proofs.Faithful.{each_answer_faithful}
use Rattle.cedar_faithful.proofs.FromJson.{of_some, entities_read}
use Rattle.cedar_faithful.proofs.faithful_read.read_entities_are_faithful.Goals as goal

pub returns : goal.returns
returns g c = λ ans faithful text limit es h.
    let x = extensions_view c.args.extensions.now in
    let calls = calls_of c.args.extensions.now in
    of_some (document text) _ _ h (λ j k. entities_read (IsFaithfulPart x ans) x calls limit
    (each_answer_faithful x ans calls faithful limit) j es k.1)
