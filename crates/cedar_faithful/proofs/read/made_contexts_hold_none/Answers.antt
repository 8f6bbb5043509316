use Rattle.cedar_laws.specs.Faithful.{PartHoldsNoExtensionValue}
use Rattle.cedar_extensions.specs.Extensions.{extensions_view, calls_of}
use Rattle.cedar_requests.specs.Contexts.{context_view}
use Rattle.cedar_faithful.proofs.HoldingNone.{context_holds, each_answer_holds}
use Rattle.cedar_faithful.proofs.FromJson.{created_such, created_of_pairs_such}
use Rattle.cedar_faithful.proofs.read.made_contexts_hold_none.Goals as goal

pub returns-clause-expr : goal.returns-clause-expr
returns-clause-expr g c = λ none limit t r h.
    let x = extensions_view c.args.extensions.now in
    let calls = calls_of c.args.extensions.now in
    context_holds (context_view c.args.context.now)
    (created_such PartHoldsNoExtensionValue x calls limit (each_answer_holds x calls none limit) t
    c.args.context.now r h)

pub returns-clause-pairs : goal.returns-clause-pairs
returns-clause-pairs g c = λ none limit ps h.
    let x = extensions_view c.args.extensions.now in
    let calls = calls_of c.args.extensions.now in
    context_holds (context_view c.args.context.now)
    (created_of_pairs_such PartHoldsNoExtensionValue x calls limit (each_answer_holds x calls none limit) ps
    c.args.context.now h)
