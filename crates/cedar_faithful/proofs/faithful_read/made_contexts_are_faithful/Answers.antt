use Rattle.cedar_model.specs.Agreement.{IsFaithfulPart}
use Rattle.cedar_extensions.specs.Extensions.{extensions_view, calls_of}
use Rattle.cedar_requests.specs.Contexts.{context_view}
use Rattle.cedar_faithful.proofs.Faithful.{context_faithful, each_answer_faithful}
use Rattle.cedar_faithful.proofs.FromJson.{created_such, created_of_pairs_such}
use Rattle.cedar_faithful.proofs.faithful_read.made_contexts_are_faithful.Goals as goal

pub returns-clause-expr : goal.returns-clause-expr
returns-clause-expr g c = λ ans faithful limit t r h.
    let x = extensions_view c.args.extensions.now in
    let calls = calls_of c.args.extensions.now in
    context_faithful x ans (context_view c.args.context.now)
    (created_such (IsFaithfulPart x ans) x calls limit (each_answer_faithful x ans calls faithful limit) t
    c.args.context.now r h)

pub returns-clause-pairs : goal.returns-clause-pairs
returns-clause-pairs g c = λ ans faithful limit ps h.
    let x = extensions_view c.args.extensions.now in
    let calls = calls_of c.args.extensions.now in
    context_faithful x ans (context_view c.args.context.now)
    (created_of_pairs_such (IsFaithfulPart x ans) x calls limit (each_answer_faithful x ans calls faithful limit) ps
    c.args.context.now h)
