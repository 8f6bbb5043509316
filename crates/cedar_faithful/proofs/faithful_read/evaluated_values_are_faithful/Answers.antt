use Rattle.cedar_model.specs.Agreement.{IsFaithfulPart}
use Rattle.cedar_extensions.specs.Extensions.{extensions_view, calls_of}
use Rattle.cedar_restricted.specs.Evaluations.{bare_setting}
use Rattle.cedar_faithful.proofs.Evaluated.{bare, answer_such}
use Rattle.cedar_faithful.proofs.Faithful.{each_answer_faithful, value_within_faithful}
use Rattle.cedar_faithful.proofs.faithful_read.evaluated_values_are_faithful.Goals as goal

pub returns-clause-value : goal.returns-clause-value
returns-clause-value g c = λ ans faithful limit t v r h.
    let x = extensions_view c.args.extensions.now in
    value_within_faithful x ans (calls_of c.args.extensions.now) faithful limit t v r (h (bare_setting x) (bare x))

pub returns-clause-part : goal.returns-clause-part
returns-clause-part g c = λ ans faithful limit t p r h.
    let x = extensions_view c.args.extensions.now in
    let calls = calls_of c.args.extensions.now in
    answer_such (IsFaithfulPart x ans) x calls limit (each_answer_faithful x ans calls faithful limit) t p r h
