use Rattle.cedar_extensions.specs.Extensions.{extensions_view, calls_of}
use Rattle.cedar_standard_functions.specs.Standard.{standard_answers}
use Rattle.cedar_faithful.proofs.Functions.{answer_standard, computes_alone, made_faithful_alone}
use Rattle.cedar_faithful.proofs.Owing.{nothing_is_owed}
use Rattle.cedar_faithful.proofs.owed.nothing_is_owed_of_functions.Goals as goal

pub returns-clause-agreed : goal.returns-clause-agreed
returns-clause-agreed g c = λ ans agree faithful.
    let x = c.args.extensions.now in
    nothing_is_owed (calls_of x) (extensions_view x) ans agree faithful

pub returns-clause-standard : goal.returns-clause-standard
returns-clause-standard g c = λ none there.
    let x = c.args.extensions.now in
    nothing_is_owed (calls_of x) (extensions_view x) standard_answers
    (c.computed_functions_agree.ensures.by_name standard_answers (computes_alone x there none))
    (c.standard_functions_are_faithful.ensures standard_answers there answer_standard
    (made_faithful_alone x there none))
