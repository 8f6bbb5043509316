use Rattle.std.proofs.Common.{◌∙◌, Ok, Err, sym, ap, subst}
use Rattle.cedar_model.specs.Rules.{Runs}
use Rattle.cedar_model.specs.Shapes.{are_restricted}
use Rattle.cedar_expressions.specs.View.{terms_view}
use Rattle.cedar_extensions.specs.StoredLaws.{calls_sound}
use Rattle.cedar_restricted.specs.declared.whole.Whole.TheVariants as wholes
use Rattle.cedar_restricted.specs.Evaluations.{bare_setting}
use Rattle.cedar_restricted.specs.Evaluators.{extensions_read, calls_in, limit_of}
use Rattle.cedar_restricted.specs.Parts.{HasKeys}
use Rattle.cedar_restricted.specs.Steps.{parts_restricted}
use Rattle.cedar_restricted.proofs.Promises.{sound_answers}
use Rattle.cedar_requests.specs.Contexts.{expr_locs}
use Rattle.cedar_requests.specs.Substitutions.{AreAnswered}
use Rattle.cedar_requests.proofs.Creations.{bare-is_bare}
use Rattle.cedar_requests.proofs.ByParts.{counted, record_answers, record_fails, record_stays}
use Rattle.cedar_requests.proofs.context.substitution.record_of_parts.Goals as goal

pub answers_of-answers-requires : goal.answers_of-answers-requires
answers_of-answers-requires g c =
    ap (λ es. are_restricted (terms_view es)) c.as_slice.ensures.value
    ∙ parts_restricted (wholes.Record c.args.keys) c.args.parts.items c.requires.keys c.requires.restricted

pub of_answers-requires-clause-keys : goal.of_answers-requires-clause-keys
of_answers-requires-clause-keys g c =
    let es = c.args.parts.items in
    let places = c.in-Ok.ensures.places ∙ ap expr_locs c.as_slice.ensures.value in
    subst (HasKeys (wholes.Record c.args.keys)) (sym (counted c.in-Ok.answers es places)) c.requires.keys

pub of_answers-requires-clause-restricted : goal.of_answers-requires-clause-restricted
of_answers-requires-clause-restricted g c =
    let v = c.args.evaluator.now in
    let x = extensions_read v in
    let s = bare_setting x in
    let es = c.args.parts.items in
    let places = c.in-Ok.ensures.places ∙ ap expr_locs c.as_slice.ensures.value in
    record_stays s (calls_in v) (limit_of v) c.args.keys es c.requires.keys
    (sound_answers x (calls_in v) (calls_sound v.extensions.now)) c.requires.restricted c.in-Ok.answers
    (counted c.in-Ok.answers es places)
    (subst (λ l. AreAnswered (Runs s (calls_in v) (limit_of v)) (terms_view l) (Ok c.in-Ok.answers))
    c.as_slice.ensures.value (c.in-Ok.ensures.answers s (bare-is_bare x)))

pub returns-in-Ok-of_answers-clause-answer : goal.returns-in-Ok-of_answers-clause-answer
returns-in-Ok-of_answers-clause-answer g c = λ s is_bare.
    let v = c.args.evaluator.now in
    let es = c.args.parts.items in
    let places = c.in-Ok.ensures.places ∙ ap expr_locs c.as_slice.ensures.value in
    record_answers s (calls_in v) (limit_of v) c.args.keys es c.requires.keys c.in-Ok.answers c.in-Ok-of_answers.context
    (counted c.in-Ok.answers es places)
    (subst (λ l. AreAnswered (Runs s (calls_in v) (limit_of v)) (terms_view l) (Ok c.in-Ok.answers))
    c.as_slice.ensures.value (c.in-Ok.ensures.answers s is_bare)) c.in-Ok-of_answers.ensures.view

pub returns-in-Ok-of_answers-clause-places : goal.returns-in-Ok-of_answers-clause-places
returns-in-Ok-of_answers-clause-places g c =
    c.in-Ok-of_answers.ensures.places ∙ c.in-Ok.ensures.places ∙ ap expr_locs c.as_slice.ensures.value

pub returns-in-Err-clause-answer : goal.returns-in-Err-clause-answer
returns-in-Err-clause-answer g c = λ s is_bare.
    let v = c.args.evaluator.now in
    record_fails s (calls_in v) (limit_of v) c.args.keys c.args.parts.items c.requires.keys c.in-Err.error
    (subst (λ l. AreAnswered (Runs s (calls_in v) (limit_of v)) (terms_view l) (Err c.in-Err.error))
    c.as_slice.ensures.value (c.in-Err.ensures.answers s is_bare))
