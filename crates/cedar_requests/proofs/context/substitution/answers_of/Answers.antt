use Rattle.cedar_model.specs.Rules.{Runs}
use Rattle.cedar_restricted.specs.Evaluators.{calls_in, limit_of}
use Rattle.cedar_requests.proofs.ByParts.{next_is_restricted, answered_more, answered_fails, all_answered, place_more}
use Rattle.cedar_requests.proofs.context.substitution.answers_of.Goals as goal

pub with_answer-requires : goal.with_answer-requires
with_answer-requires g c =
    next_is_restricted c.args.parts.now c.parts.part-index c.part-item.result c.parts-test.true c.part-item.is c.requires

pub parts-preserved : goal.parts-preserved
parts-preserved g c =
    let v = c.args.evaluator.now in
    let es = c.args.parts.now in
    let n = c.parts.part-index in
    let e = c.part-item.result in
    record {
      read = λ s is_bare.
          answered_more (Runs s (calls_in v) (limit_of v)) es n e c.parts-test.true c.part-item.is c.parts.answers
          c.in-Ok.more (c.parts.invariant.read s is_bare) (c.in-Ok.ensures.answer s is_bare);
      places =
          place_more es n e c.parts-test.true c.part-item.is c.parts.answers c.in-Ok.more c.parts.invariant.places
          c.in-Ok.ensures.places;
    }

pub returns-in-Err-clause-answers : goal.returns-in-Err-clause-answers
returns-in-Err-clause-answers g c = λ s is_bare.
    let v = c.args.evaluator.now in
    answered_fails (Runs s (calls_in v) (limit_of v)) c.args.parts.now c.parts.part-index c.part-item.result
    c.parts-test.true c.part-item.is c.parts.answers c.in-Err.error (c.parts.invariant.read s is_bare)
    (c.in-Err.ensures.answer s is_bare)

pub returns-clause-answers : goal.returns-clause-answers
returns-clause-answers g c = λ s is_bare.
    let v = c.args.evaluator.now in
    all_answered (Runs s (calls_in v) (limit_of v)) c.args.parts.now c.parts.part-index c.parts.answers
    c.parts-test.false c.parts.auto.part-index-end (c.parts.invariant.read s is_bare)
