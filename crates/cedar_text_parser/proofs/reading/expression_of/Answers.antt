use Rattle.cedar_functions.specs.Functions.{knowledge}
use Rattle.cedar_text_parser.specs.Reading.{IsNotParsed, IsPlaceWithin, unread, in_syntax}
use Rattle.cedar_text_parser.proofs.Known.{trees_known, whole_call_refused}
use Rattle.cedar_text_parser.proofs.Places.{passed_up, placed_within, whole_read, whole_refused}
use Rattle.cedar_text_parser.proofs.reading.expression_of.Goals as goal

pub returns-in_err-steps-clause-err : goal.returns-in_err-steps-clause-err
returns-in_err-steps-clause-err c =
    passed_up c.from_residual.result _ (IsNotParsed (knowledge c.args.functions.now) c.args.source.now.text)
    c.from_residual.ensures.1
    (unread (in_syntax c.tokens.ensures.own.cut (rw c.tokens.ensures.is at c.in_err-steps.ensures.err)))

pub returns-in_err-steps-clause-placed : goal.returns-in_err-steps-clause-placed
returns-in_err-steps-clause-placed c =
    passed_up c.from_residual.result _ (IsPlaceWithin c.args.source.now.text) c.from_residual.ensures.1
    (placed_within c.args.source.now c.tokens.ensures.own.stand _
    (rw c.tokens.ensures.is at c.in_err-steps.ensures.err))

pub returns-in_err-known_calls-clause-err : goal.returns-in_err-known_calls-clause-err
returns-in_err-known_calls-clause-err c =
    passed_up c.from_residual-in_err-known_calls.result _
    (IsNotParsed (knowledge c.args.functions.now) c.args.source.now.text) c.from_residual-in_err-known_calls.ensures.1
    (whole_call_refused c.tokens.ensures.own.cut (rw c.tokens.ensures.is at c.in_ok-steps.ensures.ok)
    (rw c.deref.ensures.value at c.in_err-known_calls.ensures.err))

pub returns-in_err-made-clause-err : goal.returns-in_err-made-clause-err
returns-in_err-made-clause-err c =
    passed_up c.from_residual-in_err-made.result _ (IsNotParsed (knowledge c.args.functions.now) c.args.source.now.text)
    c.from_residual-in_err-made.ensures.1
    (unread (whole_refused c.tokens.ensures.own.cut (rw c.tokens.ensures.is at c.in_ok-steps.ensures.ok)
    (rw c.deref-2.ensures.value at c.in_err-made.ensures.err)))

pub returns-clause-ok : goal.returns-clause-ok
returns-clause-ok c =
    whole_read c.tokens.ensures.own.cut c.tokens.ensures.own.stand (rw c.tokens.ensures.is at c.in_ok-steps.ensures.ok)
    (trees_known (knowledge c.args.functions.now) c.args.source.now c.in_ok-steps.steps.items
    (rw c.deref.ensures.value at c.in_ok-known_calls.ensures.ok) c.in_ok-steps.ensures.parts)
    (rw c.deref-2.ensures.value at c.in_ok-made.ensures.ok)
