use Rattle.cedar_text_parser.specs.Paths.{IsPathRefused, at_place, at_escape}
use Rattle.cedar_text_parser.specs.Reading.{IsWithin}
use Rattle.cedar_text_parser.proofs.Growing.{entity_there}
use Rattle.cedar_text_parser.proofs.Places.{passed_up, placed_within, refused_within}
use Rattle.cedar_text_parser.proofs.paths.entity_of.Goals as goal

pub returns-in_err-reach-clause-err : goal.returns-in_err-reach-clause-err
returns-in_err-reach-clause-err c =
    passed_up c.from_residual.result _ (IsPathRefused c.args.source.now.text) c.from_residual.ensures.1
    (at_place c.tokens-tokens.ensures.own.cut (rw c.tokens-tokens.ensures.is at c.in_err-reach.ensures.err))

pub returns-in_err-reach-clause-placed : goal.returns-in_err-reach-clause-placed
returns-in_err-reach-clause-placed c =
    passed_up c.from_residual.result _ (IsWithin c.args.source.now.text) c.from_residual.ensures.1
    (placed_within c.args.source.now c.tokens-tokens.ensures.own.stand _
    (rw c.tokens-tokens.ensures.is at c.in_err-reach.ensures.err))

pub returns-in_err-id-clause-err : goal.returns-in_err-id-clause-err
returns-in_err-id-clause-err c =
    passed_up c.from_residual-in_err-id.result _ (IsPathRefused c.args.source.now.text)
    c.from_residual-in_err-id.ensures.1
    (at_place c.tokens-tokens.ensures.own.cut (rw c.tokens-tokens.ensures.is at c.in_err-id.ensures.err))

pub returns-in_err-id-clause-placed : goal.returns-in_err-id-clause-placed
returns-in_err-id-clause-placed c =
    passed_up c.from_residual-in_err-id.result _ (IsWithin c.args.source.now.text)
    c.from_residual-in_err-id.ensures.1
    (placed_within c.args.source.now c.tokens-tokens.ensures.own.stand _
    (rw c.tokens-tokens.ensures.is at c.in_err-id.ensures.err))

pub returns-in_err-last-clause-err : goal.returns-in_err-last-clause-err
returns-in_err-last-clause-err c =
    passed_up c.from_residual-in_err-last.result _ (IsPathRefused c.args.source.now.text)
    c.from_residual-in_err-last.ensures.1
    (at_place c.tokens-tokens.ensures.own.cut (rw c.tokens-tokens.ensures.is at c.in_err-last.ensures.err))

pub returns-in_err-last-clause-placed : goal.returns-in_err-last-clause-placed
returns-in_err-last-clause-placed c =
    passed_up c.from_residual-in_err-last.result _ (IsWithin c.args.source.now.text)
    c.from_residual-in_err-last.ensures.1
    (placed_within c.args.source.now c.tokens-tokens.ensures.own.stand _
    (rw c.tokens-tokens.ensures.is at c.in_err-last.ensures.err))

pub returns-in_err-expect-clause-err : goal.returns-in_err-expect-clause-err
returns-in_err-expect-clause-err c =
    passed_up c.from_residual-in_err-expect.result _ (IsPathRefused c.args.source.now.text)
    c.from_residual-in_err-expect.ensures.1
    (at_place c.tokens-tokens.ensures.own.cut (rw c.tokens-tokens.ensures.is at c.in_err-expect.ensures.err))

pub returns-in_err-expect-clause-placed : goal.returns-in_err-expect-clause-placed
returns-in_err-expect-clause-placed c =
    passed_up c.from_residual-in_err-expect.result _ (IsWithin c.args.source.now.text)
    c.from_residual-in_err-expect.ensures.1
    (placed_within c.args.source.now c.tokens-tokens.ensures.own.stand _
    (rw c.tokens-tokens.ensures.is at c.in_err-expect.ensures.err))

pub returns-in_err-uid-clause-err : goal.returns-in_err-uid-clause-err
returns-in_err-uid-clause-err c =
    passed_up c.from_residual-in_err-uid.result _ (IsPathRefused c.args.source.now.text)
    c.from_residual-in_err-uid.ensures.1
    (at_escape c.tokens-tokens.ensures.own.cut c.in_err-uid.ensures.err)

pub returns-in_err-uid-clause-placed : goal.returns-in_err-uid-clause-placed
returns-in_err-uid-clause-placed c =
    passed_up c.from_residual-in_err-uid.result _ (IsWithin c.args.source.now.text) c.from_residual-in_err-uid.ensures.1
    (refused_within c.args.source.now c.tokens-tokens.ensures.own.stand _ c.in_err-uid.ensures.err)

pub returns-clause-ok : goal.returns-clause-ok
returns-clause-ok c =
    entity_there c.tokens-tokens.ensures.own.cut (rw c.tokens-tokens.ensures.is at c.in_ok-reach.ensures.ok)
    (rw c.tokens-tokens.ensures.is at c.in_ok-id.ensures.is) c.in_ok-id.ensures.next
    (rw c.tokens-tokens.ensures.is at c.in_ok-last.ensures.is)
    c.in_ok-last.ensures.next
    (rw c.tokens-tokens.ensures.is at c.in_ok-expect.ensures.is)
    (rw (c.loc_up_to-loc.ensures.start, c.loc_up_to-loc.ensures.end) at c.in_ok-uid.ensures.ok)
