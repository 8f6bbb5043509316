use Rattle.cedar_text_parser.specs.Paths.{IsPathRefused, at_place, at_escape, name_read, path_up_to}
use Rattle.cedar_text_parser.specs.Reading.{IsWithin}
use Rattle.cedar_text_parser.proofs.Places.{passed_up, placed_within, refused_within}
use Rattle.cedar_text_parser.proofs.paths.name_of.Goals as goal

pub returns-in_err-reach-clause-err : goal.returns-in_err-reach-clause-err
returns-in_err-reach-clause-err c =
    passed_up c.from_residual.result _ (IsPathRefused c.args.source.now.text) c.from_residual.ensures.1
    (at_place c.tokens-tokens.ensures.own.cut (rw c.tokens-tokens.ensures.is at c.in_err-reach.ensures.err))

pub returns-in_err-reach-clause-placed : goal.returns-in_err-reach-clause-placed
returns-in_err-reach-clause-placed c =
    passed_up c.from_residual.result _ (IsWithin c.args.source.now.text) c.from_residual.ensures.1
    (placed_within c.args.source.now c.tokens-tokens.ensures.own.stand _
    (rw c.tokens-tokens.ensures.is at c.in_err-reach.ensures.err))

pub returns-in_err-expect-clause-err : goal.returns-in_err-expect-clause-err
returns-in_err-expect-clause-err c =
    passed_up c.from_residual-in_err-expect.result _ (IsPathRefused c.args.source.now.text)
    c.from_residual-in_err-expect.ensures.1
    (at_place c.tokens-tokens.ensures.own.cut (rw c.tokens-tokens.ensures.is at c.in_err-expect.ensures.err))

pub returns-in_err-expect-clause-placed : goal.returns-in_err-expect-clause-placed
returns-in_err-expect-clause-placed c =
    passed_up c.from_residual-in_err-expect.result _ (IsWithin c.args.source.now.text)
    c.from_residual-in_err-expect.ensures.1
    (placed_within c.args.source.now c.tokens-tokens.ensures.own.stand _
    (rw c.tokens-tokens.ensures.is at c.in_err-expect.ensures.err))

pub returns-in_err-name-clause-err : goal.returns-in_err-name-clause-err
returns-in_err-name-clause-err c =
    passed_up c.from_residual-in_err-name.result _ (IsPathRefused c.args.source.now.text)
    c.from_residual-in_err-name.ensures.1
    (at_escape c.tokens-tokens.ensures.own.cut c.in_err-name.ensures.err)

pub returns-in_err-name-clause-placed : goal.returns-in_err-name-clause-placed
returns-in_err-name-clause-placed c =
    passed_up c.from_residual-in_err-name.result _ (IsWithin c.args.source.now.text)
    c.from_residual-in_err-name.ensures.1
    (refused_within c.args.source.now c.tokens-tokens.ensures.own.stand _ c.in_err-name.ensures.err)

pub returns-clause-ok : goal.returns-clause-ok
returns-clause-ok c =
    name_read c.tokens-tokens.ensures.own.cut (path_up_to (rw c.tokens-tokens.ensures.is at c.in_ok-reach.ensures.ok))
    (rw c.tokens-tokens.ensures.is at c.in_ok-expect.ensures.is) c.in_ok-name.ensures.ok
