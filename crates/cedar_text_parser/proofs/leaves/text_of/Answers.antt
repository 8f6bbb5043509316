use Rattle.std.proofs.Common.{false}
use Rattle.cedar_text_parser.proofs.Places.{escape_refused}
use Rattle.cedar_text_parser.proofs.leaves.text_of.Goals as goal

pub returns-in-Err-clause-err : goal.returns-in-Err-clause-err
returns-in-Err-clause-err c =
    escape_refused c.args.source.now false c.in-Err.error c.requires.within c.requires.is
    (rw (c.token_at.ensures.is, c.text.ensures.is) at c.in-Err.ensures.refused)
