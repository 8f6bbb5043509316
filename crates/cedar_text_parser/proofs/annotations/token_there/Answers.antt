use Rattle.cedar_text_parser.proofs.Places.{placed_within}
use Rattle.cedar_text_parser.proofs.annotations.token_there.Goals as goal

pub returns-else-index-len-clause-placed : goal.returns-else-index-len-clause-placed
returns-else-index-len-clause-placed c =
    placed_within c.args.source.now c.tokens.ensures.own.stand _ (rw c.tokens.ensures.is at c.expected_at.ensures)
