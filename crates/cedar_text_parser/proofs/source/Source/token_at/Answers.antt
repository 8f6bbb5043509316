use Rattle.cedar_text_parser.proofs.Places.{token_stands}
use Rattle.cedar_text_parser.proofs.source.Source.token_at.Goals as goal

pub returns-clause-stands : goal.returns-clause-stands
returns-clause-stands c =
    rw (c.token_at.ensures, ← c.self.view_is)
    (token_stands _ c.args.index (rw (← c.self.view_is) at c.requires) c.self.invariant.stand)
