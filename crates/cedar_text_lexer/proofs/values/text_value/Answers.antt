use Rattle.cedar_text_lexer.proofs.Quotes.{text_quotes, no_end}
use Rattle.cedar_text_lexer.proofs.values.text_value.Goals as goal

pub inside-requires : goal.inside-requires
inside-requires c = rw c.word.ensures (text_quotes c.args.token.kind _ _ (c.requires.stands.is (no_end c.args.token.kind c.requires.is)) c.requires.is)
