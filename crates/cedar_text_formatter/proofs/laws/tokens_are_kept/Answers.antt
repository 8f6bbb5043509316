use Rattle.cedar_text_formatter.proofs.Lexed.{kept}
use Rattle.cedar_text_formatter.proofs.laws.tokens_are_kept.Goals as goal

pub returns : goal.returns
returns c = kept
