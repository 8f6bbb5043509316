use Rattle.cedar_text_syntax.proofs.Erring.{end_placed}
use Rattle.cedar_text_syntax.proofs.expecting.at_end.Goals as goal

pub returns : goal.returns
returns c = end_placed c.end_of-end.ensures
