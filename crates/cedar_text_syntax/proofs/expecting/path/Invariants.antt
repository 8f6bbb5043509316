use Rattle.cedar_text_lexer.specs.Sequence.{start_at}
use Rattle.cedar_text_syntax.specs.Grammar.{IsPath}
use Rattle.cedar_text_syntax.proofs.expecting.path.Given as goal

abbrev pub invariant-loop : goal.invariant-loop
invariant-loop l = IsPath l.tokens l.index l.reach.next (start_at l.tokens l.index) l.reach.end
