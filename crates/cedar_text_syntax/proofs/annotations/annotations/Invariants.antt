use Rattle.cedar_text_syntax.specs.PolicyGrammar.{AreAnnotations}
use Rattle.cedar_text_syntax.proofs.annotations.annotations.Given as goal

abbrev pub invariant-loop : goal.invariant-loop
invariant-loop l = AreAnnotations l.tokens l.index l.next l.annotations.items
