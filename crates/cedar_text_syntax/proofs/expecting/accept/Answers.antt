use denote.Enum.Bare.{same_true}
use Rattle.std.proofs.Common.{rules, sym, ◌∙◌}
use Rattle.cedar_text_lexer.specs.contracts.tokens.Kind.{the_type}
use Rattle.cedar_text_syntax.proofs.expecting.accept.Goals as goal

pub returns-then-eq-clause-is : goal.returns-then-eq-clause-is
returns-then-eq-clause-is c = sym c.kind_at.ensures ∙ same_true the_type (search rules) _ _ (sym c.if-eq.ensures)
