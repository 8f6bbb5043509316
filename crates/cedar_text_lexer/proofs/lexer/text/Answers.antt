use Rattle.std.proofs.Common.{arith}
use Rattle.cedar_text_lexer.proofs.Fronts.{text_cut, unclosed_cut, text_boundary, closing}
use Rattle.cedar_text_lexer.proofs.lexer.text.Goals as goal

pub overflow_add-result : goal.overflow_add-result
overflow_add-result c = omega (arith, (closing c.args.rest.now c.in-Some.quote (rw c.as_bytes.ensures.value at c.in-Some.ensures)).0)

pub returns-in-Some-clause-within : goal.returns-in-Some-clause-within
returns-in-Some-clause-within c = text_boundary c.args.rest.now c.in-Some.quote c.utf8.rest (rw c.as_bytes.ensures.value at c.in-Some.ensures)

pub returns-in-Some-clause-front : goal.returns-in-Some-clause-front
returns-in-Some-clause-front c = text_cut c.args.rest.now c.in-Some.quote c.requires (rw c.as_bytes.ensures.value at c.in-Some.ensures)

pub returns-in-None-clause-front : goal.returns-in-None-clause-front
returns-in-None-clause-front c = unclosed_cut c.args.rest.now c.requires (rw c.as_bytes.ensures.value at c.in-None.ensures)
