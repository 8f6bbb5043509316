use Rattle.std.proofs.Common.{sym}
use Rattle.cedar_text_lexer.proofs.Fronts.{double_cut, single_cut}
use Rattle.cedar_text_lexer.proofs.Lows.{double_boundary, single_boundary}
use Rattle.cedar_text_lexer.proofs.lexer.operator.Goals as goal

pub returns-in-Some-clause-within : goal.returns-in-Some-clause-within
returns-in-Some-clause-within c = double_boundary c.args.rest.now c.in-Some.kind c.utf8.rest (sym (rw c.as_bytes-bytes.ensures.value at c.in-Some.ensures))

pub returns-in-Some-clause-front : goal.returns-in-Some-clause-front
returns-in-Some-clause-front c = double_cut c.args.rest.now c.in-Some.kind (sym (rw c.as_bytes-bytes.ensures.value at c.in-Some.ensures))

pub returns-in-Some-single_operator-clause-within : goal.returns-in-Some-single_operator-clause-within
returns-in-Some-single_operator-clause-within c = single_boundary c.args.rest.now c.in-Some-single_operator.kind c.utf8.rest (sym (rw c.as_bytes-bytes.ensures.value at c.in-Some-single_operator.ensures))

pub returns-in-Some-single_operator-clause-front : goal.returns-in-Some-single_operator-clause-front
returns-in-Some-single_operator-clause-front c = single_cut c.args.rest.now c.in-Some-single_operator.kind (sym (rw c.as_bytes-bytes.ensures.value at c.in-Some-single_operator.ensures)) (sym (rw c.as_bytes-bytes.ensures.value at c.in-None.ensures))
