use Rattle.cedar_text_lexer.proofs.Fronts.{number_cut, number_boundary}
use Rattle.cedar_text_lexer.proofs.lexer.number.Goals as goal

pub returns-clause-within : goal.returns-clause-within
returns-clause-within c = number_boundary c.args.rest.now c.number_end.result (rw c.as_bytes.ensures.value at c.number_end.ensures) c.requires c.utf8.rest

pub returns-clause-front : goal.returns-clause-front
returns-clause-front c = number_cut c.args.rest.now c.number_end.result (rw c.as_bytes.ensures.value at c.number_end.ensures) c.requires
