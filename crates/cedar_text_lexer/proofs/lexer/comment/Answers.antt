use Rattle.cedar_text_lexer.proofs.Fronts.{comment_cut, comment_boundary}
use Rattle.cedar_text_lexer.proofs.lexer.comment.Goals as goal

pub returns-clause-within : goal.returns-clause-within
returns-clause-within c = comment_boundary c.args.rest.now c.line_end.result (rw c.as_bytes.ensures.value at c.line_end.ensures) c.requires

pub returns-clause-front : goal.returns-clause-front
returns-clause-front c = comment_cut c.args.rest.now c.line_end.result (rw c.as_bytes.ensures.value at c.line_end.ensures) c.requires
