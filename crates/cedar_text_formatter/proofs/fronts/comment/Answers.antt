use Rattle.cedar_text_formatter.specs.Fronts.{IsComment}
use Rattle.cedar_text_formatter.proofs.Splits.{OtherFront, comment_front}
use Rattle.cedar_text_formatter.proofs.fronts.comment.Goals as goal

known : (c : goal.After-line_end) → OtherFront IsComment c.args.at c.args.rest.now c.args.left.now c.line_end.result
known c = comment_front c.line_end.result c.requires.tokens c.requires.later c.requires.is (rw c.as_bytes.ensures.value at c.line_end.ensures)

pub returns-clause-within : goal.returns-clause-within
returns-clause-within c = (known c).within

pub returns-clause-front : goal.returns-clause-front
returns-clause-front c = (known c).is

pub returns-clause-tokens : goal.returns-clause-tokens
returns-clause-tokens c = (known c).tokens
