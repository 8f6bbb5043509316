use Rattle.cedar_text_formatter.specs.Fronts.{IsBlank}
use Rattle.cedar_text_formatter.proofs.Splits.{OtherFront, blank_front, first_long}
use Rattle.cedar_text_formatter.proofs.fronts.blank.Goals as goal

known : (c : goal.After-first_len) → OtherFront IsBlank c.args.at c.args.rest.now c.args.left.now c.first_len.result
known c = blank_front c.first_len.result c.requires.tokens c.requires.later c.requires.no c.first_len.ensures c.utf8.rest

pub returns-clause-some : goal.returns-clause-some
returns-clause-some c = first_long c.first_len.ensures

pub returns-clause-within : goal.returns-clause-within
returns-clause-within c = (known c).within

pub returns-clause-front : goal.returns-clause-front
returns-clause-front c = (known c).is

pub returns-clause-tokens : goal.returns-clause-tokens
returns-clause-tokens c = (known c).tokens
