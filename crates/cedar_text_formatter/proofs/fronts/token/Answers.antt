use Rattle.std.proofs.Common.{◌≡◌, ◌-◌, ◌∙◌, ap}
use Rattle.cedar_text_lexer.specs.declared.tokens.Token.{Token}
use Rattle.cedar_text_lexer.specs.Sequence.{end_at}
use Rattle.cedar_text_formatter.proofs.Splits.{TokenFront, token_front}
use Rattle.cedar_text_formatter.proofs.fronts.token.Goals as goal

known : (c : goal.After-saturating_sub) → TokenFront c.args.at c.args.rest.now c.args.left.now c.saturating_sub.result
known c =
    let len : c.saturating_sub.result ≡ end_at c.args.left.now 0 - c.args.at = c.saturating_sub.ensures ∙ ap (λ (t : Token). t.end - c.args.at) c.token_at-token.ensures in
    rw len (token_front c.requires.tokens c.requires.some c.requires.readable c.requires.here)

pub returns-clause-some : goal.returns-clause-some
returns-clause-some c = (known c).some

pub returns-clause-within : goal.returns-clause-within
returns-clause-within c = (known c).within c.utf8.rest

pub returns-clause-count : goal.returns-clause-count
returns-clause-count c = (known c).count

pub returns-clause-front : goal.returns-clause-front
returns-clause-front c = rw c.token_at-token.ensures ((known c).readable, (known c).is)

pub returns-clause-tokens : goal.returns-clause-tokens
returns-clause-tokens c = (known c).tokens
