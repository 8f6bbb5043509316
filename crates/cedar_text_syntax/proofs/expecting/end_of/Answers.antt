use Rattle.std.proofs.Common.{◌≡◌, length, arith}
use Rattle.cedar_text_syntax.proofs.Erring.{no_token}
use Rattle.cedar_text_syntax.proofs.expecting.end_of.Goals as goal

pub returns-then-is_empty : goal.returns-then-is_empty
returns-then-is_empty c =
    let none : length c.args.tokens.now ≡ 0 = grind (arith, c.is_empty.ensures, c.if-is_empty.true) in
    no_token c.args.tokens.now none
