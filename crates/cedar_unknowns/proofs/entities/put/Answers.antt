use Rattle.std.proofs.Common.{◌≡◌, string_bytes, arith}
use Rattle.cedar_unknowns.proofs.Quoted.{put_escaped, put_slash, put_plain}
use Rattle.cedar_unknowns.proofs.entities.put.Goals as goal

pub returns-in_ok-push : goal.returns-in_ok-push
returns-in_ok-push c =
    put_escaped (string_bytes c.args.plain.now) (string_bytes c.push.new.self) c.args.character c.args.is_escaped c.if-is_escaped.true c.in_ok-push.ensures.bytes

pub returns-then-character-eq92 : goal.returns-then-character-eq92
returns-then-character-eq92 c =
    let slash : c.args.character ≡ 92 = grind arith in
    put_slash (string_bytes c.args.plain.now) c.args.character c.args.is_escaped c.if-is_escaped.false slash

pub returns-in_ok-push-2 : goal.returns-in_ok-push-2
returns-in_ok-push-2 c =
    let other : c.args.character ≡ 92 → ⊥ = λ e. grind arith in
    put_plain (string_bytes c.args.plain.now) (string_bytes c.push-else-character-eq92.new.self) c.args.character c.args.is_escaped c.if-is_escaped.false other c.in_ok-push-2.ensures.bytes
