use Rattle.std.proofs.Common.{◌≡◌, map, arith}
use Rattle.cedar_names.specs.Leaves.{part_view}
use Rattle.cedar_builder.proofs.Patterns.{put_escaped, put_slash}
use Rattle.cedar_builder.proofs.expressions.patterns.put.Goals as goal

pub returns-in_ok-push : goal.returns-in_ok-push
returns-in_ok-push c =
    put_escaped (map part_view c.args.elems.now.items) (map part_view c.push.new.elems.items) c.args.is_escaped c.args.character c.if-is_escaped.true c.in_ok-push.ensures

pub returns-then-character-eq92 : goal.returns-then-character-eq92
returns-then-character-eq92 c =
    let slash : c.args.character ≡ 92 = grind arith in
    put_slash (map part_view c.args.elems.now.items) c.args.is_escaped c.args.character c.if-is_escaped.false slash
