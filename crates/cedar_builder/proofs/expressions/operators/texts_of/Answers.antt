use Rattle.std.proofs.Common.{refl, ◌<◌, [], length, arith, map}
use Rattle.std.proofs.lemmas.List.{get_or-map, length-map, take_more}
use Rattle.cedar_builder.proofs.expressions.operators.texts_of.Goals as goal

pub texts-preserved : goal.texts-preserved
texts-preserved c =
    let lenm = length-map c.args.texts.now (λ t. t.now) in
    let lt : c.texts.i < length (map (λ t. t.now) c.args.texts.now) = omega (arith, c.texts-test.true) in
    let gm = get_or-map (λ t. t.now) c.args.texts.now c.texts.i _ [] c.texts-test.true in
    rw (c.in_ok-put_text.ensures, c.texts.invariant, take_more (map (λ t. t.now) c.args.texts.now) c.texts.i [] lt, gm) refl
