use Rattle.std.proofs.Common.{◌≡◌, Some, sym, ap, ◌∙◌, w64, to_z, of_z, rules}
use Rattle.cedar_operators.proofs.operators.of_longs.Goals as goal

pub returns-in-Some-long_in : goal.returns-in-Some-long_in
returns-in-Some-long_in c s =
    let m : to_z w64 (of_z w64 c.in-Some.m) ≡ c.in-Some.m = search rules in
    let n : to_z w64 (of_z w64 c.in-Some-long_in.n) ≡ c.in-Some-long_in.n = search rules in
    c.of_two_longs.ensures s c.args.a.now.what c.args.b.now.what (sym c.in-Some.ensures ∙ ap Some (sym m)) (sym c.in-Some-long_in.ensures ∙ ap Some (sym n))
