use Rattle.std.proofs.Common.{◌≡◌, refl, rules}
use Rattle.cedar_expressions.specs.View.{expr_loc}
use Rattle.cedar_interpreter.proofs.operators.walk_again.Goals as goal

pub returns-in-Ok : goal.returns-in-Ok
returns-in-Ok c =
    let place : expr_loc c.in-Ok.whole.value ≡ expr_loc c.args.whole.now.value = search rules in
    ((c.args.read.1, refl, refl, refl), refl, place)
