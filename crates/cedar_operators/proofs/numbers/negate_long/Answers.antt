use Rattle.std.proofs.Common.{◌≡◌, Some, ap, sym, ◌∙◌, w64, to_z, of_z, rules}
use Rattle.cedar_model.specs.Failures.{fails, answers_value}
use Rattle.cedar_model.specs.Operators.{unary_answer}
use Rattle.cedar_operators.proofs.Expecting.{goes_on}
use Rattle.cedar_operators.proofs.Longs.{long_kept, long_over}
use Rattle.cedar_operators.proofs.numbers.negate_long.Goals as goal

pub returns-in-Some : goal.returns-in-Some
unfolding unary_answer
returns-in-Some c =
    let n : to_z w64 (of_z w64 c.in-Ok.n) ≡ c.in-Ok.n = search rules in
    let m : to_z w64 (of_z w64 c.in-Some.m) ≡ c.in-Some.m = search rules in
    λ ok. goes_on _ _ _ _ _ (c.in-Ok.ensures.ok ∙ ap Some (sym n)) (ap answers_value c.long_value.ensures ∙ sym (long_kept _ _ _ c.in-Some.ensures.0 (m ∙ c.in-Some.ensures.1)))

pub returns-in-None : goal.returns-in-None
unfolding unary_answer
returns-in-None c =
    let n : to_z w64 (of_z w64 c.in-Ok.n) ≡ c.in-Ok.n = search rules in
    λ ok. goes_on _ _ _ _ _ (c.in-Ok.ensures.ok ∙ ap Some (sym n)) (ap fails c.unary_overflow.ensures ∙ sym (long_over _ _ c.in-None.ensures))
