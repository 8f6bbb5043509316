use Rattle.std.proofs.Common.{◌≡◌, Some, ap, sym, ◌∙◌, w64, to_z, of_z, rules}
use Rattle.cedar_model.specs.Failures.{fails, answers_value}
use Rattle.cedar_operators.proofs.Expecting.{goes_on}
use Rattle.cedar_operators.proofs.Longs.{long_kept, long_over}
use Rattle.cedar_operators.proofs.numbers.arithmetic.Goals as goal

pub returns-in-Some : goal.returns-in-Some
returns-in-Some c =
    let m : to_z w64 (of_z w64 c.in-Ok.m) ≡ c.in-Ok.m = search rules in
    let n : to_z w64 (of_z w64 c.in-Ok-get_as_long.n) ≡ c.in-Ok-get_as_long.n = search rules in
    let k : to_z w64 (of_z w64 c.in-Some.k) ≡ c.in-Some.k = search rules in
    λ ok. goes_on _ _ _ _ _ (c.in-Ok.ensures.ok ∙ ap Some (sym m)) (goes_on _ _ _ _ _ (c.in-Ok-get_as_long.ensures.ok ∙ ap Some (sym n)) (ap answers_value c.long_value.ensures ∙ sym (long_kept _ _ _ c.in-Some.ensures.0 (k ∙ c.in-Some.ensures.1))))

pub returns-in-None : goal.returns-in-None
returns-in-None c =
    let m : to_z w64 (of_z w64 c.in-Ok.m) ≡ c.in-Ok.m = search rules in
    let n : to_z w64 (of_z w64 c.in-Ok-get_as_long.n) ≡ c.in-Ok-get_as_long.n = search rules in
    λ ok. goes_on _ _ _ _ _ (c.in-Ok.ensures.ok ∙ ap Some (sym m)) (goes_on _ _ _ _ _ (c.in-Ok-get_as_long.ensures.ok ∙ ap Some (sym n)) (ap fails c.overflow.ensures ∙ sym (long_over _ _ c.in-None.ensures)))
