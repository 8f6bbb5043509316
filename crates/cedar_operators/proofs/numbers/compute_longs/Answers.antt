use Rattle.std.proofs.Common.{◌≡◌, Some, sym, ap, ◌∙◌, w64, to_z, of_z, rules}
use Rattle.cedar_model.specs.Failures.{answers_value}
use Rattle.cedar_names.specs.Leaves.{binary_view}
use Rattle.cedar_operators.proofs.Expecting.{goes_on}
use Rattle.cedar_operators.proofs.Longs.{long_kept, arithmetic_is_operation}
use Rattle.cedar_operators.proofs.numbers.compute_longs.Goals as goal

pub returns-in-Some : goal.returns-in-Some
returns-in-Some c s v w left right =
    let m : to_z w64 (of_z w64 c.args.m) ≡ c.args.m = search rules in
    let n : to_z w64 (of_z w64 c.args.n) ≡ c.args.n = search rules in
    let k : to_z w64 (of_z w64 c.in-Some.k) ≡ c.in-Some.k = search rules in
    goes_on _ _ _ _ _ (left ∙ ap Some (sym m)) (goes_on _ _ _ _ _ (right ∙ ap Some (sym n)) (ap answers_value c.long_value.ensures ∙ sym (long_kept _ _ _ c.in-Some.ensures.0 (k ∙ c.in-Some.ensures.1))))
    ∙ sym (arithmetic_is_operation s (binary_view c.args.op) v w c.requires)
