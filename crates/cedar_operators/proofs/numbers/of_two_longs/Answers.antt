use Rattle.std.proofs.Common.{◌≡◌, Some, sym, ap, ◌∙◌, w64, to_z, of_z, rules}
use Rattle.std.specs.Ordering.{is_eq, is_lt, is_le}
use Rattle.cedar_model.specs.Failures.{answers_value, answers_bool}
use Rattle.cedar_model.specs.Operators.{binary_answer}
use Rattle.cedar_names.specs.declared.operators.BinaryOp.{BinaryOp}
use Rattle.cedar_names.specs.Leaves.{binary_view}
use Rattle.cedar_operators.proofs.Longs.{equal_longs, less_longs, less_eq_longs}
use Rattle.cedar_operators.proofs.numbers.of_two_longs.Goals as goal

pub returns-in-Eq : goal.returns-in-Eq
returns-in-Eq c s v w left right =
    let m : to_z w64 (of_z w64 c.args.m) ≡ c.args.m = search rules in
    let n : to_z w64 (of_z w64 c.args.n) ≡ c.args.n = search rules in
    ap answers_value c.bool_value.ensures ∙ ap answers_bool (c.is_eq.ensures ∙ ap is_eq c.cmp.ensures) ∙ equal_longs s v w _ _ (left ∙ ap Some (sym m)) (right ∙ ap Some (sym n))
    ∙ ap (λ (op : BinaryOp). binary_answer s (binary_view op) v w) (sym c.in-Eq.is)

pub returns-in-Less : goal.returns-in-Less
returns-in-Less c s v w left right =
    let m : to_z w64 (of_z w64 c.args.m) ≡ c.args.m = search rules in
    let n : to_z w64 (of_z w64 c.args.n) ≡ c.args.n = search rules in
    ap answers_value c.bool_value-in-Less.ensures ∙ ap answers_bool (c.is_lt.ensures ∙ ap is_lt c.cmp-in-Less.ensures) ∙ less_longs s v w _ _ (left ∙ ap Some (sym m)) (right ∙ ap Some (sym n))
    ∙ ap (λ (op : BinaryOp). binary_answer s (binary_view op) v w) (sym c.in-Less.is)

pub returns-in-LessEq : goal.returns-in-LessEq
returns-in-LessEq c s v w left right =
    let m : to_z w64 (of_z w64 c.args.m) ≡ c.args.m = search rules in
    let n : to_z w64 (of_z w64 c.args.n) ≡ c.args.n = search rules in
    ap answers_value c.bool_value-in-LessEq.ensures ∙ ap answers_bool (c.is_le.ensures ∙ ap is_le c.cmp-in-LessEq.ensures) ∙ less_eq_longs s v w _ _ (left ∙ ap Some (sym m)) (right ∙ ap Some (sym n))
    ∙ ap (λ (op : BinaryOp). binary_answer s (binary_view op) v w) (sym c.in-LessEq.is)
