use Rattle.std.proofs.Common.{refl, codes}
use Rattle.std.proofs.Output.{has_written_append}
use Rattle.cedar_text_printer.proofs.policies.write_when.Goals as goal

pub returns : goal.returns
returns g c = λ plain ok.
    let start = c.in_ok-write_str.ensures.writes plain refl in
    let condition = c.in_ok-write_expr.ensures start.plain refl in
    has_written_append _ _ (codes "\nwhen { ") _ _ _ start (has_written_append _ _ _ _ _ _ condition (c.write_str-2.ensures.writes condition.plain ok))
