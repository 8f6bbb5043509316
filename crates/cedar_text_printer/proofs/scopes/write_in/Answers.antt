use Rattle.std.proofs.Common.{refl, codes}
use Rattle.std.proofs.Output.{has_written_append}
use Rattle.cedar_text_printer.proofs.scopes.write_in.Goals as goal

pub returns : goal.returns
returns g c = λ plain ok.
    let start = c.in_ok-write_str.ensures.writes plain refl in
    has_written_append _ _ (codes " in ") _ _ _ start (c.write_expr.ensures start.plain ok)
