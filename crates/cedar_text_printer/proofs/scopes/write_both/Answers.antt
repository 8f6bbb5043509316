use Rattle.std.proofs.Common.{refl}
use Rattle.std.proofs.Output.{has_written_append}
use Rattle.cedar_text_printer.proofs.scopes.write_both.Goals as goal

pub returns : goal.returns
returns g c = λ plain ok.
    let left = c.in_ok-write_expr.ensures plain refl in
    has_written_append _ _ _ _ _ _ left (c.write_ancestor.ensures left.plain ok)
