use Rattle.std.proofs.Common.{refl, codes}
use Rattle.std.proofs.Output.{has_written_append}
use Rattle.cedar_text_printer.proofs.names.write_one_further.Goals as goal

pub returns : goal.returns
returns g c = λ plain ok.
    let start = c.in_ok-write_str.ensures.writes plain refl in
    has_written_append _ _ (codes ".") _ _ _ start (c.write_key.ensures start.plain ok)
