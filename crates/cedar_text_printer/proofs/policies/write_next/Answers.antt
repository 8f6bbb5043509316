use Rattle.std.proofs.Common.{refl}
use Rattle.std.proofs.Output.{has_written_append, has_written_of_eq}
use Rattle.cedar_text_printer.proofs.policies.write_next.Goals as goal

pub returns : goal.returns
returns g c = λ plain ok.
    let start = c.in_ok-write_str.ensures.writes plain refl in
    has_written_append _ _ _ _ _ _ (has_written_of_eq _ _ _ _ _ c.separator.ensures start) (c.write_policy.ensures start.plain ok)
