use Rattle.std.proofs.Common.{refl, ap, codes}
use Rattle.std.proofs.Output.{has_written_append, has_written_of_eq}
use Rattle.cedar_names.specs.Texts.{quoted}
use Rattle.cedar_names.proofs.texts.pieces.write_has.Goals as goal

pub returns : goal.returns
returns g c = λ plain ok.
    let start = c.in_ok-write_str.ensures.writes plain refl in
    has_written_append _ _ (codes " has ") _ _ _ start (has_written_of_eq _ _ _ _ _ (ap quoted c.as_str.ensures.value) (c.write_quoted.ensures start.plain ok))
