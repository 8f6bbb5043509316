use Rattle.std.proofs.Common.{refl, codes}
use Rattle.std.proofs.Output.{has_written_append}
use Rattle.cedar_names.specs.Texts.{quoted}
use Rattle.cedar_names.proofs.texts.pieces.write_unknown.Goals as goal

pub returns : goal.returns
returns g c = λ plain ok.
    let start = c.in_ok-write_str.ensures.writes plain refl in
    let name = c.in_ok-write_quoted.ensures start.plain refl in
    has_written_append _ _ (codes "unknown(") _ _ _ start (has_written_append _ _ (quoted c.args.name.now) _ _ _ name (c.write_str-2.ensures.writes name.plain ok))
