use Rattle.std.proofs.Common.{refl, codes}
use Rattle.std.proofs.Output.{has_written_append}
use Rattle.cedar_text_printer.specs.Escapes.{written_quoted}
use Rattle.cedar_text_printer.proofs.names.write_index.Goals as goal

pub returns : goal.returns
returns g c = λ plain ok.
    let start = c.in_ok-write_str.ensures.writes plain refl in
    let attr = c.in_ok-write_text.ensures start.plain refl in
    has_written_append _ _ (codes "[") _ _ _ start (has_written_append _ _ (written_quoted c.args.attr.now) _ _ _ attr (c.write_str-2.ensures.writes attr.plain ok))
