use Rattle.std.proofs.Common.{refl, ap, codes}
use Rattle.std.proofs.Output.{has_written_append, has_written_of_eq}
use Rattle.std.specs.Rc.{rc_str_bytes}
use Rattle.cedar_text_printer.specs.Escapes.{written_quoted}
use Rattle.cedar_text_printer.proofs.names.write_unknown.Goals as goal

pub returns : goal.returns
returns g c = λ plain ok.
    let start = c.in_ok-write_str.ensures.writes plain refl in
    let name = c.in_ok-write_text.ensures start.plain refl in
    has_written_append _ _ (codes "unknown(") _ _ _ start (has_written_append _ _ (written_quoted (rc_str_bytes c.args.name.now)) _ _ _ (has_written_of_eq _ _ _ _ _ (ap written_quoted c.as_str.ensures.value) name) (c.write_str-2.ensures.writes name.plain ok))
