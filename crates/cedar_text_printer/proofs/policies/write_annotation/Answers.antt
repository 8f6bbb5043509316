use Rattle.std.proofs.Common.{refl, ap, codes}
use Rattle.std.specs.Rc.{rc_str_bytes}
use Rattle.std.proofs.Output.{has_written_append, has_written_of_eq}
use Rattle.cedar_text_printer.specs.Escapes.{written_quoted}
use Rattle.cedar_text_printer.proofs.policies.write_annotation.Goals as goal

pub returns : goal.returns
returns g c = λ plain ok.
    let start = c.in_ok-write_str.ensures.writes plain refl in
    let key = c.in_ok-write_str-2.ensures.writes start.plain refl in
    let opens = c.in_ok-write_str-3.ensures.writes key.plain refl in
    let value = c.in_ok-write_text.ensures opens.plain refl in
    let closes = c.write_str-4.ensures.writes value.plain ok in
    has_written_append _ _ (codes "@") _ _ _ start (has_written_append _ _ (rc_str_bytes c.args.key.now) _ _ _ (has_written_of_eq _ _ _ _ _ c.as_str.ensures.value key) (has_written_append _ _ (codes "(") _ _ _ opens (has_written_append _ _ (written_quoted (rc_str_bytes c.args.value.now)) _ _ _ (has_written_of_eq _ _ _ _ _ (ap written_quoted c.as_str-2.ensures.value) value) closes)))
