use Rattle.std.proofs.Common.{refl, codes}
use Rattle.std.proofs.Output.{has_written_append}
use Rattle.cedar_text_printer.proofs.policies.write_head.Goals as goal

pub returns : goal.returns
returns g c = λ plain ok.
    let opens = c.in_ok-write_str.ensures.writes plain refl in
    let one = c.in_ok-write_principal.ensures opens.plain refl in
    let then = c.in_ok-write_str-2.ensures.writes one.plain refl in
    let two = c.in_ok-write_action.ensures then.plain refl in
    let last = c.in_ok-write_str-3.ensures.writes two.plain refl in
    let three = c.in_ok-write_resource.ensures last.plain refl in
    let closes = c.write_str-4.ensures.writes three.plain ok in
    has_written_append _ _ (codes "(") _ _ _ opens (has_written_append _ _ _ _ _ _ one (has_written_append _ _ (codes ", ") _ _ _ then (has_written_append _ _ _ _ _ _ two (has_written_append _ _ (codes ", ") _ _ _ last (has_written_append _ _ _ _ _ _ three closes)))))
