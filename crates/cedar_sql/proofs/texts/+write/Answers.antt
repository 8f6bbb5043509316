use Rattle.std.proofs.Common.{refl, codes}
use Rattle.std.proofs.Output.{has_written_append}
use Rattle.cedar_sql.proofs.texts.+write.Goals as goal

pub write_one-returns : goal.write_one-returns
write_one-returns g t c = λ plain ok.
    let before = c.in_ok-write_str.ensures.writes plain refl in
    let part = c.in_ok-write_term.ensures before.plain refl in
    has_written_append _ _ _ _ _ _ before (has_written_append _ _ _ _ _ _ part (c.write_str-2.ensures.writes part.plain ok))

pub write_two-returns : goal.write_two-returns
write_two-returns g t c = λ plain ok.
    let before = c.in_ok-write_str.ensures.writes plain refl in
    let first = c.in_ok-write_term.ensures before.plain refl in
    has_written_append _ _ _ _ _ _ before (has_written_append _ _ _ _ _ _ first (c.write_one.ensures first.plain ok))

pub write_choice-returns : goal.write_choice-returns
write_choice-returns g t c = λ plain ok.
    let before = c.in_ok-write_str.ensures.writes plain refl in
    let test = c.in_ok-write_term.ensures before.plain refl in
    has_written_append _ _ (codes "CASE ") _ _ _ before (has_written_append _ _ _ _ _ _ test (c.write_two.ensures test.plain ok))
