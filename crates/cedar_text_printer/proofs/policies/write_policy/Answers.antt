use Rattle.std.proofs.Common.{refl}
use Rattle.std.proofs.Output.{has_written_append}
use Rattle.cedar_text_printer.proofs.policies.write_policy.Goals as goal

pub returns : goal.returns
returns g c = λ plain ok.
    let notes = c.in_ok-write_notes.ensures plain refl in
    let effect = c.in_ok-write_effect.ensures notes.plain refl in
    let head = c.in_ok-write_head.ensures effect.plain refl in
    let clauses = c.in_ok-write_clauses.ensures head.plain refl in
    has_written_append _ _ _ _ _ _ notes (has_written_append _ _ _ _ _ _ effect (has_written_append _ _ _ _ _ _ head (has_written_append _ _ _ _ _ _ clauses (c.write_str.ensures.writes clauses.plain ok))))
