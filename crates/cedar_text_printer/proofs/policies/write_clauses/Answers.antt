use Rattle.std.proofs.Common.{refl}
use Rattle.std.proofs.Output.{has_written_append}
use Rattle.cedar_text_printer.proofs.policies.write_clauses.Goals as goal

pub returns : goal.returns
returns g c = λ plain ok.
    let one = c.in_ok-write_principal_clause.ensures plain refl in
    let two = c.in_ok-write_action_clause.ensures one.plain refl in
    let three = c.in_ok-write_resource_clause.ensures two.plain refl in
    has_written_append _ _ _ _ _ _ one (has_written_append _ _ _ _ _ _ two (has_written_append _ _ _ _ _ _ three (c.write_own_clause.ensures three.plain ok)))
