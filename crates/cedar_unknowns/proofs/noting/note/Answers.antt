use Rattle.std.proofs.Common.{ap, ◌∙◌}
use Rattle.cedar_unknowns.specs.Occurrences.{asked, asked_each}
use Rattle.cedar_unknowns.proofs.Listed.{inserted}
use Rattle.cedar_unknowns.proofs.noting.note.Goals as goal

pub returns : goal.returns
returns c =
    ap asked_each c.in_ok-insert.ensures.keys ∙ inserted c.args.found.now.keys c.in_ok-copy_unknown.field-0 (asked c.args.unknown.now) c.in_ok-copy_unknown.ensures
