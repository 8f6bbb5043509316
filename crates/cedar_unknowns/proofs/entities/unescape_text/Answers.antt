use Rattle.std.proofs.Common.{◌∙◌, append-nil}
use Rattle.std.proofs.lemmas.List.{nil_from_length}
use Rattle.cedar_unknowns.proofs.Quoted.{unescaped-nil}
use Rattle.cedar_unknowns.proofs.entities.unescape_text.Goals as goal

pub characters-preserved : goal.characters-preserved
characters-preserved c = c.in_ok-is_escaped.ensures _ ∙ (rw c.in-Some.ensures.steps.0 at c.characters.invariant)

pub returns : goal.returns
returns c =
    let end = nil_from_length _ c.in-None.ensures.steps.0.0 in
    rw (end, unescaped-nil, append-nil) at c.characters.invariant
