use Rattle.std.proofs.Common.{◌∙◌, sym}
use Rattle.cedar_operators.proofs.Stored.{path_ends, path_stops, path_walks, texts_of_none}
use Rattle.cedar_operators.proofs.attributes.has_path.Goals as goal

pub steps-preserved : goal.steps-preserved
steps-preserved c =
    sym (path_walks _ _ _ _ _ _ c.in-WalksOn.ensures) ∙ rw c.in-Some.ensures.cases.0 at c.steps.invariant

pub returns-in-Stops : goal.returns-in-Stops
returns-in-Stops c =
    λ ok. path_stops _ _ _ _ _ _ c.in-Stops.ensures ok ∙ rw c.in-Some.ensures.cases.0 at c.steps.invariant

pub returns : goal.returns
returns c =
    λ ok. c.has_last.ensures ok ∙ sym (path_ends _ _ _) ∙ rw (texts_of_none c.steps.others.now c.in_default.ensures.cases) at c.steps.invariant
