use Rattle.std.proofs.Common.{Some, ap, ◌∙◌}
use Rattle.cedar_operators.proofs.Read.{read_here, read_later, read_nowhere, last_read}
use Rattle.cedar_operators.proofs.Stored.{texts_of_none}
use Rattle.cedar_operators.proofs.stored_residuals.path_residual.Goals as goal

pub steps-preserved : goal.steps-preserved
steps-preserved c =
    read_later _ _ _ _ _ _ c.in-None.ensures c.in-Some-next_value.ensures
    ∙ rw c.in-Some.ensures.cases.0 at c.steps.invariant

pub returns-in-Some-attribute_residual : goal.returns-in-Some-attribute_residual
returns-in-Some-attribute_residual c =
    ap Some c.in_ok-on_path-in-Some-attribute_residual.ensures
    ∙ read_here _ _ _ _ _ _ c.in-Some-attribute_residual.ensures ∙ rw c.in-Some.ensures.cases.0 at c.steps.invariant

pub returns-in-None-next_value : goal.returns-in-None-next_value
returns-in-None-next_value c =
    read_nowhere _ _ _ _ _ c.in-None.ensures c.in-None-next_value.ensures
    ∙ rw c.in-Some.ensures.cases.0 at c.steps.invariant

pub returns : goal.returns
returns c = last_read _ _ _ ∙ rw (texts_of_none c.steps.others.now c.in_default.ensures.cases) at c.steps.invariant
