use Rattle.std.proofs.Common.{◌∙◌, ap, sym}
use Rattle.cedar_requests.specs.Walks.{pairs_attributes}
use Rattle.cedar_requests.proofs.Opened.{opened}
use Rattle.cedar_requests.proofs.context.walk.ContextIntoIterator.into_iter.Goals as goal

pub returns-in-Values : goal.returns-in-Values
returns-in-Values c =
    let attributes = rw c.in-Values.values-is at c.of_values.ensures.attributes in
    let all = attributes ∙ sym (ap pairs_attributes (opened c.self.view_is c.in-Values.is)) in
    record { into_iter_gives = (all, c.of_values.ensures.in_order) }

pub returns-in-Residual : goal.returns-in-Residual
returns-in-Residual c =
    let attributes = rw c.in-Residual.residual-is at c.new.ensures.attributes in
    record { into_iter_gives = (attributes ∙ sym (ap pairs_attributes (opened c.self.view_is c.in-Residual.is)), c.new.ensures.in_order) }
