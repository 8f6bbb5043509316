use Rattle.std.proofs.Common.{ap, ◌∙◌}
use Rattle.cedar_model.specs.Terms.{record_of}
use Rattle.cedar_expressions.specs.View.{fields_view}
use Rattle.cedar_requests.specs.Contexts.{ExprMap}
use Rattle.cedar_requests.proofs.Records.{record_of-fields}
use Rattle.cedar_requests.proofs.context.creation.shared_pairs.Goals as goal

pub returns : goal.returns
returns c =
    ap (λ (m : ExprMap). record_of (fields_view m.entries)) c.in_ok-clone-in-Some.ensures.cases
    ∙ record_of-fields _ _ c.in-Some.ensures
