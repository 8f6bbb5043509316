use Rattle.std.proofs.Common.{ap, ◌∙◌}
use Rattle.cedar_model.specs.Terms.{record_of}
use Rattle.cedar_model.specs.Shapes.{is_restricted, has_unknown, are_restricted_at, have_unknown_at}
use Rattle.cedar_expressions.specs.View.{fields_view}
use Rattle.cedar_requests.specs.Contexts.{ExprMap}
use Rattle.cedar_requests.proofs.Records.{fields_view-unshared}
use Rattle.cedar_requests.proofs.context.creation.pairs_of.Goals as goal

pub new-requires-clause-restricted : goal.new-requires-clause-restricted
new-requires-clause-restricted c =
    let unshared = fields_view-unshared c.in_ok-shared.shared.value c.in_ok-unwrap_or_clone.field-0
    c.in_ok-unwrap_or_clone.ensures.ok in
    ap are_restricted_at unshared ∙ ap is_restricted (c.in_ok-shared.ensures ∙ c.into_expr-expr.ensures.view)
    ∙ c.requires.restricted

pub new-requires-clause-unknown : goal.new-requires-clause-unknown
new-requires-clause-unknown c =
    let unshared = fields_view-unshared c.in_ok-shared.shared.value c.in_ok-unwrap_or_clone.field-0
    c.in_ok-unwrap_or_clone.ensures.ok in
    ap have_unknown_at unshared ∙ ap has_unknown c.in_ok-shared.ensures ∙ c.into_expr-expr.ensures.unknown

pub returns : goal.returns
returns c =
    let unshared = fields_view-unshared c.in_ok-shared.shared.value c.in_ok-unwrap_or_clone.field-0
    c.in_ok-unwrap_or_clone.ensures.ok in
    ap (λ (m : ExprMap). record_of (fields_view m.entries)) c.new.ensures ∙ ap record_of unshared
    ∙ c.in_ok-shared.ensures ∙ c.into_expr-expr.ensures.view
