use Rattle.std.proofs.Common.{◌∙◌, ap, sym}
use Rattle.cedar_expressions.specs.View.{view}
use Rattle.cedar_extensions.specs.Extensions.{extensions_view, calls_of}
use Rattle.cedar_restricted.specs.Evaluations.{bare_setting}
use Rattle.cedar_requests.specs.Creations.{is_record}
use Rattle.cedar_requests.proofs.Creations.{bare-is_bare, expr_answer, no_record_answer, no_record_low, record_place}
use Rattle.cedar_requests.proofs.context.Context.from_expr.Goals as goal

pub returns-then-is_record-clause-created : goal.returns-then-is_record-clause-created
returns-then-is_record-clause-created g c = λ s is_bare.
    expr_answer s (calls_of c.args.extensions.now) _ _ c.of_record.result
    (ap is_record (ap view (sym c.as_ref.ensures)) ∙ sym c.is_record.ensures ∙ c.if-is_record.true)
    (c.of_record.ensures.created s is_bare)

pub returns-then-is_record-clause-place : goal.returns-then-is_record-clause-place
returns-then-is_record-clause-place g c =
    let stored = c.args.extensions.now in
    let x = extensions_view stored in
    record_place (bare_setting x) (calls_of stored) _ _ _ c.of_record.result
    (c.of_record.ensures.created (bare_setting x) (bare-is_bare x))

pub returns-else-is_record-clause-low : goal.returns-else-is_record-clause-low
returns-else-is_record-clause-low g c = λ low. no_record_low _ c.not_a_record.result c.not_a_record.ensures.created

pub returns-else-is_record-clause-created : goal.returns-else-is_record-clause-created
returns-else-is_record-clause-created g c = λ s is_bare.
    no_record_answer s (calls_of c.args.extensions.now) c.args.limit _ c.not_a_record.result
    c.not_a_record.ensures.created
