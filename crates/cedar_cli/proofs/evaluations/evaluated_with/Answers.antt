use Rattle.cedar_model.specs.Failures.{answers_value}
use Rattle.cedar_extensions.specs.Extensions.{extensions_view, calls_of}
use Rattle.cedar_cli.specs.Evaluated.{IsAnswerOver, IsAnswerOf, IsUnvaluedOver, IsUnvalued, over_store}
use Rattle.cedar_cli.proofs.Composed.{of_ok, of_err}
use Rattle.cedar_cli.proofs.Reasoned.{because}
use Rattle.cedar_cli.proofs.evaluations.evaluated_with.Goals as goal

pub returns-clause-value : goal.returns-clause-value
returns-clause-value g c =
    let x = c.args.extensions.now in
    let s = c.in_ok-store.store.entities in
    let e = c.args.expr.now in
    of_ok (λ v. IsAnswerOver (extensions_view x) (calls_of x) e s c.args.asked.now c.args.limit (answers_value v.what))
    (λ v. IsAnswerOf (extensions_view x) (calls_of x) e c.args.asked.now c.args.limit (answers_value v.what))
    (λ v h. record { entities = s; store_is = c.in_ok-store.ensures.given; answer = h })
    c.evaluated_over-value.result c.evaluated_over-value.ensures.value

pub returns-clause-refused : goal.returns-clause-refused
returns-clause-refused g c =
    let x = c.args.extensions.now in
    let s = c.in_ok-store.store.entities in
    let e = c.args.expr.now in
    of_err _ _
    (λ r. because (IsUnvaluedOver (extensions_view x) (calls_of x) e s c.args.asked.now c.args.limit)
    (IsUnvalued (extensions_view x) (calls_of x) e c.args.asked.now c.args.limit)
    (λ h. over_store s c.in_ok-store.ensures.given h) r)
    c.evaluated_over-value.result c.evaluated_over-value.ensures.refused
