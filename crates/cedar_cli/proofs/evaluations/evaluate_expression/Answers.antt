use Rattle.std.proofs.Common.{◌≡◌, true, subst}
use Rattle.cedar_model.specs.Failures.{answers_value}
use Rattle.cedar_extensions.specs.Extensions.{extensions_view, calls_of}
use Rattle.cedar_functions.specs.Functions.{these, signatures_of}
use Rattle.cedar_text_parser.specs.Reading.{IsRead}
use Rattle.cedar_cli.specs.Questions.{levels}
use Rattle.cedar_cli.specs.Reasons.{IsToldFor}
use Rattle.cedar_cli.specs.Standard.{standard_extensions, standard_calls, standard_knowledge}
use Rattle.cedar_cli.specs.Evaluated.{IsAnswerOf, IsValuePrinted, IsEvaluated, IsExpressionUnread, IsUnvalued, IsUnevaluated, for_text, for_value, for_json}
use Rattle.cedar_cli.proofs.Alone.{calls_alone, view_alone, known_alone}
use Rattle.cedar_cli.proofs.Composed.{of_ok, of_err, handed_up}
use Rattle.cedar_cli.proofs.Reasoned.{because}
use Rattle.cedar_cli.proofs.evaluations.evaluate_expression.Goals as goal

pub returns-clause-answered : goal.returns-clause-answered
returns-clause-answered c =
    let x = c.all_available-extensions.result in
    let none = c.all_available-extensions.ensures.extensions in
    let there = c.all_available-extensions.ensures.standard in
    let text = c.args.source.text.now in
    let q = c.args.asked.now in
    let limit = c.args.limit in
    let e = c.in_ok-expr.expr in
    let v = c.in_ok-value.value.what in
    let read : IsRead standard_knowledge text levels e =
    subst (λ k. IsRead k text levels e) (known_alone x none there) c.in_ok-expr.ensures.read in
    let answer : IsAnswerOf standard_extensions standard_calls e q limit (answers_value v) =
    subst (λ calls. IsAnswerOf standard_extensions calls e q limit (answers_value v)) (calls_alone x none there)
    (subst (λ w. IsAnswerOf w (calls_of x) e q limit (answers_value v)) (view_alone x none there)
    c.in_ok-value.ensures.value) in
    of_ok (IsValuePrinted c.args.is_json v) (IsEvaluated text q limit c.args.is_json)
    (λ p h. record { expr = e; value = v; expr_is = read; value_is = answer; printed = h })
    c.print_value-printed.result c.print_value-printed.ensures.printed

pub returns-clause-refused : goal.returns-clause-refused
returns-clause-refused c =
    let x = c.all_available-extensions.result in
    let none = c.all_available-extensions.ensures.extensions in
    let there = c.all_available-extensions.ensures.standard in
    let text = c.args.source.text.now in
    let q = c.args.asked.now in
    let limit = c.args.limit in
    let e = c.in_ok-expr.expr in
    let v = c.in_ok-value.value.what in
    let read : IsRead standard_knowledge text levels e =
    subst (λ k. IsRead k text levels e) (known_alone x none there) c.in_ok-expr.ensures.read in
    let answer : IsAnswerOf standard_extensions standard_calls e q limit (answers_value v) =
    subst (λ calls. IsAnswerOf standard_extensions calls e q limit (answers_value v)) (calls_alone x none there)
    (subst (λ w. IsAnswerOf w (calls_of x) e q limit (answers_value v)) (view_alone x none there)
    c.in_ok-value.ensures.value) in
    of_err (IsToldFor (c.args.is_json ≡ true)) (IsToldFor (IsUnevaluated text q limit c.args.is_json))
    (λ r. because (c.args.is_json ≡ true) (IsUnevaluated text q limit c.args.is_json)
    (λ h. for_json e v read answer h) r)
    c.print_value-printed.result c.print_value-printed.ensures.refused

pub returns-in_err-value-clause-refused : goal.returns-in_err-value-clause-refused
returns-in_err-value-clause-refused c =
    let x = c.all_available-extensions.result in
    let none = c.all_available-extensions.ensures.extensions in
    let there = c.all_available-extensions.ensures.standard in
    let text = c.args.source.text.now in
    let q = c.args.asked.now in
    let limit = c.args.limit in
    let e = c.in_ok-expr.expr in
    let read : IsRead standard_knowledge text levels e =
    subst (λ k. IsRead k text levels e) (known_alone x none there) c.in_ok-expr.ensures.read in
    handed_up c.from_residual-in_err-value.result _ (IsToldFor (IsUnevaluated text q limit c.args.is_json)) c.from_residual-in_err-value.ensures.1
    (because (IsUnvalued (extensions_view x) (calls_of x) e q limit) (IsUnevaluated text q limit c.args.is_json)
    (λ h. for_value e read
    (subst (λ calls. IsUnvalued standard_extensions calls e q limit) (calls_alone x none there)
    (subst (λ w. IsUnvalued w (calls_of x) e q limit) (view_alone x none there) h)))
    c.in_err-value.field-0.0 c.in_err-value.ensures.refused)
