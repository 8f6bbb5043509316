-- The evaluator is given the request, the store and the extensions.
use Rattle.std.proofs.Common.{map, ap, None}
use Rattle.cedar_model.specs.Settings.{shallow}
use Rattle.cedar_decisions.specs.Decisions.{mode_view}
use Rattle.cedar_layers.specs.Stores.{store_view}
use Rattle.cedar_extensions.specs.Extensions.{extensions_view, calls_of}
use Rattle.cedar_requests.specs.Requests.{request_view}
use Rattle.cedar_evaluator.specs.Evaluations.{setting_for}
use Rattle.cedar_explain.specs.Reached.{IsReached}
use Rattle.cedar_explain_printer.specs.Lines.{line_view}
use Rattle.cedar_explain_printer.specs.Explanations.{IsReachedIn, IsExplanation}
use Rattle.cedar_explain_printer.proofs.Reaching.{of_ok, reached_in, explanation}
use Rattle.cedar_explain_printer.proofs.requests.explanation_lines.Goals as goal

pub returns : goal.returns
returns g c =
    let v = c.in_ok-evaluator.evaluator in
    let x = c.args.extensions.now in
    let given =
    setting_for (request_view c.args.request) (store_view c.args.entities.now) (extensions_view x) (λ n. None) shallow in
    let calls = calls_of x in
    let limit = c.args.telling.limit in
    let mode = mode_view c.args.telling.error_handling in
    let b = c.args.telling.has_values in
    let ps = c.args.policies.now in
    of_ok (λ out. IsExplanation (IsReached v) ps mode b (map line_view out.items))
    (λ out. IsExplanation (IsReachedIn given calls limit) ps mode b (map line_view out.items))
    (λ out h. explanation (IsReached v) (IsReachedIn given calls limit)
    (reached_in v given calls limit c.in_ok-evaluator.ensures.setting
    (λ i. calls_of (c.in_ok-evaluator.ensures.extensions i)) c.in_ok-evaluator.ensures.limit)
    ps mode b (map line_view out.items) h)
    c.lines_by-lines.result c.lines_by-lines.ensures
