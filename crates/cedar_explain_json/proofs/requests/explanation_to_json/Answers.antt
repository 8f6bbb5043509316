-- The evaluator is given the request, the store and the extensions.
use Rattle.std.proofs.Common.{None}
use Rattle.cedar_model.specs.Settings.{shallow}
use Rattle.cedar_decisions.specs.Decisions.{mode_view}
use Rattle.cedar_layers.specs.Stores.{store_view}
use Rattle.cedar_extensions.specs.Extensions.{extensions_view, calls_of}
use Rattle.cedar_requests.specs.Requests.{request_view}
use Rattle.cedar_evaluator.specs.Evaluations.{setting_for}
use Rattle.cedar_json_writer.specs.Trees.{json_view}
use Rattle.cedar_explain.specs.Reached.{IsReached}
use Rattle.cedar_explain_printer.specs.Explanations.{IsReachedIn}
use Rattle.cedar_explain_json.specs.Explanations.{IsExplanationJson}
use Rattle.cedar_explain_json.proofs.Reaching.{of_ok, reached_in, explanation_as}
use Rattle.cedar_explain_json.proofs.requests.explanation_to_json.Goals as goal

pub returns : goal.returns
returns g c =
    let v = c.in_ok-evaluator.evaluator in
    let x = c.args.extensions.now in
    let given =
    setting_for (request_view c.args.request) (store_view c.args.entities.now) (extensions_view x) (λ n. None) shallow in
    let calls = calls_of x in
    let limit = c.args.telling.limit in
    let mode = mode_view c.args.telling.error_handling in
    let b = c.args.telling.has_values in
    let ps = c.args.policies.now in
    let text = c.args.text.now in
    of_ok (λ out. IsExplanationJson text (IsReached v) ps mode b (json_view out))
    (λ out. IsExplanationJson text (IsReachedIn given calls limit) ps mode b (json_view out))
    (λ out h. explanation_as (IsReached v) (IsReachedIn given calls limit)
    (reached_in v given calls limit c.in_ok-evaluator.ensures.setting
    (λ i. calls_of (c.in_ok-evaluator.ensures.extensions i)) c.in_ok-evaluator.ensures.limit)
    text ps mode b (json_view out) h)
    c.document_by-document.result c.document_by-document.ensures
