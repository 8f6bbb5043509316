-- Asked within the limit that is set or that suffices.
use Rattle.std.proofs.Common.{◌∙◌, ap, subst, None, ℕ}
use Rattle.std.specs.Option.{unwrap_or}
use Rattle.cedar_model.specs.Settings.{shallow}
use Rattle.cedar_decisions.specs.Decisions.{mode_view}
use Rattle.cedar_layers.specs.Stores.{store_view}
use Rattle.cedar_extensions.specs.Extensions.{extensions_view, calls_of}
use Rattle.cedar_requests.specs.Requests.{request_view}
use Rattle.cedar_evaluator.specs.Evaluations.{setting_for}
use Rattle.cedar_json_writer.specs.Trees.{json_view}
use Rattle.cedar_explain_printer.specs.Explanations.{IsReachedIn}
use Rattle.cedar_explain_json.specs.Explanations.{IsExplanationJson}
use Rattle.cedar_cli.proofs.Composed.{of_ok}
use Rattle.cedar_cli_explain.specs.Explained.{IsExplainedOf}
use Rattle.cedar_cli_explain.proofs.answers.explain_request.Goals as goal

pub returns : goal.returns
returns g c =
    let x = c.args.extensions.now in
    let e = c.args.explaining in
    let w = e.way in
    let ps = e.policies.now in
    let s = c.args.entities.now in
    let r = c.args.request in
    let within = c.unwrap_or.ensures ∙ ap (unwrap_or w.limit) c.text_limit.ensures in
    of_ok _ (λ j. IsExplainedOf (extensions_view x) (calls_of x) e.text.now ps s r w e.has_values (json_view j))
    (λ j h.
    subst (λ (m : ℕ). IsExplanationJson e.text.now
    (IsReachedIn (setting_for (request_view r) (store_view s) (extensions_view x) (λ n. None) shallow) (calls_of x) m)
    ps (mode_view w.error_handling) e.has_values (json_view j)) within h)
    c.explanation_to_json.result c.explanation_to_json.ensures
