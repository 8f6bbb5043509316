-- The copy of the request is asked, within the limit that is set or that suffices.
use Rattle.std.proofs.Common.{◌∙◌, ap, map, subst, None, ℕ}
use Rattle.std.specs.Option.{unwrap_or}
use Rattle.cedar_model.specs.Settings.{RequestPart, shallow}
use Rattle.cedar_decisions.specs.Decisions.{mode_view}
use Rattle.cedar_layers.specs.Stores.{store_view}
use Rattle.cedar_extensions.specs.Extensions.{extensions_view, calls_of}
use Rattle.cedar_requests.specs.Requests.{request_view}
use Rattle.cedar_evaluator.specs.Evaluations.{setting_for}
use Rattle.cedar_explain_printer.specs.Lines.{line_view}
use Rattle.cedar_explain_printer.specs.Explanations.{IsReachedIn, IsExplanation}
use Rattle.cedar_cli.specs.Explained.{AreExplained}
use Rattle.cedar_cli.proofs.Composed.{of_ok}
use Rattle.cedar_cli.proofs.explanations.explain.Goals as goal

pub returns : goal.returns
returns g c =
    let x = c.args.extensions.now in
    let e = c.args.explaining in
    let w = e.deciding.way in
    let ps = e.deciding.policies.now in
    let s = c.args.entities.now in
    let asked = c.args.request.now in
    let copy = c.in_ok-copy.copy in
    let n : ℕ = c.unwrap_or.result in
    let within = c.unwrap_or.ensures ∙ ap (unwrap_or w.limit) c.text_limit.ensures in
    of_ok _ (λ v. AreExplained (extensions_view x) (calls_of x) ps s asked w e.has_values (map line_view v.items))
    (λ v h.
    subst (λ (r : RequestPart). IsExplanation
    (IsReachedIn (setting_for r (store_view s) (extensions_view x) (λ n. None) shallow) (calls_of x) (unwrap_or w.limit 4001))
    ps (mode_view w.error_handling) e.has_values (map line_view v.items)) c.in_ok-copy.ensures.cases.0
    (subst (λ (m : ℕ). IsExplanation
    (IsReachedIn (setting_for (request_view copy) (store_view s) (extensions_view x) (λ n. None) shallow) (calls_of x) m)
    ps (mode_view w.error_handling) e.has_values (map line_view v.items)) within h))
    c.explanation_lines.result c.explanation_lines.ensures
