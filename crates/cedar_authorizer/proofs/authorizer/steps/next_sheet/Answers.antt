use Rattle.std.proofs.Common.{ap, ◌∙◌}
use Rattle.std.proofs.lemmas.Result.{IfOk-weaker}
use Rattle.cedar_model.specs.Agreement.{no_slots}
use Rattle.cedar_model.specs.Settings.{Setting}
use Rattle.cedar_layers.specs.Stores.{store_view}
use Rattle.cedar_requests.specs.Substitutions.{values_for}
use Rattle.cedar_evaluator.specs.Evaluations.{setting_for, resolving}
use Rattle.cedar_extensions.specs.Extensions.{extensions_view, calls_of}
use Rattle.cedar_authorizer.specs.Configured.{extensions_of, resolution_of}
use Rattle.cedar_authorizer.proofs.Noting.{noted_alike}
use Rattle.cedar_authorizer.proofs.authorizer.steps.next_sheet.Goals as goal

pub returns-clause-run : goal.returns-clause-run
returns-clause-run g c =
    let e = c.in_ok-evaluator.ensures in
    let k = c.with_unknowns_mapper.ensures in
    let d = c.with_resolution-evaluator.ensures in
    let q = resolution_of c.args.authorizer.now in
    let m = values_for c.args.map.now.entries in
    IfOk-weaker c.run_all-sheet.result _ _ (λ z h. noted_alike _ _ _ _ _ _ _ _ z (d.setting no_slots ∙ ap (resolving q) (k.setting no_slots) ∙ ap (λ (s : Setting). setting_for s.request s.store s.extensions m q no_slots) (e.setting no_slots) ∙ ap (λ r. setting_for r (store_view c.args.entities.now) (extensions_view (extensions_of c.args.authorizer.now)) m q no_slots) c.in_ok-clone.ensures.cases.0) (ap calls_of (d.extensions ∙ (k.extensions ∙ e.extensions))) (d.limit ∙ (k.limit ∙ e.limit)) h) c.run_all-sheet.ensures.run
