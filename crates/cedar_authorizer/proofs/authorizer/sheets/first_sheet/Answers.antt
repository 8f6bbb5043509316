use Rattle.std.proofs.Common.{ap, ◌∙◌, map, None}
use Rattle.std.specs.Option.{IfSome}
use Rattle.std.proofs.lemmas.Result.{IfOk-weaker}
use Rattle.cedar_model.specs.Agreement.{no_slots}
use Rattle.cedar_layers.specs.PolicySets.{stored_policies}
use Rattle.cedar_layers.specs.Stores.{store_view}
use Rattle.cedar_evaluator.specs.Evaluations.{setting_for, resolving}
use Rattle.cedar_extensions.specs.Extensions.{extensions_view, calls_of}
use Rattle.cedar_authorizer.specs.Configured.{extensions_of, resolution_of}
use Rattle.cedar_authorizer.specs.Reaching.{AreFalseBut}
use Rattle.cedar_authorizer.proofs.Noting.{noted_alike}
use Rattle.cedar_authorizer.proofs.Within.{holds_alike}
use Rattle.cedar_authorizer.proofs.authorizer.sheets.first_sheet.Goals as goal

pub run-sheet-requires : goal.run-sheet-requires
run-sheet-requires g c =
    let e = c.in_ok-evaluator.ensures in
    let k = c.with_resolution-evaluator.ensures in
    let q = resolution_of c.args.authorizer.now in
    let same = k.setting no_slots ∙ ap (resolving q) (e.setting no_slots) ∙ ap (λ r. setting_for r (store_view c.args.entities.now) (extensions_view (extensions_of c.args.authorizer.now)) (λ n. None) q no_slots) c.in_ok-clone.ensures.cases.0 in
    holds_alike (λ s calls levels. IfSome c.in_ok-within.within (λ v. AreFalseBut s calls levels (stored_policies c.args.policies.now) (map (λ p. p.now) v.items))) same (ap calls_of (k.extensions ∙ e.extensions)) (k.limit ∙ e.limit) c.in_ok-within.ensures

pub returns-clause-run : goal.returns-clause-run
returns-clause-run g c =
    let e = c.in_ok-evaluator.ensures in
    let k = c.with_resolution-evaluator.ensures in
    let q = resolution_of c.args.authorizer.now in
    let same = k.setting no_slots ∙ ap (resolving q) (e.setting no_slots) ∙ ap (λ r. setting_for r (store_view c.args.entities.now) (extensions_view (extensions_of c.args.authorizer.now)) (λ n. None) q no_slots) c.in_ok-clone.ensures.cases.0 in
    IfOk-weaker c.run-sheet.result _ _ (λ z h. noted_alike _ _ _ _ _ _ _ _ z same (ap calls_of (k.extensions ∙ e.extensions)) (k.limit ∙ e.limit) h) c.run-sheet.ensures.run
