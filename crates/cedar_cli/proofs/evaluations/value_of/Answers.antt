use Rattle.std.proofs.Common.{ap, ◌∙◌, None, option_map}
use Rattle.cedar_model.specs.Settings.{shallow}
use Rattle.cedar_layers.specs.Policies.{slots_view}
use Rattle.cedar_layers.specs.Stores.{store_view}
use Rattle.cedar_requests.specs.Requests.{request_view}
use Rattle.cedar_extensions.specs.Extensions.{extensions_view, calls_of}
use Rattle.cedar_evaluator.specs.Evaluations.{setting_for}
use Rattle.cedar_cli.proofs.Valued.{answered_alike, slots_of}
use Rattle.cedar_cli.proofs.evaluations.value_of.Goals as goal

pub returns : goal.returns
returns g c =
    let e = c.in_ok-evaluator.ensures in
    let bare = ap slots_of c.new-slots.ensures.empty in
    let given = ap (λ slots. setting_for (request_view c.args.request) (store_view c.args.entities.now) (extensions_view c.args.extensions.now) (λ n. None) shallow slots) bare in
    answered_alike _ _ _ _ _ _ _ _ (e.setting (slots_view c.new-slots.result) ∙ given) (ap calls_of e.extensions) e.limit c.interpret-value.ensures.answer
