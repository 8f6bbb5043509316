use Rattle.std.proofs.Common.{◌≡◌, ap, ◌∙◌}
use Rattle.std.specs.Option.{unwrap_or}
use Rattle.cedar_model.specs.Settings.{shallow}
use Rattle.cedar_model.specs.Chains.{at_step, no_values}
use Rattle.cedar_model.specs.Configurations.{configured}
use Rattle.cedar_decisions.specs.Decisions.{mode_view}
use Rattle.cedar_extensions.specs.Extensions.{extensions_view, calls_of}
use Rattle.cedar_layers.specs.Stores.{store_view}
use Rattle.cedar_requests.specs.Requests.{request_view}
use Rattle.cedar_authorizer.specs.Configured.{configuration, asked, extensions_of, limit_of, mode_of, resolution_of}
use Rattle.cedar_cli.specs.Authorized.{limit_in}
use Rattle.cedar_cli.proofs.Composed.{response_to}
use Rattle.cedar_regression.proofs.answers.respond.Goals as goal

pub returns : goal.returns
returns g c =
    let a = c.with_error_handling-authorizer.result in
    let x = c.args.extensions.now in
    let w = c.args.way in
    let s = c.args.entities.now in
    let made = c.with_error_handling-authorizer.ensures in
    let first = c.new.ensures in
    let own : extensions_of a ≡ x = made.extensions ∙ first.extensions in
    let mode : mode_of a ≡ mode_view w.error_handling = made.mode in
    let resolution : resolution_of a ≡ shallow = made.resolution ∙ first.resolution in
    let limit : limit_of a ≡ limit_in w.limit =
    made.limit ∙ first.limit ∙ c.unwrap_or-limit.ensures ∙ ap (unwrap_or w.limit) c.text_limit.ensures in
    response_to (extensions_view x) (calls_of x) c.args.policies.now s c.args.request w
    (configuration a) (asked a c.args.request s)
    (λ i. configured (calls_of (own i)) (mode i) (resolution i) (extensions_view (own i)) (limit i))
    (λ i. at_step (extensions_view (own i)) (resolution i) (request_view c.args.request) (store_view s) no_values)
    c.is_authorized.result c.is_authorized.ensures.response c.is_authorized.ensures.known
    c.is_authorized.ensures.limit
