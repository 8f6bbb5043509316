use Rattle.std.proofs.Common.{◌≡◌}
use Rattle.cedar_model.specs.Settings.{shallow}
use Rattle.cedar_model.specs.Policies.{skip}
use Rattle.cedar_model.specs.Chains.{at_step, no_values}
use Rattle.cedar_model.specs.Configurations.{configured}
use Rattle.cedar_extensions.specs.Extensions.{extensions_view, calls_of}
use Rattle.cedar_layers.specs.Stores.{store_view}
use Rattle.cedar_requests.specs.Requests.{request_view}
use Rattle.cedar_authorizer.specs.Configured.{configuration, asked, extensions_of, limit_of, mode_of, resolution_of}
use Rattle.cedar_service.specs.Engines.{policies_of}
use Rattle.cedar_service.proofs.Untold.{partial_to}
use Rattle.cedar_service.proofs.leaving.partial_response.Goals as goal

pub returns : goal.returns
returns g c =
    let a = c.new-authorizer.result in
    let x = c.args.extensions.now in
    let e = c.args.engine.now in
    let made = c.new-authorizer.ensures in
    let own : extensions_of a ≡ x = made.extensions in
    let mode : mode_of a ≡ skip = made.mode in
    let resolution : resolution_of a ≡ shallow = made.resolution in
    let limit : limit_of a ≡ 18446744073709551615 = made.limit in
    partial_to (extensions_view x) (calls_of x) (policies_of e) c.args.store.now c.args.request
    (configuration a) (asked a c.args.request c.args.store.now)
    (λ i. configured (calls_of (own i)) (mode i) (resolution i) (extensions_view (own i)) (limit i))
    (λ i. at_step (extensions_view (own i)) (resolution i) (request_view c.args.request)
    (store_view c.args.store.now) no_values)
    c.is_authorized_core.result c.is_authorized_core.ensures.run c.is_authorized_core.ensures.stands
    c.is_authorized_core.ensures.known c.is_authorized_core.ensures.deep_enough c.is_authorized_core.ensures.request
