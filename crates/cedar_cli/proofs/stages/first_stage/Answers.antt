use Rattle.std.proofs.Common.{sym, subst}
use Rattle.cedar_authorizer.specs.Configured.{configuration, asked_of}
use Rattle.cedar_authorizer.specs.Responding.{considered}
use Rattle.cedar_authorizer.specs.Running.{IsRun}
use Rattle.cedar_layers.specs.Stores.{store_view}
use Rattle.cedar_requests.specs.Requests.{request_view}
use Rattle.cedar_cli.proofs.stages.first_stage.Goals as goal

pub returns-clause-run : goal.returns-clause-run
returns-clause-run g c =
    let conf = configuration c.args.authorizer.now in
    let first = c.in_ok-is_authorized_core.field-0 in
    subst (λ r. IsRun conf (asked_of conf (request_view r) (store_view c.args.store.now.entities))
    (considered c.args.policies.now) first) (sym c.in_ok-is_authorized_core.ensures.request)
    c.in_ok-is_authorized_core.ensures.run
