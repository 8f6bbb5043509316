use Rattle.std.proofs.Common.{◌≡◌, subst, ◌∙◌}
use Rattle.cedar_model.specs.Configurations.{configured}
use Rattle.cedar_model.specs.Settings.{shallow}
use Rattle.cedar_decisions.specs.Decisions.{mode_view}
use Rattle.cedar_extensions.specs.Extensions.{extensions_view, calls_of}
use Rattle.cedar_layers.specs.Stores.{store_view}
use Rattle.cedar_requests.specs.Requests.{request_view}
use Rattle.cedar_authorizer.specs.Configured.{configuration, asked_of, extensions_of, limit_of, mode_of, resolution_of}
use Rattle.cedar_authorizer.specs.Responding.{considered}
use Rattle.cedar_authorizer.specs.Running.{request_of, IsRun}
use Rattle.cedar_cli.specs.Questions.{IsPartialRequest}
use Rattle.cedar_cli.specs.Stages.{partial_configuration, levels_in}
use Rattle.cedar_cli_sql.specs.Planned.{IsFirstOf}
use Rattle.cedar_cli_sql.proofs.Composed.{both_ok}
use Rattle.cedar_cli_sql.proofs.answers.response_to.Goals as goal

pub returns-clause-first : goal.returns-clause-first
returns-clause-first g c =
    let a = c.with_error_handling-authorizer.result in
    let x = c.args.extensions.now in
    let w = c.args.planning.way in
    let made = c.with_error_handling-authorizer.ensures in
    let new = c.new.ensures in
    let own : extensions_of a ≡ x = made.extensions ∙ new.extensions in
    let mode : mode_of a ≡ mode_view w.error_handling = made.mode in
    let resolution : resolution_of a ≡ shallow = made.resolution ∙ new.resolution in
    let limit : limit_of a ≡ levels_in w.limit = made.limit ∙ new.limit ∙ c.levels_within.ensures in
    let same : configuration a ≡ partial_configuration (extensions_view x) (calls_of x) w =
    λ i. configured (calls_of (own i)) (mode i) (resolution i) (extensions_view (own i)) (limit i) in
    let s = c.args.store.now.entities in
    let ps = c.args.planning.policies.now in
    let q = c.args.asked.now in
    both_ok (λ r. IsPartialRequest (extensions_view x) (calls_of x) q (request_of r))
    (λ r. IsRun (configuration a) (asked_of (configuration a) (request_view (request_of r)) (store_view s)) (considered ps) r)
    (IsFirstOf (extensions_view x) (calls_of x) ps s q w)
    (λ r asked run. record {
      request_is = asked;
      run = subst (λ d. IsRun d (asked_of d (request_view (request_of r)) (store_view s)) (considered ps) r) same run;
    })
    c.first_stage.result c.first_stage.ensures.request c.first_stage.ensures.run
