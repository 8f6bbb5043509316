use Rattle.cedar_extensions.specs.Extensions.{calls_of}
use Rattle.std.proofs.lemmas.Result.{IfOk-weaker}
use Rattle.cedar_layers.specs.PolicySets.{stored_policies}
use Rattle.cedar_layers.specs.Stores.{store_view}
use Rattle.cedar_requests.specs.Requests.{request_view}
use Rattle.cedar_requests.specs.Substitutions.{values_for}
use Rattle.cedar_authorizer.specs.reauthorization.Errors.{step_refusal}
use Rattle.cedar_authorizer.specs.Responding.{considered}
use Rattle.cedar_authorizer.specs.Configured.{configuration, extensions_of, limit_of, mode_of}
use Rattle.cedar_authorizer.specs.responses.Rows.{located_view}
use Rattle.cedar_authorizer.specs.Running.{request_of}
use Rattle.cedar_authorizer.specs.Steps.{step_by, under}
use Rattle.cedar_authorizer.proofs.Joined.{answered_step, refused_policies}
use Rattle.cedar_authorizer.proofs.Placed.{residuals_stay}
use Rattle.cedar_authorizer.proofs.authorizer.steps.in_same_mode.Goals as goal

pub returns-in-Ok-clause-step : goal.returns-in-Ok-clause-step
returns-in-Ok-clause-step g c =
    let s = under (configuration c.args.authorizer.now) (step_by c.args.map.now c.args.entities.now) (request_view (request_of c.args.response.now)) in
    answered_step (mode_of c.args.authorizer.now) s (calls_of (extensions_of c.args.authorizer.now)) (limit_of c.args.authorizer.now) (values_for c.args.map.now.entries) (store_view c.args.entities.now) c.args.response.now c.requires (considered c.in-Ok.policies) _ c.in-Ok.ensures.set (rw c.deref.ensures at c.with_policies.ensures.step)

pub returns-in-Err-clause-step : goal.returns-in-Err-clause-step
returns-in-Err-clause-step g c =
    let s = under (configuration c.args.authorizer.now) (step_by c.args.map.now c.args.entities.now) (request_view (request_of c.args.response.now)) in
    refused_policies (mode_of c.args.authorizer.now) s (calls_of (extensions_of c.args.authorizer.now)) (limit_of c.args.authorizer.now) (values_for c.args.map.now.entries) (store_view c.args.entities.now) c.args.response.now c.requires (step_refusal c.in-Err.error) c.in-Err.ensures.set

pub returns-in-Ok-clause-residual_places : goal.returns-in-Ok-clause-residual_places
returns-in-Ok-clause-residual_places g c =
    IfOk-weaker c.with_policies.result _ _ (λ r h. residuals_stay (located_view c.args.response.now) (stored_policies c.in-Ok.policies) r c.in-Ok.ensures.places h) c.with_policies.ensures.residual_places
