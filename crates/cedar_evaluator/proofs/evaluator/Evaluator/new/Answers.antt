use Rattle.std.proofs.Common.{ap, None}
use Rattle.cedar_layers.specs.Stores.{store_view}
use Rattle.cedar_extensions.specs.Extensions.{extensions_view}
use Rattle.cedar_requests.specs.Requests.{request_view}
use Rattle.cedar_model.specs.Settings.{shallow}
use Rattle.cedar_evaluator.specs.Evaluations.{setting_for}
use Rattle.cedar_evaluator.proofs.Sound.{context_is_restricted}
use Rattle.cedar_requests.proofs.Soundness.{request_is_sound}
use Rattle.cedar_evaluator.proofs.Requests.{four_of_request, four_that_request}
use Rattle.cedar_evaluator.proofs.evaluator.Evaluator.new.Goals as goal

pub invariant_of-result : goal.invariant_of-result
invariant_of-result g c = record {
  principal_known = c.in_ok-known.ensures.principal;
  action_known = c.in_ok-known.ensures.action;
  resource_known = c.in_ok-known.ensures.resource;
}

pub invariant_of-result-2 : goal.invariant_of-result-2
invariant_of-result-2 g c =
    let said = c.in_ok-principal.ensures in
    record {
      of_request = four_of_request (request_view c.args.request) _ _ _ _ said.principal said.action said.resource said.context;
      context_restricted = context_is_restricted (request_view c.args.request) _ (request_is_sound c.args.request) said.context;
    }

pub returns-clause-setting : goal.returns-clause-setting
returns-clause-setting g c slots =
    ap (λ r. setting_for r (store_view c.args.entities.now) (extensions_view c.args.extensions.now) (λ n. None) shallow slots) (four_that_request (request_view c.args.request) _ _ _ _ c.in_ok-principal.ensures.principal c.in_ok-principal.ensures.action c.in_ok-principal.ensures.resource c.in_ok-principal.ensures.context)
