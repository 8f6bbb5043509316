use Rattle.std.proofs.Common.{◌≡◌, ap, subst, codes, ◌∙◌, IfSome, option_map, Some, Ok, Err, Result}
use Rattle.cedar_model.specs.Settings.{ContextPart}
use Rattle.cedar_model.specs.Refusals.{Refusal, concrete_context}
use Rattle.cedar_requests.specs.Requests.{entry_view, context_given, request_view}
use Rattle.cedar_requests.specs.Substitutions.{values_for}
use Rattle.cedar_authorizer.specs.reauthorization.Errors.{refusal_of}
use Rattle.cedar_authorizer.proofs.Concretizing.{made_then, refused_then}
use Rattle.cedar_authorizer.proofs.reauthorization.request.with_resource.Goals as goal

pub returns-in-Ok-clause-view : goal.returns-in-Ok-clause-view
returns-in-Ok-clause-view c =
    let m = values_for c.args.map.now.entries in
    made_then (λ (part : ContextPart). Ok record {
      principal_entry = entry_view c.args.principal;
      action_entry = entry_view c.args.action;
      resource_entry = entry_view c.args.resource;
      context_part = part;
    }) (context_given c.in-Ok.context) _ (Some (Ok (request_view c.new_with_unknowns.result)))
    (c.in-Ok.ensures ∙ ap (concrete_context (m (codes "context"))) c.context.ensures.view)
    (ap Ok c.new_with_unknowns.ensures.view)

pub returns-in-Err-clause-view : goal.returns-in-Err-clause-view
returns-in-Err-clause-view c =
    let m = values_for c.args.map.now.entries in
    refused_then (λ (part : ContextPart). Ok record {
      principal_entry = entry_view c.args.principal;
      action_entry = entry_view c.args.action;
      resource_entry = entry_view c.args.resource;
      context_part = part;
    }) _ (refusal_of c.in-Err.error)
    (subst (λ (part : ContextPart). IfSome (option_map {U = Result ContextPart Refusal} Err (refusal_of c.in-Err.error))
    (λ a. a ≡ concrete_context (m (codes "context")) part)) c.context.ensures.view c.in-Err.ensures)
