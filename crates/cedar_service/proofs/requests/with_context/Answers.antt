use Rattle.std.proofs.Common.{◌≡◌, ◌∙◌, ap, option_map}
use Rattle.json.specs.Value.{value_view}
use Rattle.cedar_model.specs.Terms.{EntityName}
use Rattle.cedar_model.specs.Settings.{RequestPart, known_entry}
use Rattle.cedar_extensions.specs.Extensions.{extensions_view, calls_of}
use Rattle.cedar_names.specs.Names.{uid_name}
use Rattle.cedar_requests.specs.Contexts.{context_view}
use Rattle.cedar_endpoints.specs.Asked.{evaluation_view}
use Rattle.cedar_service.specs.Asked.{IsContextUnsaid, IsUnasked, no_context}
use Rattle.cedar_service.proofs.Composed.{because}
use Rattle.cedar_service.proofs.requests.with_context.Goals as goal

pub returns-in-Ok-clause-asked : goal.returns-in-Ok-clause-asked
returns-in-Ok-clause-asked g c =
    let es = c.args.entities in
    let d = c.in-Ok.context in
    let with_action : EntityName → RequestPart = λ a. record {
      principal_entry = known_entry (uid_name es.principal);
      action_entry = known_entry a;
      resource_entry = known_entry (uid_name es.resource);
      context_part = context_view d;
    } in
    record {
      principal = uid_name es.principal;
      resource = uid_name es.resource;
      context = d;
      principal_is = c.requires.principal;
      resource_is = c.requires.resource;
      context_is = c.in-Ok.ensures.said;
      request_is = c.request_with.ensures ∙ ap with_action c.requires.action;
    }

pub returns-in-Err-clause-refused : goal.returns-in-Err-clause-refused
returns-in-Err-clause-refused g c =
    let x = c.args.extensions.now in
    let q = evaluation_view c.args.question.now in
    because (IsContextUnsaid (extensions_view x) (calls_of x) q.context)
    (IsUnasked (extensions_view x) (calls_of x) q) (λ t h. no_context h) c.in-Err.refusal c.in-Err.ensures.refused
