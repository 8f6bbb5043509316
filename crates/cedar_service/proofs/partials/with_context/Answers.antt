use Rattle.std.proofs.Common.{◌≡◌, sym, subst}
use Rattle.cedar_model.specs.Settings.{RequestPart}
use Rattle.cedar_extensions.specs.Extensions.{extensions_view, calls_of}
use Rattle.cedar_endpoints.specs.Partials.{partial_view}
use Rattle.cedar_service.specs.Left.{IsContextIfGiven, IsEntryOf, IsUnaskedPartly, wrong_context}
use Rattle.cedar_service.specs.Asked.{IsContextUnsaid}
use Rattle.cedar_service.proofs.Composed.{because}
use Rattle.cedar_service.proofs.partials.with_context.Goals as goal

pub returns-in-Ok-clause-asked : goal.returns-in-Ok-clause-asked
returns-in-Ok-clause-asked g c =
    let x = c.args.extensions.now in
    let q = partial_view c.args.question.now in
    let is = sym c.request_with.ensures in
    record {
      principal = subst (λ (r : RequestPart). IsEntryOf q.principal r.principal_entry) is c.requires.principal;
      action = subst (λ (r : RequestPart). IsEntryOf q.action r.action_entry) is c.requires.action;
      resource = subst (λ (r : RequestPart). IsEntryOf q.resource r.resource_entry) is c.requires.resource;
      context = subst (λ (r : RequestPart).
          IsContextIfGiven (extensions_view x) (calls_of x) q.context r.context_part) is c.in-Ok.ensures.said;
    }

pub returns-in-Err-clause-refused : goal.returns-in-Err-clause-refused
returns-in-Err-clause-refused g c =
    let x = c.args.extensions.now in
    let q = partial_view c.args.question.now in
    because (IsContextUnsaid (extensions_view x) (calls_of x) q.context)
    (IsUnaskedPartly (extensions_view x) (calls_of x) q) (λ t h. wrong_context h) c.in-Err.refusal
    c.in-Err.ensures.refused
