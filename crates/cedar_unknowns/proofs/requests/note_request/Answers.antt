use Rattle.cedar_requests.specs.Requests.{request_view}
use Rattle.cedar_unknowns.proofs.Contexts.{four_noted}
use Rattle.cedar_unknowns.proofs.requests.note_request.Goals as goal

pub returns : goal.returns
returns c =
    four_noted (request_view c.args.request.now) _ _ _ _ _ _ _ _ _ c.principal.ensures.view c.action.ensures.view c.resource.ensures.view c.context.ensures.view c.in_ok-note_entry.ensures c.in_ok-note_entry-2.ensures c.in_ok-note_entry-3.ensures c.in_ok-note_context.ensures
