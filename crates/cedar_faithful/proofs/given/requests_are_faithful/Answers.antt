use Rattle.cedar_laws.proofs.Faithfulness.{context_faithful}
use Rattle.cedar_requests.specs.Requests.{request_view}
use Rattle.cedar_requests.proofs.Soundness.{request_is_sound}
use Rattle.cedar_faithful.proofs.given.requests_are_faithful.Goals as goal

pub returns : goal.returns
returns c = λ none X ans.
    context_faithful X ans (request_view c.args.request.now).context_part (request_is_sound c.args.request.now) none
