use Rattle.cedar_laws.proofs.Faithfulness.{context_faithful}
use Rattle.cedar_requests.specs.Contexts.{context_view}
use Rattle.cedar_requests.proofs.Soundness.{context_is_sound}
use Rattle.cedar_faithful.proofs.given.contexts_are_faithful.Goals as goal

pub returns : goal.returns
returns c = λ none X ans.
    context_faithful X ans (context_view c.args.context.now) (context_is_sound c.args.context.now) none
