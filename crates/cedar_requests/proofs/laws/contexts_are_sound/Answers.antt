use Rattle.cedar_requests.proofs.Soundness.{context_is_sound}
use Rattle.cedar_requests.proofs.laws.contexts_are_sound.Goals as goal

pub returns : goal.returns
returns c = context_is_sound c.args.context.now
