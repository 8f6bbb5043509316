use Rattle.cedar_requests.proofs.Soundness.{request_is_sound}
use Rattle.cedar_requests.proofs.laws.requests_are_sound.Goals as goal

pub returns : goal.returns
returns c = request_is_sound c.args.request.now
