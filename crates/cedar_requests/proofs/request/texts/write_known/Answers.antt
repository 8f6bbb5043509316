use Rattle.cedar_requests.proofs.Texts.{context_text-pairs}
use Rattle.cedar_requests.proofs.request.texts.write_known.Goals as goal

pub returns : goal.returns
returns g c = rw (context_text-pairs c.args.context.now.pairs) c.fmt.ensures.writes
