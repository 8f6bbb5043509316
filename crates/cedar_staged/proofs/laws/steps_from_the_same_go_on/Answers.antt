use Rattle.cedar_authorizer.specs.Configured.{configuration}
use Rattle.cedar_authorizer.proofs.Further.{goes_on}
use Rattle.cedar_staged.proofs.Same.{from_the_same}
use Rattle.cedar_staged.proofs.laws.steps_from_the_same_go_on.Goals as goal

pub returns : goal.returns
returns g c = λ differ request store ps steps step x same gives none h.
    goes_on c.args.authorizer.now c.args.next.now c.args.response.now differ request store ps steps step x gives none
    (from_the_same (configuration c.args.next.now) step c.args.response.now c.args.read.now x same h)
