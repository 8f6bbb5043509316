use Rattle.cedar_staged.proofs.Relayed.{relays_headline}
use Rattle.cedar_staged.proofs.laws.relayed_steps_have_the_headline.Goals as goal

pub returns : goal.returns
returns g c = relays_headline c.args.authorizer.now
