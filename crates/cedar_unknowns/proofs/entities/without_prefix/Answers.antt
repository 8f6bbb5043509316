use Rattle.cedar_unknowns.proofs.Quoted.{stripped_front}
use Rattle.cedar_unknowns.proofs.entities.without_prefix.Goals as goal

pub returns : goal.returns
returns c = stripped_front c.args.prefix.now c.args.text.now c.strip_prefix.result c.strip_prefix.ensures.cases
