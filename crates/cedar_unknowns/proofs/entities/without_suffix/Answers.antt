use Rattle.cedar_unknowns.proofs.Quoted.{stripped_end}
use Rattle.cedar_unknowns.proofs.entities.without_suffix.Goals as goal

pub returns : goal.returns
returns c = stripped_end c.args.suffix.now c.args.text.now c.strip_suffix.result c.strip_suffix.ensures.cases
