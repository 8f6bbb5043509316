use Rattle.cedar_endpoints.proofs.Identified.{stripped}
use Rattle.cedar_endpoints.proofs.ids.inside.Goals as goal

pub returns : goal.returns
returns c = stripped c.args.text.now c.strip_prefix.result c.strip_prefix.ensures.cases
