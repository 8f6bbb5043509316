use Rattle.cedar_layers.specs.Policies.{annotations_view}
use Rattle.cedar_policy_json_laws.proofs.Annotations.{annotations_back}
use Rattle.cedar_policy_json_laws.proofs.laws.annotations_read_back.Goals as goal

pub returns : goal.returns
returns c = annotations_back (annotations_view c.args.annotations.now)
