use Rattle.std.specs.Prelude.{map}
use Rattle.cedar_layers.specs.Policies.{policy_view}
use Rattle.cedar_layers.specs.PolicySets.{policies_view}
use Rattle.cedar_policy_json_writer.specs.Links.{link_view}
use Rattle.cedar_policy_json_laws.proofs.PolicySets.{policy_set_reads_back}
use Rattle.cedar_policy_json_laws.proofs.laws.policy_sets_read_back.Goals as goal

pub returns : goal.returns
returns c = policy_set_reads_back (policies_view c.args.policies.now) (map policy_view c.args.templates.now) (map link_view c.args.links.now)
