use Rattle.cedar_layers.specs.Policies.{policy_view}
use Rattle.cedar_policy_json_laws.proofs.Policies.{template_reads_back}
use Rattle.cedar_policy_json_laws.proofs.laws.templates_read_back.Goals as goal

pub returns : goal.returns
returns c = template_reads_back (policy_view c.args.template.now)
