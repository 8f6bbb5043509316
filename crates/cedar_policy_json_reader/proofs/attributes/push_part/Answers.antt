use Rattle.std.proofs.Common.{rules}
use Rattle.cedar_names.specs.Leaves.{part_view}
use Rattle.cedar_policy_json_reader.proofs.Lists.{one_mapped}
use Rattle.cedar_policy_json_reader.proofs.attributes.push_part.Goals as goal

pub returns-in-Ok-clause-said : goal.returns-in-Ok-clause-said
returns-in-Ok-clause-said c = one_mapped part_view c.args.elems.now.items c.push.new.self.items c.args.elem (search rules)
