use Rattle.std.proofs.Common.{rules}
use Rattle.cedar_expressions.specs.View.{view}
use Rattle.cedar_policy_json_reader.proofs.Lists.{one_mapped}
use Rattle.cedar_policy_json_reader.proofs.making.put.Goals as goal

pub returns-in-Ok-clause-said : goal.returns-in-Ok-clause-said
returns-in-Ok-clause-said c = one_mapped view c.args.elements.now.items c.push.new.self.items c.args.expr (search rules)
