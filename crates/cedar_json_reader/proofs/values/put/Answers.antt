use Rattle.cedar_json_reader.proofs.Reading.{one_read}
use Rattle.cedar_json_reader.proofs.values.put.Goals as goal
use Rattle.std.proofs.Common.{rules}

pub returns-in-Ok-clause-said : goal.returns-in-Ok-clause-said
returns-in-Ok-clause-said c = one_read c.args.elements.now.items c.push.new.self.items c.args.expr (search rules)
