use Rattle.std.proofs.Common.{rules}
use Rattle.cedar_json_reader.proofs.SeenEntities.{one_stated}
use Rattle.cedar_json_reader.proofs.entities.push_entity.Goals as goal

pub returns-in-Ok-clause-said : goal.returns-in-Ok-clause-said
returns-in-Ok-clause-said c = one_stated c.args.entities.now.items c.push.new.self.items c.args.entity (search rules)
