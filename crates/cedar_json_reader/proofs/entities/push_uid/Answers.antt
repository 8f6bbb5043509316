use Rattle.std.proofs.Common.{rules}
use Rattle.cedar_json_reader.proofs.EntityLemmas.{one_name}
use Rattle.cedar_json_reader.proofs.entities.push_uid.Goals as goal

pub returns-in-Ok-clause-said : goal.returns-in-Ok-clause-said
returns-in-Ok-clause-said c = one_name c.args.uids.now.items c.push.new.self.items c.args.uid (search rules)
