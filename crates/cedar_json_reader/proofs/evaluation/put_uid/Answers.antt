use Rattle.cedar_json_reader.proofs.Among.{put_among}
use Rattle.cedar_json_reader.proofs.evaluation.put_uid.Goals as goal

pub returns-in-Ok-clause-puts : goal.returns-in-Ok-clause-puts
returns-in-Ok-clause-puts c = put_among c.args.set.now.keys c.insert.new.self.keys c.args.uid c.in-Ok.ensures.updates.1 c.in-Ok.ensures.updates.3
