use Rattle.std.proofs.Common.{◌∙◌, ap, not}
use Rattle.cedar_json_reader.proofs.Among.{put_among, has_name}
use Rattle.cedar_json_reader.proofs.entities.insert.Goals as goal

pub returns-in-Ok-clause-new : goal.returns-in-Ok-clause-new
returns-in-Ok-clause-new c = c.in-Ok.ensures.added ∙ ap not (has_name c.args.uid c.args.seen.now.keys)

pub returns-in-Ok-clause-seen : goal.returns-in-Ok-clause-seen
returns-in-Ok-clause-seen c = put_among c.args.seen.now.keys c.insert.new.self.keys c.args.uid c.in-Ok.ensures.updates.1 c.in-Ok.ensures.updates.3
