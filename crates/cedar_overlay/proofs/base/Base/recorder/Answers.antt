use Rattle.std.proofs.Common.{option_copied}
use Rattle.cedar_layers.specs.Stores.{stored_entity}
use Rattle.cedar_overlay.proofs.Noted.{is_recorder}
use Rattle.cedar_overlay.proofs.base.Base.recorder.Goals as goal

pub returns : goal.returns
returns c =
    is_recorder (stored_entity c.args.self.now.entities) c.args.self.now.missing.entries c.args.uid.now (option_copied c.get.result) c.args.self.now.every c.args.self.now.right c.get.ensures.value
