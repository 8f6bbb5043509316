use Rattle.cedar_text_syntax.specs.Standing.{look}
use Rattle.cedar_text_syntax.proofs.Parts.{signs_found}
use Rattle.cedar_text_syntax.specs.Reading.{Look}
use Rattle.std.proofs.Common.{ap}
use Rattle.cedar_text_syntax.proofs.machine.work.Work.sign.Goals as goal

pub make-requires : goal.make-requires
make-requires c =
    signs_found c.args.sign c.loop-done._done c.args.start c.args.self.now.end (look c.args.self.now).trees
    (ap (λ (x : Look). x.trees) c.loop-done.invariant.look) c.requires
