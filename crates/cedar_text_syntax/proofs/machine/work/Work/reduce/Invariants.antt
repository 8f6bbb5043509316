use Rattle.std.proofs.Common.{◌≤◌, ◌≡◌, length}
use Rattle.cedar_text_syntax.specs.Reading.{Reads}
use Rattle.cedar_text_syntax.specs.Standing.{look}
use Rattle.cedar_text_syntax.proofs.machine.work.Work.reduce.Given as goal

abbrev pub invariant-loop-frame : goal.invariant-loop-frame
invariant-loop-frame l =
    record {
      limit : l.self.limit ≡ l.fn.self.limit;
      low : l.self.level ≤ l.level;
      reads : Reads l.tokens (look l.self) l.index;
    }

abbrev pub decreases-loop-frame : goal.decreases-loop-frame
decreases-loop-frame l = length l.self.frames
