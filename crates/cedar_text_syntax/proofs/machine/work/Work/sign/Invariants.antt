use Rattle.std.proofs.Common.{◌≡◌, ◌+◌}
use Rattle.cedar_text_syntax.specs.Standing.{look}
use Rattle.cedar_text_syntax.specs.Trees.{signs_made}
use Rattle.cedar_text_syntax.proofs.machine.work.Work.sign.Given as goal

abbrev pub invariant-loop-done : goal.invariant-loop-done
invariant-loop-done l = record {
  limit : l.self.limit ≡ l.fn.self.limit;
  frames : l.self.frames ≡ l.fn.self.frames;
  look : look l.self ≡ record {
    frames = (look l.fn.self).frames;
    trees = signs_made l.sign l._done l.start (look l.fn.self).end (look l.fn.self).trees;
    level = 2;
    start = l.start;
    end = (look l.fn.self).end;
    height = (look l.fn.self).height + l._done;
  };
}
