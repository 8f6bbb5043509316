use Rattle.std.proofs.Common.{◌≡◌, take}
use Rattle.cedar_text_syntax.specs.Nodes.{each, IsTopAtMost}
use Rattle.cedar_text_syntax.specs.Trees.{trees}
use Rattle.cedar_text_syntax.proofs.nodes.limit_nodes.Given as goal

abbrev pub invariant-loop-step : goal.invariant-loop-step
invariant-loop-step l = record {
  counts : l.counts ≡ each (trees (take l.step-index l.steps));
  low : IsTopAtMost l.most l.counts;
}
