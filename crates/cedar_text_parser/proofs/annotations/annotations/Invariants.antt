use Rattle.std.proofs.Common.{take}
use Rattle.cedar_text_parser.specs.PolicyReading.{AreAnnotated}
use Rattle.cedar_text_parser.proofs.annotations.annotations.Given as goal

abbrev pub invariant-loop-index : goal.invariant-loop-index
invariant-loop-index l = AreAnnotated l.source (take l.index l.written) l.map.entries
