use Rattle.std.proofs.Common.{drop, string_bytes}
use Rattle.cedar_cli.proofs.Staged.{AreWordsSoFar}
use Rattle.cedar_cli.proofs.partial.text_above.Given as goal

abbrev pub invariant-later : goal.invariant-later
invariant-later l =
    AreWordsSoFar l.fn.first l.fn.later (drop l.taken-index l.later) l.response (string_bytes l.above)
