use Rattle.std.proofs.Common.{◌≡◌, string_bytes}
use Rattle.cedar_text_parser.specs.Wording.{spelled}
use Rattle.cedar_text_parser.proofs.leaves.words.Given as goal

abbrev pub invariant-loop-n : goal.invariant-loop-n
invariant-loop-n l = string_bytes l.words ≡ spelled l.source l.from l.n
