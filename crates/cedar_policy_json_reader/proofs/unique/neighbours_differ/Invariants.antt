use Rattle.std.proofs.Common.{ℕ, ◌+◌, ◌<◌}
use Rattle.json.proofs.Unique.Keys.{DifferAt}
use Rattle.cedar_policy_json_reader.proofs.unique.neighbours_differ.Given as goal

abbrev pub invariant-loop-later : goal.invariant-loop-later
invariant-loop-later l = (k : ℕ) → k + 1 < l.later → DifferAt l.keys k (k + 1)
