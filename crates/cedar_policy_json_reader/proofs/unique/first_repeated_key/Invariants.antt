use Rattle.std.proofs.Common.{◌≡◌, drop, take}
use Rattle.cedar_model.specs.Refusals.{first_repeated, first_repeated_after}
use Rattle.cedar_policy_json_reader.proofs.Repeats.{texts}
use Rattle.cedar_policy_json_reader.proofs.unique.first_repeated_key.Given as goal

abbrev pub invariant-loop-index : goal.invariant-loop-index
invariant-loop-index l = first_repeated_after (texts (take l.index l.keys)) (texts (drop l.index l.keys)) ≡ first_repeated (texts l.keys)
