use Rattle.std.proofs.Common.{◌≡◌, drop}
use Rattle.std.specs.List.{list_any}
use Rattle.cedar_model.specs.Outcomes.{text_eq}
use Rattle.cedar_policy_json_reader.proofs.Repeats.{texts}
use Rattle.cedar_policy_json_reader.proofs.unique.is_among.Given as goal

abbrev pub invariant-loop-other : goal.invariant-loop-other
invariant-loop-other l = list_any (text_eq l.key) (texts (drop l.other-index l.keys)) ≡ list_any (text_eq l.key) (texts l.keys)
