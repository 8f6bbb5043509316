use Rattle.std.proofs.Common.{◌≡◌, ℕ, List, ◌++◌, map, true}
use Rattle.std.specs.Fmt.{HasWritten, IsPlainFormatter}
use Rattle.cedar_layers.specs.Policies.{policy_view}
use Rattle.cedar_layers.specs.PolicySets.{policies_left, policies_view}
use Rattle.cedar_text_printer.specs.Policies.{policies_text}
use Rattle.cedar_text_printer.proofs.policies.write_policies.Given as goal

abbrev pub invariant-policies : goal.invariant-policies
invariant-policies g l =
    IsPlainFormatter l.initial.f
    → (done : List ℕ) × HasWritten g.W.Write.write_str_gives l.initial.f done l.f
    × (done ++ policies_text l.is_first (map policy_view (policies_left l.policy-iterator)) ≡ policies_text true (policies_view l.fn.policies))
