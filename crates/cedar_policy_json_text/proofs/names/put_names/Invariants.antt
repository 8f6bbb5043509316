use Rattle.std.proofs.Common.{◌≡◌, ◌++◌, map, drop}
use Rattle.std.specs.Prelude.{flat_map}
use Rattle.cedar_layers.specs.Policies.{policy_view, policy_ids}
use Rattle.cedar_policy_json_text.specs.Kept.{lent}
use Rattle.cedar_policy_json_text.specs.Names.{id_and_name}
use Rattle.cedar_policy_json_text.proofs.names.put_names.Given as goal

-- the texts of those that were put, and of those that are left
abbrev pub invariant-policies : goal.invariant-policies
invariant-policies l =
    policy_ids (map policy_view l.all.items) ++ flat_map id_and_name (lent (drop l.policy-index l.fn.policies))
    ≡ policy_ids (map policy_view l.initial.all.items) ++ flat_map id_and_name (lent l.fn.policies)
