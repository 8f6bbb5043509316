use Rattle.std.proofs.Common.{◌≡◌, ◌||◌, drop}
use Rattle.cedar_layers.specs.Stores.{entity_name, entity_view}
use Rattle.cedar_plan.specs.Planned.{row_policies_view}
use Rattle.cedar_plan.specs.Told.{some_counts, some_untold}
use Rattle.cedar_plan.proofs.policies.standing_of.Given as goal

-- what was found, and what is left to find, are all
abbrev pub invariant-policies : goal.invariant-policies
invariant-policies l =
    ((l.standing.counts || some_counts l.fn.errs_count (entity_name l.fn.entity) (entity_view l.fn.entity) (row_policies_view (drop l.policy-index l.fn.policies)))
    ≡ some_counts l.fn.errs_count (entity_name l.fn.entity) (entity_view l.fn.entity) (row_policies_view l.fn.policies))
    × ((l.standing.is_open || some_untold l.fn.errs_count (entity_name l.fn.entity) (entity_view l.fn.entity) (row_policies_view (drop l.policy-index l.fn.policies)))
    ≡ some_untold l.fn.errs_count (entity_name l.fn.entity) (entity_view l.fn.entity) (row_policies_view l.fn.policies))
