-- The candidates of searches.
use Rattle.std.specs.Prelude.{◌≡◌, ◌||◌, List, is_some}
use Rattle.std.specs.List.{IsDistinct}
use Rattle.cedar_model.specs.Terms.{EntityName}
use Rattle.cedar_model.specs.Outcomes.{entity_eq}
use Rattle.cedar_model.specs.Settings.{is_among}
use Rattle.cedar_layers.specs.declared.policies.entities.Entities.{Entities}
use Rattle.cedar_layers.specs.declared.policies.policy_set.PolicySet.{PolicySet}
use Rattle.cedar_layers.specs.PolicySets.{policies_view}
use Rattle.cedar_layers.specs.Stores.{stored_entity}
use Rattle.cedar_scope_actions.specs.Named.{is_named_action}

-- these are the entities that the store has and the actions that the scope of a policy names, each once
pub record AreCandidates (ps : PolicySet) (s : Entities) (us : List EntityName) : Type 0 where
  pub has : (n : EntityName) → is_among n us ≡ (is_named_action (policies_view ps) n || is_some (stored_entity s n))
  pub once : IsDistinct entity_eq us
