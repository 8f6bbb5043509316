-- Worked examples: a partial store that leaves an entity out, and a step to a larger store that has it.
use Rattle.std.specs.Prelude.{◌≡◌, true, false, cond, List, [], ◌∷◌, Some, None, codes}
use Rattle.cedar_model.specs.Terms.{EntityName, principal, not_operator, in_operator, variable, unary, binary}
use Rattle.cedar_model.specs.Values.{no_values_at}
use Rattle.cedar_model.specs.Outcomes.{entity_eq}
use Rattle.cedar_model.specs.World.{World, WorldEntity}
use Rattle.cedar_model.specs.Settings.{known_entry, RequestPart, StoredEntity, Store, shallow, is_among, printed_entity}
use Rattle.cedar_model.specs.Agreement.{AgreesWithStore}
use Rattle.cedar_model.specs.Policies.{permit, forbid, Policy, skip, allow, deny, decision, reasons, judge_each}
use Rattle.cedar_model.specs.Responses.{truth}
use Rattle.cedar_model.specs.Configurations.{Configuration}
use Rattle.cedar_model.specs.Chains.{Mapping, Response, Begins, ChainStep, ChainOf}
use Rattle.cedar_model.specs.Reports.{ids, given_decision, must_determine, nontrivial_residual_ids, HaveNoResidual}
use Rattle.cedar_model.specs.Printing.{read_entity}
use Rattle.cedar_model.specs.Headline.{Premises}
use Rattle.cedar_model.specs.examples.Setting.{entity_of_type, user, entity, some_extensions, some_functions}
use Rattle.cedar_model.specs.examples.Instances.{value_of_unknown}
use Rattle.cedar_model.specs.examples.Chains.{policy, map_of, an_entity, requested, empty_context, configured_in}

-- ---- who is in what: Alice in a team, and the team in an organization

abbrev pub alice : EntityName
alice = user (codes "alice")

abbrev pub team : EntityName
team = entity_of_type (codes "Team") (codes "north")

abbrev pub organization : EntityName
organization = entity_of_type (codes "Org") (codes "o")

-- 0: permit; 1: forbid unless principal in Org::"o"
abbrev pub for_members : List Policy
for_members =
    policy (codes "0") permit truth ∷
    policy (codes "1") forbid (unary not_operator (binary in_operator (variable principal) (entity organization))) ∷ []

-- Alice asks
abbrev pub asked : RequestPart
asked = requested (known_entry alice) (known_entry (user (codes "r"))) empty_context

-- ---- the stores

-- an entity that records these ancestors
abbrev pub recorded_in : List EntityName → StoredEntity
recorded_in es = record { attributes = []; tags = []; ancestors = es }

-- Alice and the organization are handed in, and her team isn't: so she is left out
abbrev pub partial_store : Store
partial_store =
    record { entity = λ e. cond (entity_eq e organization) (Some (recorded_in [])) None; is_partial = true }

-- all three
abbrev pub whole_store : Store
whole_store = record {
  entity = λ e. cond (entity_eq e organization) (Some (recorded_in []))
      (cond (entity_eq e team) (Some (recorded_in (organization ∷ [])))
      (cond (entity_eq e alice) (Some (recorded_in (team ∷ organization ∷ []))) None));
  is_partial = false;
}

-- Alice, recorded with her parent alone
abbrev pub orphan_store : Store
orphan_store = record {
  entity = λ e. cond (entity_eq e organization) (Some (recorded_in []))
      (cond (entity_eq e alice) (Some (recorded_in (team ∷ []))) None);
  is_partial = true;
}

-- ---- a step to the whole store, by which the unknown that stands for Alice is Alice

abbrev pub alice_is_herself : Mapping
alice_is_herself = map_of ((printed_entity alice, an_entity alice) ∷ [])

abbrev pub to_the_whole : ChainStep
to_the_whole = record { mapping = alice_is_herself; store = whole_store; resolution = shallow }

-- ---- a world that has what the whole store has

abbrev pub known_in : List EntityName → WorldEntity
known_in es = record { is_ancestor = λ e. is_among e es; attribute = λ k. None; tag = λ k. None }

-- the unknown of each entity is that entity
abbrev pub members_world : World
members_world = record {
  principal_entity = alice;
  action_entity = user (codes "act");
  resource_entity = user (codes "r");
  context_record = no_values_at;
  store = λ e. cond (entity_eq e organization) (Some (known_in []))
      (cond (entity_eq e team) (Some (known_in (organization ∷ [])))
      (cond (entity_eq e alice) (Some (known_in (team ∷ organization ∷ []))) None));
  sigma = λ n. value_of_unknown (read_entity n) n;
}

abbrev pub configuration : Configuration
configuration = configured_in skip 9

-- it completes the partial store, over which nothing is decided: the forbid is residual
abbrev pub PartialStoreIsCompleted : Type 0
PartialStoreIsCompleted =
    (first : Response) × Begins configuration asked partial_store for_members first
    × Premises configuration asked partial_store for_members [] some_functions members_world first.errors
    × (given_decision first.rows ≡ None) × (nontrivial_residual_ids first.rows ≡ codes "1" ∷ []) × (first.errors ≡ [])

-- it completes the chain that goes on over the whole store, whose last response gives Allow for 0, as the policies
-- decide there
abbrev pub LargerStoreIsCompleted : Type 0
LargerStoreIsCompleted =
    (first : Response) × (last : Response) × Begins configuration asked partial_store for_members first
    × ChainOf configuration first (to_the_whole ∷ []) last
    × Premises configuration asked partial_store for_members (to_the_whole ∷ []) some_functions members_world
    last.errors
    × (given_decision first.rows ≡ None) × (given_decision last.rows ≡ Some allow)
    × (ids (must_determine last.rows) ≡ codes "0" ∷ []) × HaveNoResidual last.rows
    × (decision (judge_each some_extensions some_functions members_world for_members) ≡ allow)
    × (reasons (judge_each some_extensions some_functions members_world for_members) ≡ codes "0" ∷ [])

-- over a store that records Alice without all her ancestors the answer is Deny, and no world that agrees with it agrees
-- with the whole store
abbrev pub OrphanIsRefuted : Type 0
OrphanIsRefuted =
    (first : Response) × Begins configuration asked orphan_store for_members first
    × (given_decision first.rows ≡ Some deny)
    × ((w : World) → AgreesWithStore some_extensions some_functions w orphan_store
    → ¬ AgreesWithStore some_extensions some_functions w whole_store)
