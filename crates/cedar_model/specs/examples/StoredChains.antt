-- Worked examples: chains whose steps read a stored residual, each with its own resolution.
use Rattle.std.specs.Prelude.{◌≡◌, pos, false, cond, List, [], ◌∷◌, Some, None, unwrap_or, codes}
use Rattle.cedar_model.specs.Terms.{Text, entity_literal, long_literal, Variable, principal, resource, Term, variable}
use Rattle.cedar_model.specs.Terms.{contains_operator, both, binary, get_attribute}
use Rattle.cedar_model.specs.Values.{plain, set_value, no_values, one_value, no_values_at, Represented}
use Rattle.cedar_model.specs.Outcomes.{text_eq, entity_eq}
use Rattle.cedar_model.specs.World.{World, WorldEntity}
use Rattle.cedar_model.specs.Failures.{residual}
use Rattle.cedar_model.specs.Settings.{Entry, known_entry, unknown_entry, RequestPart, StoredEntity, Store}
use Rattle.cedar_model.specs.Settings.{Resolution, shallow, deep, part_at}
use Rattle.cedar_model.specs.Agreement.{AgreesWithFunctions, EachStored}
use Rattle.cedar_model.specs.Policies.{permit, forbid, Policy, skip, allow, decision, reasons, judge_each}
use Rattle.cedar_model.specs.Responses.{reported_residual, truth}
use Rattle.cedar_model.specs.Configurations.{Configuration, resolving}
use Rattle.cedar_model.specs.Chains.{Mapping, Response, StepsTo, Begins, ChainStep, ChainOf}
use Rattle.cedar_model.specs.Reports.{ids, given_decision, must_determine, nontrivial_residual_ids, HaveNoResidual}
use Rattle.cedar_model.specs.Restricted.{IsSound, IsSoundContext}
use Rattle.cedar_model.specs.Headline.{Premises}
use Rattle.cedar_model.specs.Progress.{LeavesNoResidual, NamesAll}
use Rattle.cedar_model.specs.examples.Setting.{user, long, example_entity, some_calls, some_extensions, some_functions}
use Rattle.cedar_model.specs.Resolutions.{the_set}
use Rattle.cedar_model.specs.examples.Chains.{row, policy, map_of, an_entity, a_number, requested, empty_context}
use Rattle.cedar_model.specs.examples.Chains.{configured_in}

-- ---- what is given

-- `E::"e"` stores `g` = `[u]`
abbrev pub set_facts : StoredEntity
set_facts = record { attributes = (codes "g", residual the_set) ∷ []; tags = []; ancestors = [] }

abbrev pub set_store : Store
set_store = record { entity = λ e. cond (entity_eq e example_entity) (Some set_facts) None; is_partial = false }

-- the principal is unknown, the context empty
abbrev pub asking_of : Entry → RequestPart
asking_of e = requested (unknown_entry None) e empty_context

-- the resource is `E::"e"`
abbrev pub asked_request : RequestPart
asked_request = asking_of (known_entry example_entity)

-- the resource is unknown too
abbrev pub asking_twice : RequestPart
asking_twice = asking_of (unknown_entry None)

-- v.g.contains(n)
abbrev pub contains_in : Variable → Term → Term
contains_in v n = binary contains_operator (get_attribute (variable v) (codes "g")) n

-- 1: permit when principal.g.contains(1)
abbrev pub one_reads : List Policy
one_reads = policy (codes "1") permit (contains_in principal (long 1)) ∷ []

-- and 2: forbid when resource.g.contains(2)
abbrev pub two_read : List Policy
two_read =
    policy (codes "1") permit (contains_in principal (long 1)) ∷
    policy (codes "2") forbid (contains_in resource (long 2)) ∷ []

-- one variable is `E::"e"`, and u is 1
abbrev pub names : Text → Mapping
names variable_name = map_of ((variable_name, an_entity example_entity) ∷ (codes "u", a_number 1) ∷ [])

abbrev pub principal_map : Mapping
principal_map = names (codes "principal")

abbrev pub resource_named : Mapping
resource_named = names (codes "resource")

-- a call with this resolution, and a step over the store
abbrev pub configured_with : Resolution → Configuration
configured_with r = resolving r (configured_in skip 9)

abbrev pub step_resolving : Resolution → Mapping → ChainStep
step_resolving r m = record { mapping = m; store = set_store; resolution = r }

-- ---- a step that reads a stored residual

-- at first nothing is decided. By one map, a deep step answers Allow, and leaves no residual; a shallow one leaves what
-- is stored, though the map names its unknown
abbrev pub StepsRead : Type 0
StepsRead =
    (first : Response) × (read : Response) × (kept : Response)
    × Begins (configured_with shallow) asked_request set_store one_reads first
    × StepsTo (configured_with deep) principal_map set_store first read
    × StepsTo (configured_with shallow) principal_map set_store first kept
    × (given_decision first.rows ≡ None) × (nontrivial_residual_ids first.rows ≡ codes "1" ∷ [])
    × (given_decision read.rows ≡ Some allow) × (ids (must_determine read.rows) ≡ codes "1" ∷ [])
    × HaveNoResidual read.rows × (read.errors ≡ []) × (given_decision kept.rows ≡ None)
    × (kept.rows ≡ row (codes "1") permit (reported_residual (both truth (both truth
    (binary contains_operator the_set (long 1))))) ∷ [])

-- a world in which principal and resource are `E::"e"`, whose `g` is `[1]`, and any other unknown is 1
abbrev pub known_set : WorldEntity
known_set = record {
  is_ancestor = λ e. false;
  attribute = λ k. cond (text_eq k (codes "g")) (Some (set_value (one_value (plain (long_literal (pos 1))) no_values)))
      None;
  tag = λ k. None;
}

abbrev pub set_world : World
set_world = record {
  principal_entity = example_entity;
  action_entity = user (codes "act");
  resource_entity = example_entity;
  context_record = no_values_at;
  store = λ e. cond (entity_eq e example_entity) (Some known_set) None;
  sigma = λ n. unwrap_or (part_at n ((codes "principal", plain (entity_literal example_entity)) ∷
      (codes "resource", plain (entity_literal example_entity)) ∷ [])) (plain (long_literal (pos 1)));
}

-- it completes a chain of these steps whose last response gives Allow for 1, as the policies decide there
abbrev pub IsCompleted : RequestPart → List Policy → List ChainStep → Type 0
IsCompleted request policies steps =
    (first : Response) × (last : Response)
    × Begins (configured_with shallow) request set_store policies first
    × ChainOf (configured_with shallow) first steps last
    × Premises (configured_with shallow) request set_store policies steps some_functions set_world last.errors
    × (given_decision last.rows ≡ Some allow) × (ids (must_determine last.rows) ≡ codes "1" ∷ [])
    × HaveNoResidual last.rows
    × (decision (judge_each some_extensions some_functions set_world policies) ≡ allow)
    × (reasons (judge_each some_extensions some_functions set_world policies) ≡ codes "1" ∷ [])

abbrev pub DeepStepIsCompleted : Type 0
DeepStepIsCompleted = IsCompleted asked_request one_reads (step_resolving deep principal_map ∷ [])

-- ---- steps that differ

abbrev pub steps_by : Resolution → Resolution → List ChainStep
steps_by r q = step_resolving r principal_map ∷ step_resolving q resource_named ∷ []

-- a shallow step by the principal leaves both policies residual. Then a deep step by the resource makes the permit true
-- and the forbid false: Allow; a shallow one makes the permit true and leaves the forbid: nothing is decided
abbrev pub StepsDiffer : Type 0
StepsDiffer =
    (first : Response) × (middle : Response) × (allowed : Response) × (kept : Response)
    × Begins (configured_with shallow) asking_twice set_store two_read first
    × StepsTo (configured_with shallow) principal_map set_store first middle
    × ChainOf (configured_with shallow) first (steps_by shallow deep) allowed
    × ChainOf (configured_with shallow) first (steps_by shallow shallow) kept
    × (given_decision middle.rows ≡ None) × (nontrivial_residual_ids middle.rows ≡ codes "1" ∷ codes "2" ∷ [])
    × (given_decision allowed.rows ≡ Some allow) × (given_decision kept.rows ≡ None)
    × (ids (must_determine kept.rows) ≡ []) × (nontrivial_residual_ids kept.rows ≡ codes "2" ∷ [])

abbrev pub DifferingStepsAreCompleted : Type 0
DifferingStepsAreCompleted = IsCompleted asking_twice two_read (steps_by shallow deep)

-- ---- progress

-- what the law of progress asks of a step with this resolution, where the store holds a residual
abbrev pub ProgressPremises : Resolution → Response → Type 0
ProgressPremises r old =
    AgreesWithFunctions some_functions some_calls × (set_store.is_partial ≡ false)
    × EachStored (LeavesNoResidual some_functions principal_map r) set_store
    × IsSoundContext old.request.context_part
    × ((n : Text) (v : Represented) → principal_map n ≡ Some v → IsSound v)
    × NamesAll some_functions principal_map old

-- a deep step meets it, and leaves no residual; a shallow one does not, though the map names all
abbrev pub DeepStepFinishes : Type 0
DeepStepFinishes =
    (first : Response) × (read : Response) × Begins (configured_with shallow) asked_request set_store one_reads first
    × ProgressPremises deep first × (ProgressPremises shallow first → ⊥)
    × StepsTo (configured_with deep) principal_map set_store first read × HaveNoResidual read.rows
