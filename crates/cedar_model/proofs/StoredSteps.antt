-- Chains whose steps read a stored residual, and a world that completes them.
use Rattle.std.specs.Prelude.{◌≡◌, pos, Bool, true, false, cond, List, [], ◌∷◌, Some, None, Ok, codes}
use Rattle.std.proofs.Common.{refl, subst}
use Rattle.cedar_model.specs.Terms.{Text, EntityName, long_literal}
use Rattle.cedar_model.specs.Values.{plain, set_value, no_values, one_value, Represented, abstract_value, expression_of}
use Rattle.cedar_model.specs.Outcomes.{text_eq, entity_eq}
use Rattle.cedar_model.specs.Failures.{PartialValue, residual}
use Rattle.cedar_model.specs.Policies.{Policy, skip}
use Rattle.cedar_model.specs.Settings.{known_entry, RequestPart, Resolution, shallow, deep, Setting}
use Rattle.cedar_model.specs.Settings.{found_in, part_at}
use Rattle.cedar_model.specs.Agreement
use Rattle.cedar_model.specs.Restricted.{IsSound}
use Rattle.cedar_model.specs.Chains
use Rattle.cedar_model.specs.Chains.{Mapping, Response}
use Rattle.cedar_model.specs.Headline
use Rattle.cedar_model.specs.Progress
use Rattle.cedar_model.specs.examples.Setting.{some_functions, some_extensions, example_entity}
use Rattle.cedar_model.specs.Resolutions.{the_set}
use Rattle.cedar_model.specs.examples.Chains.{an_entity, a_number, empty_context}
use Rattle.cedar_model.specs.examples.StoredChains
use Rattle.cedar_model.proofs.Exemplified
use Rattle.cedar_model.proofs.TwoSteps.{functional, faithful}
use Rattle.cedar_model.proofs.Injections.{some_inj, none_is_not_some}

-- ---- the responses

abbrev pub at : Resolution → RequestPart → Mapping → Setting
at resolution r m = Chains.at_step some_extensions resolution r StoredChains.set_store m

abbrev begun : RequestPart → List Policy → Response
begun r ps =
    record {
      mode = skip;
      request = r;
      rows = Exemplified.rows_to skip (at shallow r Chains.no_values) 9 ps;
      errors = Exemplified.errors_to (at shallow r Chains.no_values) 9 ps;
    }

abbrev stepped : Resolution → Response → RequestPart → Mapping → Response
stepped resolution old r m =
    record {
      mode = skip;
      request = r;
      rows = Exemplified.rows_to skip (at resolution r m) 9 (Chains.all_residuals old.rows);
      errors = Exemplified.errors_to (at resolution r m) 9 (Chains.all_residuals old.rows);
    }

-- principal and resource are known
abbrev known : RequestPart
known =
    record {
      principal_entry = known_entry example_entity;
      action_entry = StoredChains.asked_request.action_entry;
      resource_entry = known_entry example_entity;
      context_part = empty_context;
    }

-- the principal alone
abbrev half_known : RequestPart
half_known =
    record {
      principal_entry = known_entry example_entity;
      action_entry = StoredChains.asked_request.action_entry;
      resource_entry = StoredChains.asking_twice.resource_entry;
      context_part = empty_context;
    }

abbrev pub first : Response
first = begun StoredChains.asked_request StoredChains.one_reads

abbrev pub read : Response
read = stepped deep first known StoredChains.principal_map

abbrev pub kept : Response
kept = stepped shallow first known StoredChains.principal_map

pub begins : Chains.Begins (StoredChains.configured_with shallow) StoredChains.asked_request StoredChains.set_store
    StoredChains.one_reads first
unfolding Exemplified.chain_opened Exemplified.finds_none Exemplified.is_memory
begins = record {
  mode_is = refl;
  request_is = refl;
  runs = Exemplified.run_to skip (at shallow StoredChains.asked_request Chains.no_values) 9 StoredChains.one_reads (refl, tt);
}

pub is_read : Chains.StepsTo (StoredChains.configured_with deep) StoredChains.principal_map StoredChains.set_store first
    read
unfolding Exemplified.chain_opened Exemplified.finds_none Exemplified.is_memory
is_read = (
  Ok empty_context,
  refl,
  (
    read.rows,
    read.errors,
    Exemplified.run_to skip (at deep known StoredChains.principal_map) 9 (Chains.all_residuals first.rows) (refl, tt),
    refl,
  ),
)

pub is_kept : Chains.StepsTo (StoredChains.configured_with shallow) StoredChains.principal_map StoredChains.set_store
    first kept
unfolding Exemplified.chain_opened Exemplified.finds_none Exemplified.is_memory
is_kept = (
  Ok empty_context,
  refl,
  (
    kept.rows,
    kept.errors,
    Exemplified.run_to skip (at shallow known StoredChains.principal_map) 9 (Chains.all_residuals first.rows)
        (refl, tt),
    refl,
  ),
)

pub chained : Chains.ChainOf (StoredChains.configured_with shallow) first
    (StoredChains.step_resolving deep StoredChains.principal_map ∷ []) read
unfolding Exemplified.chain_opened
chained = (Ok read, is_read, refl)

-- ---- steps that differ

abbrev pub first_of_two : Response
first_of_two = begun StoredChains.asking_twice StoredChains.two_read

abbrev pub middle : Response
middle = stepped shallow first_of_two half_known StoredChains.principal_map

abbrev pub last : Resolution → Response
last resolution = stepped resolution middle known StoredChains.resource_named

pub two_begin : Chains.Begins (StoredChains.configured_with shallow) StoredChains.asking_twice StoredChains.set_store
    StoredChains.two_read first_of_two
unfolding Exemplified.chain_opened Exemplified.finds_none Exemplified.is_memory
two_begin = record {
  mode_is = refl;
  request_is = refl;
  runs = Exemplified.run_to skip (at shallow StoredChains.asking_twice Chains.no_values) 9 StoredChains.two_read
      (refl, (refl, tt));
}

pub first_step : Chains.StepsTo (StoredChains.configured_with shallow) StoredChains.principal_map StoredChains.set_store
    first_of_two middle
unfolding Exemplified.chain_opened Exemplified.finds_none Exemplified.is_memory
first_step = (
  Ok empty_context,
  refl,
  (
    middle.rows,
    middle.errors,
    Exemplified.run_to skip (at shallow half_known StoredChains.principal_map) 9
        (Chains.all_residuals first_of_two.rows) (refl, (refl, tt)),
    refl,
  ),
)

deep_step : Chains.StepsTo (StoredChains.configured_with deep) StoredChains.resource_named StoredChains.set_store middle
    (last deep)
unfolding Exemplified.chain_opened Exemplified.finds_none Exemplified.is_memory
deep_step = (
  Ok empty_context,
  refl,
  (
    (last deep).rows,
    (last deep).errors,
    Exemplified.run_to skip (at deep known StoredChains.resource_named) 9 (Chains.all_residuals middle.rows)
        (refl, (refl, tt)),
    refl,
  ),
)

shallow_step : Chains.StepsTo (StoredChains.configured_with shallow) StoredChains.resource_named StoredChains.set_store
    middle (last shallow)
unfolding Exemplified.chain_opened Exemplified.finds_none Exemplified.is_memory
shallow_step = (
  Ok empty_context,
  refl,
  (
    (last shallow).rows,
    (last shallow).errors,
    Exemplified.run_to skip (at shallow known StoredChains.resource_named) 9 (Chains.all_residuals middle.rows)
        (refl, (refl, tt)),
    refl,
  ),
)

pub ends_deep : Chains.ChainOf (StoredChains.configured_with shallow) first_of_two (StoredChains.steps_by shallow deep)
    (last deep)
unfolding Exemplified.chain_opened
ends_deep = (Ok middle, first_step, (Ok (last deep), deep_step, refl))

pub ends_shallow : Chains.ChainOf (StoredChains.configured_with shallow) first_of_two
    (StoredChains.steps_by shallow shallow) (last shallow)
unfolding Exemplified.chain_opened
ends_shallow = (Ok middle, first_step, (Ok (last shallow), shallow_step, refl))

-- ---- what is stored and mapped

-- the one stored part is such
each_stored : (Such : PartialValue → Type 0) → Such (residual the_set)
    → Agreement.EachStored Such StoredChains.set_store
each_stored Such h e x k p f = by (entity_eq e example_entity) f
  where
    by : (b : Bool) → cond b (Some StoredChains.set_facts) None ≡ Some x
        → ((part_at k x.attributes ≡ Some p → Such p) × (part_at k x.tags ≡ Some p → Such p))
    by true g =
        subst (λ z. (part_at k z.attributes ≡ Some p → Such p) × (part_at k z.tags ≡ Some p → Such p)) (some_inj g) (
          Exemplified.at_each (λ n q. Such q) StoredChains.set_facts.attributes (h, tt) k p,
          Exemplified.at_each (λ n q. Such q) [] tt k p,
        )
    by false g = absurd (none_is_not_some g)

-- so is each value of a map
each_named : (variable_name : Text) (Such : Text → Represented → Type 0)
    → Such variable_name (an_entity example_entity) → Such (codes "u") (a_number 1) → (n : Text) (v : Represented)
    → StoredChains.names variable_name n ≡ Some v → Such n v
each_named variable_name Such h i =
    Exemplified.at_each Such ((variable_name, an_entity example_entity) ∷ (codes "u", a_number 1) ∷ []) (h, (i, tt))

pub names_all : Progress.NamesAll some_functions StoredChains.principal_map first
unfolding Exemplified.chain_opened
names_all = record {
  principal_is_named = refl;
  action_is_named = tt;
  resource_is_named = tt;
  context_is_named = tt;
  rows_are_named = ((tt, (refl, tt)), tt);
  values_are_known =
      each_named (codes "principal") (λ n v. Agreement.IsKnown some_functions (expression_of v)) tt tt;
}

pub finishes : StoredChains.ProgressPremises deep first
unfolding Exemplified.chain_opened
finishes = (
  functional,
  refl,
  each_stored (Progress.LeavesNoResidual some_functions StoredChains.principal_map deep) (refl, tt),
  tt,
  each_named (codes "principal") (λ n v. IsSound v) tt tt,
  names_all,
)

pub shallow_isn't : StoredChains.ProgressPremises shallow first → ⊥
unfolding Exemplified.chain_opened
shallow_isn't h = (h.2 example_entity StoredChains.set_facts (codes "g") (residual the_set) refl).0 refl

-- ---- the world

set_means : (b : Bool) → Agreement.AgreesAt some_extensions some_functions StoredChains.set_world
    (cond b (Some (residual the_set)) None)
    (cond b (Some (set_value (one_value (plain (long_literal (pos 1))) no_values))) None)
unfolding Exemplified.chain_opened
set_means true = refl
set_means false = tt

facts_agree : Agreement.AgreesWithFacts some_extensions some_functions StoredChains.set_world StoredChains.set_facts
    StoredChains.known_set
unfolding Exemplified.chain_opened
facts_agree = record {
  ancestors_agree = λ e. refl;
  attributes_agree = λ k. set_means (text_eq k (codes "g"));
  tags_agree = λ k. tt;
}

store_by : (e : EntityName) (b : Bool)
    → Agreement.AgreesWithFound some_extensions some_functions StoredChains.set_world e
    (found_in (cond b (Some StoredChains.set_facts) None) false) (cond b (Some StoredChains.known_set) None)
unfolding found_in
store_by e true = facts_agree
store_by e false = refl

store_completes : Headline.CompletesStore some_extensions some_functions StoredChains.set_world StoredChains.set_store
store_completes = record {
  store_agrees = λ e. store_by e (entity_eq e example_entity);
  stored_values_are_faithful = each_stored (Agreement.IsFaithfulPart some_extensions some_functions) tt;
  stored_residuals_fit = each_stored (Agreement.FitsPart some_extensions some_functions StoredChains.set_world)
      (tt, tt);
}

map_completes : (variable_name : Text)
    → StoredChains.set_world.sigma variable_name ≡ abstract_value (an_entity example_entity)
    → Headline.CompletesMap some_extensions some_functions StoredChains.set_world (StoredChains.names variable_name)
unfolding Exemplified.chain_opened
map_completes variable_name h = record {
  map_agrees = each_named variable_name (λ n v. StoredChains.set_world.sigma n ≡ abstract_value v) h refl;
  mapped_values_are_faithful =
      each_named variable_name (λ n v. Agreement.IsFaithful some_extensions some_functions v) tt tt;
}

principal_completes : Headline.CompletesMap some_extensions some_functions StoredChains.set_world
    StoredChains.principal_map
unfolding Exemplified.chain_opened
principal_completes = map_completes (codes "principal") refl

resource_completes : Headline.CompletesMap some_extensions some_functions StoredChains.set_world
    StoredChains.resource_named
unfolding Exemplified.chain_opened
resource_completes = map_completes (codes "resource") refl

pub completed : Headline.Premises (StoredChains.configured_with shallow) StoredChains.asked_request StoredChains.set_store
    StoredChains.one_reads (StoredChains.step_resolving deep StoredChains.principal_map ∷ []) some_functions
    StoredChains.set_world read.errors
unfolding Exemplified.chain_opened
completed = record {
  request_agrees = record {
    principal_agrees = (refl, tt);
    action_agrees = refl;
    resource_agrees = refl;
    context_agrees = refl;
  };
  context_fits = tt;
  first_store_agrees = store_completes;
  steps_agree = (principal_completes, store_completes, tt);
  conditions_fit = ((((tt, tt), tt), (tt, tt)), tt);
  functions_are_functional = functional;
  context_is_faithful = tt;
  functions_are_faithful = faithful;
  no_limit_is_recorded = tt;
}

pub two_completed : Headline.Premises (StoredChains.configured_with shallow) StoredChains.asking_twice
    StoredChains.set_store StoredChains.two_read (StoredChains.steps_by shallow deep) some_functions
    StoredChains.set_world (last deep).errors
unfolding Exemplified.chain_opened
two_completed = record {
  request_agrees = record {
    principal_agrees = (refl, tt);
    action_agrees = refl;
    resource_agrees = (refl, tt);
    context_agrees = refl;
  };
  context_fits = tt;
  first_store_agrees = store_completes;
  steps_agree = (principal_completes, store_completes, (resource_completes, store_completes, tt));
  conditions_fit = ((((tt, tt), tt), (tt, tt)), ((((tt, tt), tt), (tt, tt)), tt));
  functions_are_functional = functional;
  context_is_faithful = tt;
  functions_are_faithful = faithful;
  no_limit_is_recorded = tt;
}
