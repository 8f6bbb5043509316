-- Chains over a store that grows, and a world that completes them.
use Rattle.std.specs.Prelude.{◌≡◌, Bool, true, false, cond, List, [], ◌∷◌, Option, Some, None, Ok}
use Rattle.std.proofs.Common.{refl, sym, ap, ◌∙◌, subst}
use Rattle.cedar_model.specs.Terms.{EntityName, entity_literal}
use Rattle.cedar_model.specs.Values.{plain, abstract_value}
use Rattle.cedar_model.specs.Outcomes.{entity_eq}
use Rattle.cedar_model.specs.World.{World, WorldEntity}
use Rattle.cedar_model.specs.Failures.{PartialValue}
use Rattle.cedar_model.specs.Policies.{skip}
use Rattle.cedar_model.specs.Settings.{StoredEntity, Store, Setting, shallow, found, found_in, printed_entity, part_at}
use Rattle.cedar_model.specs.Agreement
use Rattle.cedar_model.specs.examples.Instances.{value_of_unknown}
use Rattle.cedar_model.specs.Chains
use Rattle.cedar_model.specs.Chains.{Mapping, Response}
use Rattle.cedar_model.specs.Headline
use Rattle.cedar_model.specs.examples.Setting.{some_functions, some_extensions}
use Rattle.cedar_model.specs.examples.Chains.{an_entity, empty_context}
use Rattle.cedar_model.proofs.Exemplified
use Rattle.cedar_model.proofs.Printed.{come_back}
use Rattle.cedar_model.proofs.TwoSteps.{functional, faithful}
use Rattle.cedar_model.proofs.Injections.{some_inj, none_is_not_some, true_is_not_false}
use Rattle.cedar_partial_stores.specs.PartialStores

-- ---- the responses

abbrev over : Store → Mapping → Setting
over store m = Chains.at_step some_extensions shallow PartialStores.asked store m

abbrev begun : Store → Response
begun store = record {
  mode = skip;
  request = PartialStores.asked;
  rows = Exemplified.rows_to skip (over store Chains.no_values) 9 PartialStores.for_members;
  errors = Exemplified.errors_to (over store Chains.no_values) 9 PartialStores.for_members;
}

abbrev pub first : Response
first = begun PartialStores.partial_store

abbrev pub orphaned : Response
orphaned = begun PartialStores.orphan_store

abbrev pub last : Response
last = record {
  mode = skip;
  request = PartialStores.asked;
  rows = Exemplified.rows_to skip (over PartialStores.whole_store PartialStores.alice_is_herself) 9
      (Chains.all_residuals first.rows);
  errors = Exemplified.errors_to (over PartialStores.whole_store PartialStores.alice_is_herself) 9
      (Chains.all_residuals first.rows);
}

pub begins : Chains.Begins PartialStores.configuration PartialStores.asked PartialStores.partial_store
    PartialStores.for_members first
unfolding Exemplified.chain_opened Exemplified.finds_none Exemplified.is_memory
begins = record {
  mode_is = refl;
  request_is = refl;
  runs = Exemplified.run_to skip (over PartialStores.partial_store Chains.no_values) 9 PartialStores.for_members
      (refl, (refl, tt));
}

pub orphan_begins : Chains.Begins PartialStores.configuration PartialStores.asked PartialStores.orphan_store
    PartialStores.for_members orphaned
unfolding Exemplified.chain_opened Exemplified.finds_none Exemplified.is_memory
orphan_begins = record {
  mode_is = refl;
  request_is = refl;
  runs = Exemplified.run_to skip (over PartialStores.orphan_store Chains.no_values) 9 PartialStores.for_members
      (refl, (refl, tt));
}

to_the_last : Chains.StepsTo PartialStores.configuration PartialStores.alice_is_herself PartialStores.whole_store first
    last
unfolding Exemplified.chain_opened Exemplified.finds_none Exemplified.is_memory
to_the_last = (
  Ok empty_context,
  refl,
  (
    last.rows,
    last.errors,
    Exemplified.run_to skip (over PartialStores.whole_store PartialStores.alice_is_herself) 9
        (Chains.all_residuals first.rows) (refl, (refl, tt)),
    refl,
  ),
)

pub chained : Chains.ChainOf PartialStores.configuration first (PartialStores.to_the_whole ∷ []) last
unfolding Exemplified.chain_opened
chained = (Ok last, to_the_last, refl)

-- ---- the world agrees with both stores

facts_agree : (es : List EntityName) → Agreement.AgreesWithFacts some_extensions some_functions
    PartialStores.members_world (PartialStores.recorded_in es) (PartialStores.known_in es)
unfolding Exemplified.chain_opened
facts_agree es = record { ancestors_agree = λ e. refl; attributes_agree = λ k. tt; tags_agree = λ k. tt }

-- the unknown of each entity is that entity
stands_for_itself : (e : EntityName) → PartialStores.members_world.sigma (printed_entity e) ≡ plain (entity_literal e)
unfolding value_of_unknown
stands_for_itself e = ap (λ (o : Option EntityName). value_of_unknown o (printed_entity e)) (come_back e)

whole_by : (e : EntityName) (a b c : Bool)
    → Agreement.AgreesWithFound some_extensions some_functions PartialStores.members_world e
    (found_in (cond a (Some (PartialStores.recorded_in [])) (cond b (Some (PartialStores.recorded_in
    (PartialStores.organization ∷ []))) (cond c (Some (PartialStores.recorded_in (PartialStores.team ∷
    PartialStores.organization ∷ []))) None))) false)
    (cond a (Some (PartialStores.known_in [])) (cond b (Some (PartialStores.known_in (PartialStores.organization ∷ [])))
    (cond c (Some (PartialStores.known_in (PartialStores.team ∷ PartialStores.organization ∷ []))) None)))
unfolding found_in
whole_by e true b c = facts_agree []
whole_by e false true c = facts_agree (PartialStores.organization ∷ [])
whole_by e false false true = facts_agree (PartialStores.team ∷ PartialStores.organization ∷ [])
whole_by e false false false = refl

partial_by : (e : EntityName) (o : Option WorldEntity) (a : Bool)
    → Agreement.AgreesWithFound some_extensions some_functions PartialStores.members_world e
    (found_in (cond a (Some (PartialStores.recorded_in [])) None) true) (cond a (Some (PartialStores.known_in [])) o)
unfolding found_in
partial_by e o true = facts_agree []
partial_by e o false = stands_for_itself e

-- nothing is stored but ancestors
none_stored : (Such : PartialValue → Type 0) (s : Store) → ((e : EntityName) (x : StoredEntity) → s.entity e ≡ Some x
    → (x.attributes ≡ []) × (x.tags ≡ [])) → Agreement.EachStored Such s
unfolding part_at
none_stored Such s bare e x k p f =
    let none : (x.attributes ≡ []) × (x.tags ≡ []) = bare e x f in
    (λ h. absurd (none_is_not_some (sym (ap (part_at k) none.0) ∙ h)), λ h. absurd (none_is_not_some (sym (ap (part_at k) none.1) ∙ h)))

abbrev IsBare : StoredEntity → Type 0
IsBare x = (x.attributes ≡ []) × (x.tags ≡ [])

bare_or : (x : StoredEntity) (es : List EntityName) (o : Option StoredEntity) (a : Bool) → (o ≡ Some x → IsBare x)
    → cond a (Some (PartialStores.recorded_in es)) o ≡ Some x → IsBare x
bare_or x es o true later h = subst IsBare (some_inj h) (refl, refl)
bare_or x es o false later h = later h

partial_bare : (e : EntityName) (x : StoredEntity) → PartialStores.partial_store.entity e ≡ Some x → IsBare x
partial_bare e x = bare_or x [] None (entity_eq e PartialStores.organization) (λ h. absurd (none_is_not_some h))

whole_bare : (e : EntityName) (x : StoredEntity) → PartialStores.whole_store.entity e ≡ Some x → IsBare x
whole_bare e x =
    bare_or x [] _ (entity_eq e PartialStores.organization)
    (bare_or x (PartialStores.organization ∷ []) _ (entity_eq e PartialStores.team)
    (bare_or x (PartialStores.team ∷ PartialStores.organization ∷ []) None (entity_eq e PartialStores.alice)
    (λ h. absurd (none_is_not_some h))))

partial_completes : Headline.CompletesStore some_extensions some_functions PartialStores.members_world
    PartialStores.partial_store
partial_completes = record {
  store_agrees = λ e. partial_by e _ (entity_eq e PartialStores.organization);
  stored_values_are_faithful =
      none_stored (Agreement.IsFaithfulPart some_extensions some_functions) PartialStores.partial_store partial_bare;
  stored_residuals_fit =
      none_stored (Agreement.FitsPart some_extensions some_functions PartialStores.members_world)
      PartialStores.partial_store partial_bare;
}

whole_completes : Headline.CompletesStore some_extensions some_functions PartialStores.members_world
    PartialStores.whole_store
whole_completes = record {
  store_agrees = λ e. whole_by e (entity_eq e PartialStores.organization) (entity_eq e PartialStores.team)
      (entity_eq e PartialStores.alice);
  stored_values_are_faithful =
      none_stored (Agreement.IsFaithfulPart some_extensions some_functions) PartialStores.whole_store whole_bare;
  stored_residuals_fit =
      none_stored (Agreement.FitsPart some_extensions some_functions PartialStores.members_world)
      PartialStores.whole_store whole_bare;
}

map_completes : Headline.CompletesMap some_extensions some_functions PartialStores.members_world
    PartialStores.alice_is_herself
map_completes = record {
  map_agrees = Exemplified.at_each (λ n v. PartialStores.members_world.sigma n ≡ abstract_value v)
      ((printed_entity PartialStores.alice, an_entity PartialStores.alice) ∷ [])
      (stands_for_itself PartialStores.alice, tt);
  mapped_values_are_faithful = Exemplified.at_each
      (λ n v. Agreement.IsFaithful some_extensions some_functions v)
      ((printed_entity PartialStores.alice, an_entity PartialStores.alice) ∷ []) (tt, tt);
}

-- ---- the premises

pub partial_completed : Headline.Premises PartialStores.configuration PartialStores.asked PartialStores.partial_store
    PartialStores.for_members [] some_functions PartialStores.members_world first.errors
unfolding Exemplified.chain_opened
partial_completed = record {
  request_agrees = record {
    principal_agrees = refl;
    action_agrees = refl;
    resource_agrees = refl;
    context_agrees = refl;
  };
  context_fits = tt;
  first_store_agrees = partial_completes;
  steps_agree = tt;
  conditions_fit = ((((tt, tt), tt), tt), ((((tt, tt), tt), (tt, tt)), tt));
  functions_are_functional = functional;
  context_is_faithful = tt;
  functions_are_faithful = faithful;
  no_limit_is_recorded = tt;
}

pub larger_completed : Headline.Premises PartialStores.configuration PartialStores.asked PartialStores.partial_store
    PartialStores.for_members (PartialStores.to_the_whole ∷ []) some_functions PartialStores.members_world last.errors
unfolding Exemplified.chain_opened
larger_completed = record {
  request_agrees = record {
    principal_agrees = refl;
    action_agrees = refl;
    resource_agrees = refl;
    context_agrees = refl;
  };
  context_fits = tt;
  first_store_agrees = partial_completes;
  steps_agree = (map_completes, whole_completes, tt);
  conditions_fit = ((((tt, tt), tt), tt), ((((tt, tt), tt), (tt, tt)), tt));
  functions_are_functional = functional;
  context_is_faithful = tt;
  functions_are_faithful = faithful;
  no_limit_is_recorded = tt;
}

-- ---- no world agrees with the whole store and with one in which Alice has her team alone

told_apart : (w : World) (o : Option WorldEntity)
    → Agreement.AgreesWithFound some_extensions some_functions w PartialStores.alice
    (found (PartialStores.recorded_in (PartialStores.team ∷ []))) o
    → ¬ Agreement.AgreesWithFound some_extensions some_functions w PartialStores.alice
    (found (PartialStores.recorded_in (PartialStores.team ∷ PartialStores.organization ∷ []))) o
unfolding Exemplified.chain_opened
told_apart w None h = λ k. h
told_apart w (Some y) h = λ k.
    true_is_not_false (k.ancestors_agree PartialStores.organization) (h.ancestors_agree PartialStores.organization)

pub refuted : (w : World) → Agreement.AgreesWithStore some_extensions some_functions w PartialStores.orphan_store
    → ¬ Agreement.AgreesWithStore some_extensions some_functions w PartialStores.whole_store
unfolding Exemplified.chain_opened
refuted w h = λ k. told_apart w (w.store PartialStores.alice) (h PartialStores.alice) (k PartialStores.alice)
