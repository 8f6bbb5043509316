-- A chain where an erring forbid counts, and a world that completes it.
use Rattle.std.specs.Prelude.{◌≡◌, true, false, [], ◌∷◌, Ok, codes}
use Rattle.std.proofs.Common.{refl}
use Rattle.cedar_model.specs.Terms.{bool_literal}
use Rattle.cedar_model.specs.Values.{plain_represented, abstract_value}
use Rattle.cedar_model.specs.Policies.{forbid_on_error}
use Rattle.cedar_model.specs.Settings.{Setting}
use Rattle.cedar_model.specs.Agreement
use Rattle.cedar_model.specs.Chains
use Rattle.cedar_model.specs.Chains.{Mapping, Response}
use Rattle.cedar_model.specs.Headline
use Rattle.cedar_model.specs.examples.Setting.{some_calls, some_functions, some_extensions}
use Rattle.cedar_model.specs.examples.Chains.{no_map, empty_store, request_setting, known_request, strict_policies, x_is}
use Rattle.cedar_model.specs.examples.Chains.{strict_world, shallow_step}
use Rattle.cedar_model.proofs.Exemplified
use Rattle.cedar_model.proofs.Configured.{configured_by}
use Rattle.cedar_model.proofs.TwoSteps.{functional, faithful, nothing_stored}

abbrev pub s : Setting
s = request_setting known_request

-- ---- the responses

abbrev pub first : Response
first = record {
  mode = forbid_on_error;
  request = known_request;
  rows = Exemplified.rows_to forbid_on_error s 9 strict_policies;
  errors = Exemplified.errors_to s 9 strict_policies;
}

abbrev pub at : Mapping → Setting
at m = Chains.at_step s.extensions s.resolution known_request empty_store m

abbrev stepped : Response → Mapping → Response
stepped old m =
    record {
      mode = forbid_on_error;
      request = known_request;
      rows = Exemplified.rows_to forbid_on_error (at m) 9 (Chains.all_residuals old.rows);
      errors = Exemplified.errors_to (at m) 9 (Chains.all_residuals old.rows);
    }

abbrev pub allowed : Response
allowed = stepped first (x_is false)

abbrev pub denied : Response
denied = stepped first (x_is true)

abbrev pub again : Response
again = stepped denied no_map

pub begins : Chains.Begins (configured_by some_calls forbid_on_error s 9) known_request empty_store strict_policies first
unfolding Exemplified.chain_opened Exemplified.finds_none Exemplified.is_memory
begins = record {
  mode_is = refl;
  request_is = refl;
  runs = Exemplified.run_to forbid_on_error (Chains.without_map s) 9 strict_policies (refl, (refl, tt));
}

pub is_allowed : Chains.StepsTo (configured_by some_calls forbid_on_error s 9) (x_is false) empty_store first allowed
unfolding Exemplified.chain_opened Exemplified.finds_none Exemplified.is_memory
is_allowed = (
  Ok known_request.context_part,
  refl,
  (
    allowed.rows,
    allowed.errors,
    Exemplified.run_to forbid_on_error (at (x_is false)) 9 (Chains.all_residuals first.rows) (refl, (refl, tt)),
    refl,
  ),
)

pub is_denied : Chains.StepsTo (configured_by some_calls forbid_on_error s 9) (x_is true) empty_store first denied
unfolding Exemplified.chain_opened Exemplified.finds_none Exemplified.is_memory
is_denied = (
  Ok known_request.context_part,
  refl,
  (
    denied.rows,
    denied.errors,
    Exemplified.run_to forbid_on_error (at (x_is true)) 9 (Chains.all_residuals first.rows) (refl, (refl, tt)),
    refl,
  ),
)

pub is_kept : Chains.StepsTo (configured_by some_calls forbid_on_error s 9) no_map empty_store denied again
unfolding Exemplified.chain_opened Exemplified.finds_none Exemplified.is_memory
is_kept = (
  Ok known_request.context_part,
  refl,
  (
    again.rows,
    again.errors,
    Exemplified.run_to forbid_on_error (at no_map) 9 (Chains.all_residuals denied.rows) (refl, (refl, tt)),
    refl,
  ),
)

pub chained : Chains.ChainOf (configured_by some_calls forbid_on_error s 9) first (shallow_step (x_is true) ∷ []) denied
unfolding Exemplified.chain_opened
chained = (Ok denied, is_denied, refl)

-- ---- the world

store_completes : Headline.CompletesStore s.extensions some_functions strict_world empty_store
unfolding Exemplified.chain_opened
store_completes = record {
  store_agrees = λ e. refl;
  stored_values_are_faithful = nothing_stored (Agreement.IsFaithfulPart some_extensions some_functions);
  stored_residuals_fit = nothing_stored (Agreement.FitsPart some_extensions some_functions strict_world);
}

map_completes : Headline.CompletesMap s.extensions some_functions strict_world (x_is true)
unfolding Exemplified.chain_opened
map_completes = record {
  map_agrees = Exemplified.at_each (λ n v. strict_world.sigma n ≡ abstract_value v)
      ((codes "x", plain_represented (bool_literal true)) ∷ []) (refl, tt);
  mapped_values_are_faithful = Exemplified.at_each (λ n v. Agreement.IsFaithful some_extensions some_functions v)
      ((codes "x", plain_represented (bool_literal true)) ∷ []) (tt, tt);
}

pub completed : Headline.Premises (configured_by some_calls forbid_on_error s 9) known_request empty_store strict_policies
    (shallow_step (x_is true) ∷ []) some_functions strict_world denied.errors
unfolding Exemplified.chain_opened
completed = record {
  request_agrees = record {
    principal_agrees = refl;
    action_agrees = refl;
    resource_agrees = refl;
    context_agrees = refl;
  };
  context_fits = tt;
  first_store_agrees = store_completes;
  steps_agree = (map_completes, store_completes, tt);
  conditions_fit = ((((tt, tt), tt), tt), ((((tt, tt), tt), (tt, (tt, tt))), tt));
  functions_are_functional = functional;
  context_is_faithful = tt;
  functions_are_faithful = faithful;
  no_limit_is_recorded = (λ e. cc, tt);
}
