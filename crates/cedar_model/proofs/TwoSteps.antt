-- A chain of two steps, and a world that completes it.
use Rattle.std.specs.Prelude.{◌≡◌, true, [], ◌∷◌, Some, None, Ok, codes}
use Rattle.std.proofs.Common.{refl, sym, ap, ◌∙◌, subst}
use Rattle.cedar_model.specs.Terms.{Text, bool_literal, unknown, record_of, Fields, fields_of}
use Rattle.cedar_model.specs.Values.{Represented, plain_represented, one_represented_at, no_represented_at}
use Rattle.cedar_model.specs.Values.{abstract_value, expression_of}
use Rattle.cedar_model.specs.Failures.{Answer, PartialValue, answers_bool, answers, value}
use Rattle.cedar_model.specs.Policies.{skip}
use Rattle.cedar_model.specs.Settings
use Rattle.cedar_model.specs.examples.Setting as Examples
use Rattle.cedar_model.specs.Settings.{known_context, RequestPart, Setting}
use Rattle.cedar_model.specs.Agreement
use Rattle.cedar_model.specs.Chains
use Rattle.cedar_model.specs.Chains.{Mapping, Response}
use Rattle.cedar_model.specs.Headline
use Rattle.cedar_model.specs.Progress
use Rattle.cedar_model.specs.examples.Setting.{some_calls, some_functions, some_extensions}
use Rattle.cedar_model.specs.examples.Chains.{no_map, an_entity, a_number, empty_store, request_setting, open_request}
use Rattle.cedar_model.specs.examples.Chains.{two_policies}
use Rattle.cedar_model.specs.examples.Chains.{two_steps, resource_map, context_map, chain_world}
use Rattle.cedar_model.proofs.Exemplified
use Rattle.cedar_model.proofs.Configured.{configured_by}
use Rattle.cedar_model.proofs.Injections.{none_is_not_some}

abbrev pub s : Setting
s = request_setting open_request

-- ---- the responses

abbrev pub first : Response
first = record {
  mode = skip;
  request = open_request;
  rows = Exemplified.rows_to skip s 9 two_policies;
  errors = Exemplified.errors_to s 9 two_policies;
}

abbrev context_fields : Fields
context_fields = fields_of ((codes "c", unknown (codes "c") None) ∷ (codes "d", unknown (codes "d") None) ∷ [])

abbrev stepped : Response → RequestPart → Mapping → Response
stepped old r m =
    record {
      mode = skip;
      request = r;
      rows = Exemplified.rows_to skip (Chains.at_step s.extensions s.resolution r empty_store m) 9
          (Chains.all_residuals old.rows);
      errors = Exemplified.errors_to (Chains.at_step s.extensions s.resolution r empty_store m) 9
          (Chains.all_residuals old.rows);
    }

abbrev middle_request : RequestPart
middle_request =
    record {
      principal_entry = open_request.principal_entry;
      action_entry = open_request.action_entry;
      resource_entry = Settings.known_entry (Examples.user (codes "b"));
      context_part = open_request.context_part;
    }

abbrev pub middle : Response
middle = stepped first middle_request resource_map

abbrev last_request : RequestPart
last_request = Chains.with_context middle_request (known_context
    (one_represented_at (codes "c") (plain_represented (bool_literal true))
    (one_represented_at (codes "d") (a_number 10) no_represented_at)))

abbrev pub last : Response
last = stepped middle last_request context_map

pub begins : Chains.Begins (configured_by some_calls skip s 9) open_request empty_store two_policies first
unfolding Exemplified.chain_opened Exemplified.finds_none Exemplified.is_memory
begins = record {
  mode_is = refl;
  request_is = refl;
  runs = Exemplified.run_to skip (Chains.without_map s) 9 two_policies
      (refl, (refl, tt));
}

pub first_step : Chains.StepsTo (configured_by some_calls skip s 9) resource_map empty_store first middle
unfolding Exemplified.chain_opened Exemplified.finds_none Exemplified.is_memory
first_step = (
  Ok open_request.context_part,
  (
    _,
    Exemplified.runs_to s 9
        (record_of (Chains.substituted_at resource_map context_fields)) _ refl,
    refl,
  ),
  (
    middle.rows,
    middle.errors,
    Exemplified.run_to skip (Chains.at_step s.extensions s.resolution middle_request empty_store resource_map) 9
        (Chains.all_residuals first.rows) (refl, (refl, tt)),
    refl,
  ),
)

pub second_step : Chains.StepsTo (configured_by some_calls skip s 9) context_map empty_store middle last
unfolding Exemplified.chain_opened Exemplified.finds_none Exemplified.is_memory
second_step = (
  Ok last_request.context_part,
  (
    _,
    Exemplified.runs_to
        (Chains.without_map (Chains.at_step s.extensions s.resolution middle_request empty_store context_map)) 9
        (record_of (Chains.substituted_at context_map context_fields)) _ refl,
    refl,
  ),
  (
    last.rows,
    last.errors,
    Exemplified.run_to skip (Chains.at_step s.extensions s.resolution last_request empty_store context_map) 9
        (Chains.all_residuals middle.rows) (refl, (refl, tt)),
    refl,
  ),
)

abbrev pub again : Response
again = stepped last last_request no_map

pub third_step : Chains.StepsTo (configured_by some_calls skip s 9) no_map empty_store last again
unfolding Exemplified.chain_opened Exemplified.finds_none Exemplified.is_memory
third_step = (
  Ok last_request.context_part,
  refl,
  (
    again.rows,
    again.errors,
    Exemplified.run_to skip (Chains.at_step s.extensions s.resolution last_request empty_store no_map) 9
        (Chains.all_residuals last.rows) (refl, (refl, tt)),
    refl,
  ),
)

-- ---- what is named

literal_values : (n : Text) (v : Represented) → context_map n ≡ Some v
    → Agreement.IsKnown some_functions (expression_of v)
literal_values =
    Exemplified.at_each (λ n v. Agreement.IsKnown some_functions (expression_of v))
    ((codes "c", plain_represented (bool_literal true)) ∷ (codes "d", a_number 10) ∷ []) (tt, (tt, tt))

pub names_all : Progress.NamesAll some_functions context_map middle
unfolding Exemplified.chain_opened
names_all = record {
  principal_is_named = tt;
  action_is_named = tt;
  resource_is_named = tt;
  context_is_named = (refl, (refl, tt));
  rows_are_named = (tt, ((tt, (tt, (refl, (refl, tt)))), tt));
  values_are_known = literal_values;
}

-- ---- the world

pub nothing_stored : (Such : PartialValue → Type 0) → Agreement.EachStored Such empty_store
nothing_stored Such e x k p h = absurd (none_is_not_some h)

store_completes : Headline.CompletesStore s.extensions some_functions chain_world empty_store
unfolding Exemplified.chain_opened
store_completes = record {
  store_agrees = λ e. refl;
  stored_values_are_faithful = nothing_stored (Agreement.IsFaithfulPart some_extensions some_functions);
  stored_residuals_fit = nothing_stored (Agreement.FitsPart some_extensions some_functions chain_world);
}

resource_completes : Headline.CompletesMap s.extensions some_functions chain_world resource_map
unfolding Exemplified.chain_opened
resource_completes = record {
  map_agrees = Exemplified.at_each (λ n v. chain_world.sigma n ≡ abstract_value v)
      ((codes "resource", an_entity (Examples.user (codes "b"))) ∷ []) (refl, tt);
  mapped_values_are_faithful = Exemplified.at_each (λ n v. Agreement.IsFaithful some_extensions some_functions v)
      ((codes "resource", an_entity (Examples.user (codes "b"))) ∷ []) (tt, tt);
}

context_completes : Headline.CompletesMap s.extensions some_functions chain_world context_map
unfolding Exemplified.chain_opened
context_completes = record {
  map_agrees = Exemplified.at_each (λ n v. chain_world.sigma n ≡ abstract_value v)
      ((codes "c", plain_represented (bool_literal true)) ∷ (codes "d", a_number 10) ∷ []) (refl, (refl, tt));
  mapped_values_are_faithful = Exemplified.at_each (λ n v. Agreement.IsFaithful some_extensions some_functions v)
      ((codes "c", plain_represented (bool_literal true)) ∷ (codes "d", a_number 10) ∷ []) (tt, (tt, tt));
}

pub functional : Agreement.AgreesWithFunctions some_functions some_calls
unfolding Agreement.function_answer
functional f vs a h = ap Agreement.function_answer h

is_bool : (a : Answer) (v : Represented) → a ≡ answers_bool true → a ≡ answers (value v)
    → plain_represented (bool_literal true) ≡ v
is_bool a v h e = let z = sym h ∙ e in cc

pub faithful : Agreement.AnswerFaithfully some_extensions some_functions some_calls
faithful f vs v h e = subst (Agreement.IsFaithful some_extensions some_functions)
    (is_bool (answers (value v)) v e refl) tt

pub chained : Chains.ChainOf (configured_by some_calls skip s 9) first two_steps last
unfolding Exemplified.chain_opened
chained = (Ok middle, first_step, (Ok last, second_step, refl))

pub completed : Headline.Premises (configured_by some_calls skip s 9) open_request empty_store two_policies two_steps
    some_functions chain_world last.errors
unfolding Exemplified.chain_opened
completed = record {
  request_agrees = record {
    principal_agrees = refl;
    action_agrees = refl;
    resource_agrees = (refl, tt);
    context_agrees = refl;
  };
  context_fits = (tt, (tt, tt));
  first_store_agrees = store_completes;
  steps_agree = (resource_completes, store_completes, (context_completes, store_completes, tt));
  conditions_fit = ((((tt, tt), tt), ((tt, tt), (tt, tt))), ((((tt, tt), tt), (tt, (tt, tt))), tt));
  functions_are_functional = functional;
  context_is_faithful = tt;
  functions_are_faithful = faithful;
  no_limit_is_recorded = tt;
}
