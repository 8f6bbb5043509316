-- Worked examples: what responses say, which steps are refused, and chains.
use Rattle.std.specs.Prelude.{◌≡◌, ℕ, pos, Bool, true, false, List, [], ◌∷◌, map, Some, None, Ok, Err, unwrap_or, codes}
use Rattle.cedar_model.specs.Terms.{Text, EntityName, entity_literal, long_literal, bool_literal, principal, resource}
use Rattle.cedar_model.specs.Terms.{context, eq_operator, add_operator, Term, variable, unknown, both, binary, call, get_attribute}
use Rattle.cedar_model.specs.Terms.{terms_of, fields_of}
use Rattle.cedar_model.specs.Values.{plain, no_values_at, one_value_at, Represented, plain_represented}
use Rattle.cedar_model.specs.Values.{record_represented, no_represented_at, one_represented_at}
use Rattle.cedar_model.specs.World.{World}
use Rattle.cedar_model.specs.Failures.{Failure, function_is_missing, residual_is_left, recursion_limit, value}
use Rattle.cedar_model.specs.Settings.{Entry, known_entry, unknown_entry, ContextPart, absent_context, known_context}
use Rattle.cedar_model.specs.Settings.{residual_context, RequestPart, Store, shallow, Setting, part_at}
use Rattle.cedar_model.specs.Agreement.{no_slots}
use Rattle.cedar_model.specs.Policies.{Effect, permit, forbid, Policy, allow, deny, decision, reasons, judge_each, counted_each}
use Rattle.cedar_model.specs.Policies.{ErrorHandling, skip, forbid_on_error}
use Rattle.cedar_model.specs.Responses.{RunOf, Reported, reported_true, reported_false, reported_residual, Row, truth}
use Rattle.cedar_model.specs.Responses.{carried}
use Rattle.cedar_model.specs.Refusals.{mode_is_other, id_comes_again, value_is_wrong, is_there_already, type_is_other}
use Rattle.cedar_model.specs.Refusals.{context_fails}
use Rattle.cedar_model.specs.Refusals.{concrete_request}
use Rattle.cedar_model.specs.Configurations.{Configuration, configured}
use Rattle.cedar_model.specs.Chains.{Mapping, Response, Steps, StepsTo, Begins, ChainStep, ChainAnswers, ChainOf}
use Rattle.cedar_model.specs.Chains.{all_residuals}
use Rattle.cedar_model.specs.Reports.{ids, given_decision, must_determine, may_determine, concrete_decision}
use Rattle.cedar_model.specs.Reports.{concrete_reasons}
use Rattle.cedar_model.specs.Reports.{concrete_errors, definitely_satisfied, definitely_errored}
use Rattle.cedar_model.specs.Reports.{nontrivial_residual_ids, nontrivial_forbids, get, HaveNoResidual}
use Rattle.cedar_model.specs.Headline.{Premises}
use Rattle.cedar_model.specs.Progress.{NamesAll}
use Rattle.cedar_model.specs.examples.Setting.{entity_of_type, user, long, text, entity, bool, x, some_calls, some_functions}
use Rattle.cedar_model.specs.examples.Setting.{some_extensions}

-- ---- what responses say

-- the annotation `note`, whose text is the policy's id
abbrev pub noted : Text → List (Text × Text)
noted id = (codes "note", id) ∷ []

abbrev pub row : Text → Effect → Reported → Row
row id effect o = record { id = id; effect = effect; annotations = noted id; reported = o }

-- permits a true, b erring, c false, d residual; forbids e true, f erring, g false, h residual, not in this order
abbrev pub eight_rows : List Row
eight_rows =
    row (codes "h") forbid (reported_residual (long 2)) ∷ row (codes "c") permit (reported_false false) ∷
    row (codes "g") forbid (reported_false false) ∷ row (codes "d") permit (reported_residual (long 1)) ∷
    row (codes "b") permit (reported_false true) ∷ row (codes "a") permit reported_true ∷
    row (codes "e") forbid reported_true ∷ row (codes "f") forbid (reported_false true) ∷ []

-- with a true forbid the decision is Deny; true and residual forbids may determine it, the true ones must
abbrev pub ForbidDecides : Type 0
ForbidDecides =
    (given_decision eight_rows ≡ Some deny) × (ids (must_determine eight_rows) ≡ codes "e" ∷ [])
    × (ids (may_determine eight_rows) ≡ codes "e" ∷ codes "h" ∷ [])

-- true, false, residual permits, then the same of forbids are carried on, all of them
abbrev pub AllAreCarried : Type 0
AllAreCarried =
    map (λ p. p.id) (all_residuals eight_rows) ≡ codes "a" ∷ codes "c" ∷ codes "b" ∷ codes "d" ∷ codes "e" ∷
    codes "g" ∷ codes "f" ∷ codes "h" ∷ []

-- a row is carried on as a policy with its annotations and true scope constraints: a true one when true, a false one
-- when false, a residual one when its residual
abbrev pub clause_policy : Text → Effect → Term → Policy
clause_policy id effect t =
    record {
      id = id;
      effect = effect;
      annotations = noted id;
      condition = both (both (both truth truth) truth) t;
      slots = no_slots;
    }

abbrev pub CarriedByReport : Type 0
CarriedByReport =
    (carried (row (codes "a") permit reported_true) ≡ clause_policy (codes "a") permit (bool true))
    × (carried (row (codes "f") forbid (reported_false true)) ≡ clause_policy (codes "f") forbid (bool false))
    × (carried (row (codes "d") permit (reported_residual x)) ≡ clause_policy (codes "d") permit x)

-- errors are of residual forbids, then of residual permits, then those recorded
abbrev pub ForbidErrorsFirst : Type 0
ForbidErrorsFirst =
    concrete_errors eight_rows ((codes "b", recursion_limit) ∷ [])
    ≡ (codes "h", residual_is_left (long 2)) ∷ (codes "d", residual_is_left (long 1)) ∷
    (codes "b", recursion_limit) ∷ []

-- the other readers
abbrev pub OtherReaders : Type 0
OtherReaders =
    (map (λ p. p.id) (definitely_satisfied eight_rows) ≡ codes "a" ∷ codes "e" ∷ [])
    × (definitely_errored eight_rows ≡ codes "b" ∷ codes "f" ∷ [])
    × (nontrivial_residual_ids eight_rows ≡ codes "d" ∷ codes "h" ∷ [])
    × (map (λ p. p.id) (nontrivial_forbids eight_rows) ≡ codes "h" ∷ [])
    × (get (codes "d") eight_rows ≡ Some (clause_policy (codes "d") permit (long 1)))
    × (get (codes "i") eight_rows ≡ None)

-- of one id in two rows, `get` finds the permit, though the forbid decides
abbrev pub GetFindsThePermit : Type 0
GetFindsThePermit =
    let rows = row (codes "a") forbid reported_true ∷ row (codes "a") permit reported_true ∷ [] in
    (given_decision rows ≡ Some deny) × (get (codes "a") rows ≡ Some (clause_policy (codes "a") permit (bool true)))

-- a true permit beside a residual forbid: no decision is given, nothing must determine it, both may; made concrete,
-- Allow without reasons, or, where erring forbids count, Deny for the forbid
abbrev pub ResidualForbidHolds : Type 0
ResidualForbidHolds =
    let rows = row (codes "0") permit reported_true ∷ row (codes "1") forbid (reported_residual x) ∷ [] in
    (given_decision rows ≡ None) × (must_determine rows ≡ []) × (ids (may_determine rows) ≡ codes "0" ∷ codes "1" ∷ [])
    × (concrete_decision skip rows ≡ allow) × (concrete_reasons skip rows ≡ [])
    × (concrete_decision forbid_on_error rows ≡ deny) × (ids (concrete_reasons forbid_on_error rows) ≡ codes "1" ∷ [])

-- a residual permit may determine the decision
abbrev pub ResidualPermitMay : Type 0
ResidualPermitMay =
    let rows = row (codes "1") permit (reported_residual x) ∷ row (codes "0") permit reported_true ∷ [] in
    (given_decision rows ≡ Some allow) × (ids (must_determine rows) ≡ codes "0" ∷ [])
    × (ids (may_determine rows) ≡ codes "0" ∷ codes "1" ∷ [])

-- beside a residual forbid, where no permit is true or residual, Deny is given; made concrete where erring forbids count,
-- for that forbid, whose residual is left
abbrev pub EarlyDeny : Type 0
EarlyDeny =
    let rows = row (codes "1") permit (reported_false false) ∷ row (codes "2") forbid (reported_residual x) ∷ [] in
    (given_decision rows ≡ Some deny) × (concrete_decision forbid_on_error rows ≡ deny)
    × (ids (concrete_reasons forbid_on_error rows) ≡ codes "2" ∷ [])
    × (concrete_errors rows [] ≡ (codes "2", residual_is_left x) ∷ [])

-- ---- the request that a map makes

abbrev pub map_of : List (Text × Represented) → Mapping
map_of ps n = part_at n ps

abbrev pub an_entity : EntityName → Represented
an_entity e = plain_represented (entity_literal e)

abbrev pub a_number : ℕ → Represented
a_number n = plain_represented (long_literal (pos n))

abbrev pub group : EntityName
group = entity_of_type (codes "Group") (codes "g")

abbrev pub requested : Entry → Entry → ContextPart → RequestPart
requested p e c =
    record {
      principal_entry = p;
      action_entry = known_entry (user (codes "act"));
      resource_entry = e;
      context_part = c;
    }

abbrev pub empty_context : ContextPart
empty_context = known_context no_represented_at

-- a known entry is refused, also beside the same entity
abbrev pub KnownEntryIsRefused : Type 0
KnownEntryIsRefused =
    concrete_request (map_of ((codes "principal", an_entity (user (codes "a"))) ∷ []))
    (requested (known_entry (user (codes "a"))) (unknown_entry None) empty_context)
    ≡ Err (is_there_already (codes "principal") (value (an_entity (user (codes "a"))))
    (an_entity (user (codes "a"))))

-- but first a value that is no entity
abbrev pub NoEntityIsRefused : Type 0
NoEntityIsRefused =
    concrete_request (map_of ((codes "principal", a_number 3) ∷ []))
    (requested (known_entry (user (codes "a"))) (unknown_entry None) empty_context)
    ≡ Err (value_is_wrong (codes "principal") (codes "entity") (a_number 3))

-- another type than annotated is refused, before the resource is looked at
abbrev pub OtherTypeIsRefused : Type 0
OtherTypeIsRefused =
    concrete_request (map_of ((codes "resource", a_number 3) ∷ (codes "principal", an_entity group) ∷ []))
    (requested (unknown_entry (Some (codes "User"))) (unknown_entry None) empty_context)
    ≡ Err (type_is_other (codes "principal") (codes "User") (an_entity group))

-- an unknown entry becomes known, an absent context too, and what isn't mapped stays
abbrev pub UnknownBecomesKnown : Type 0
UnknownBecomesKnown =
    concrete_request (map_of ((codes "principal", an_entity (user (codes "a"))) ∷
    (codes "context", record_represented no_represented_at) ∷ []))
    (requested (unknown_entry (Some (codes "User"))) (unknown_entry None) absent_context)
    ≡ Ok (requested (known_entry (user (codes "a"))) (unknown_entry None) empty_context)

-- a context is a record, and stands beside no other
abbrev pub ContextIsARecord : Type 0
ContextIsARecord =
    concrete_request (map_of ((codes "context", a_number 1) ∷ []))
    (requested (unknown_entry None) (unknown_entry None) empty_context)
    ≡ Err (value_is_wrong (codes "context") (codes "record") (a_number 1))

abbrev pub ContextBesideIsRefused : Type 0
ContextBesideIsRefused =
    concrete_request (map_of ((codes "context", record_represented no_represented_at) ∷ []))
    (requested (unknown_entry None) (unknown_entry None) empty_context)
    ≡ Err (is_there_already (codes "context") (value (record_represented no_represented_at))
    (record_represented no_represented_at))

-- ---- steps that are refused

abbrev pub empty_store : Store
empty_store = record { entity = λ e. None; is_partial = false }

abbrev pub no_map : Mapping
no_map n = None

abbrev pub request_setting : RequestPart → Setting
request_setting r =
    record {
      request = r;
      store = empty_store;
      map = no_map;
      slots = no_slots;
      extensions = some_extensions;
      resolution = shallow;
    }

abbrev pub configured_in : ErrorHandling → ℕ → Configuration
configured_in mode levels = configured some_calls mode shallow some_extensions levels

abbrev pub response_to : RequestPart → List Row → Response
response_to r rows = record { mode = skip; request = r; rows = rows; errors = [] }

abbrev pub known_request : RequestPart
known_request = requested (known_entry (user (codes "a"))) (known_entry (user (codes "r"))) empty_context

-- a duplicate id is refused before the map is looked at
abbrev pub RepeatedIdIsRefused : Type 0
RepeatedIdIsRefused =
    Steps (configured_in skip 9) (map_of ((codes "principal", a_number 3) ∷ [])) empty_store
    (response_to known_request (row (codes "a") permit reported_true ∷ row (codes "a") forbid reported_true ∷ []))
    (Err (id_comes_again (codes "a")))

-- a step in another mode is refused before that, either way
abbrev pub in_mode : ErrorHandling → Response
in_mode mode = record {
  mode = mode;
  request = known_request;
  rows = row (codes "a") permit reported_true ∷ row (codes "a") forbid reported_true ∷ [];
  errors = [];
}

abbrev pub OtherModeIsRefused : Type 0
OtherModeIsRefused =
    Steps (configured_in forbid_on_error 9) (map_of ((codes "principal", a_number 3) ∷ []))
    empty_store (in_mode skip) (Err (mode_is_other skip forbid_on_error))
    × Steps (configured_in skip 9) (map_of ((codes "principal", a_number 3) ∷ [])) empty_store
    (in_mode forbid_on_error) (Err (mode_is_other forbid_on_error skip))

-- a context that errs with the map's values in it is refused, here a call of no function
abbrev pub with_call : RequestPart
with_call =
    requested (known_entry (user (codes "a"))) (known_entry (user (codes "r")))
    (residual_context (fields_of ((codes "n", call (codes "nosuch") (terms_of (x ∷ []))) ∷ [])))

abbrev pub ContextErrorIsRefused : Type 0
ContextErrorIsRefused =
    Steps (configured_in skip 9) (map_of ((codes "x", a_number 4) ∷ [])) empty_store
    (response_to with_call []) (Err (context_fails (function_is_missing (codes "nosuch"))))

-- and so is one that meets the recursion limit
abbrev pub ContextLimitIsRefused : Type 0
ContextLimitIsRefused =
    Steps (configured_in skip 2) (map_of ((codes "x", a_number 4) ∷ [])) empty_store
    (response_to with_call []) (Err (context_fails recursion_limit))

-- a context is read under the request of the response before, not of the chain
abbrev pub with_principal : RequestPart
with_principal =
    requested (known_entry (user (codes "a"))) (known_entry (user (codes "r")))
    (residual_context (fields_of ((codes "p", variable principal) ∷ [])))

abbrev pub ContextIsReadUnderTheOldRequest : Type 0
ContextIsReadUnderTheOldRequest =
    StepsTo (configured_in skip 9) no_map empty_store
    (response_to with_principal []) (response_to
    (requested (known_entry (user (codes "a"))) (known_entry (user (codes "r")))
    (known_context (one_represented_at (codes "p") (an_entity (user (codes "a"))) no_represented_at))) [])

-- ---- a chain of two steps

abbrev pub policy : Text → Effect → Term → Policy
policy = clause_policy

abbrev pub context_attribute : Text → Term
context_attribute k = get_attribute (variable context) k

-- 0: permit when principal is a and resource is b; 1: forbid when context.c and context.d is 10
abbrev pub two_policies : List Policy
two_policies =
    policy (codes "0") permit (both (binary eq_operator (variable principal) (entity (user (codes "a"))))
    (binary eq_operator (variable resource) (entity (user (codes "b"))))) ∷
    policy (codes "1") forbid (both (context_attribute (codes "c"))
    (binary eq_operator (context_attribute (codes "d")) (long 10))) ∷ []

-- principal a, an unknown resource, and a context of two unknowns
abbrev pub open_request : RequestPart
open_request =
    requested (known_entry (user (codes "a"))) (unknown_entry None)
    (residual_context (fields_of ((codes "c", unknown (codes "c") None) ∷ (codes "d", unknown (codes "d") None) ∷
    [])))

abbrev pub resource_map : Mapping
resource_map = map_of ((codes "resource", an_entity (user (codes "b"))) ∷ [])

abbrev pub context_map : Mapping
context_map =
    map_of ((codes "c", plain_represented (bool_literal true)) ∷ (codes "d", a_number 10) ∷ [])

-- a step by this map over the empty store
abbrev pub shallow_step : Mapping → ChainStep
shallow_step m = record { mapping = m; store = empty_store; resolution = shallow }

abbrev pub two_steps : List ChainStep
two_steps = shallow_step resource_map ∷ shallow_step context_map ∷ []

-- first both are residual; the resource makes the permit true, which decides nothing beside the forbid; then the
-- context, whose map names all that is unknown, makes the forbid true: no residual is left, and the decision is Deny
-- for the forbid. A further step without a map keeps it. The annotations stay
abbrev pub TwoSteps : Type 0
TwoSteps =
    (first : Response) × (middle : Response) × (last : Response) × (again : Response)
    × Begins (configured_in skip 9) open_request empty_store two_policies first
    × StepsTo (configured_in skip 9) resource_map empty_store first middle
    × StepsTo (configured_in skip 9) context_map empty_store middle last
    × StepsTo (configured_in skip 9) no_map empty_store last again
    × (ids (may_determine first.rows) ≡ codes "0" ∷ codes "1" ∷ []) × (given_decision middle.rows ≡ None)
    × (must_determine middle.rows ≡ []) × NamesAll some_functions context_map middle × HaveNoResidual last.rows
    × (given_decision last.rows ≡ Some deny) × (ids (must_determine last.rows) ≡ codes "1" ∷ [])
    × (given_decision again.rows ≡ Some deny)
    × (map (λ r. r.annotations) again.rows ≡ noted (codes "0") ∷ noted (codes "1") ∷ [])

-- a world in which the resource is b, c is true and d is 10
abbrev pub chain_world : World
chain_world = record {
  principal_entity = user (codes "a");
  action_entity = user (codes "act");
  resource_entity = user (codes "b");
  context_record = one_value_at (codes "c") (plain (bool_literal true))
      (one_value_at (codes "d") (plain (long_literal (pos 10))) no_values_at);
  store = λ e. None;
  sigma = λ n. unwrap_or (part_at n ((codes "c", plain (bool_literal true)) ∷
      (codes "d", plain (long_literal (pos 10))) ∷ [])) (plain (entity_literal (user (codes "b"))));
}

-- it completes the chain: the premises of the headline can be met; and there the policies decide as the chain says
abbrev pub TwoStepsAreCompleted : Type 0
TwoStepsAreCompleted =
    (first : Response) × (last : Response) × Begins (configured_in skip 9) open_request empty_store two_policies first
    × ChainOf (configured_in skip 9) first two_steps last
    × Premises (configured_in skip 9) open_request empty_store two_policies two_steps some_functions chain_world
    last.errors
    × (given_decision last.rows ≡ Some deny)
    × (decision (judge_each some_extensions some_functions chain_world two_policies) ≡ deny)
    × (reasons (judge_each some_extensions some_functions chain_world two_policies) ≡ codes "1" ∷ [])

-- ---- a chain that ends at the recursion limit

-- with no level a permit of all errs, and a step that would be refused isn't taken
abbrev pub limited : Response
limited = record {
  mode = skip;
  request = known_request;
  rows = row (codes "1") permit (reported_false true) ∷ [];
  errors = (codes "1", recursion_limit) ∷ [];
}

abbrev pub EndsAtTheLimit : Type 0
EndsAtTheLimit =
    Begins (configured_in skip 0) known_request empty_store (policy (codes "1") permit truth ∷ []) limited
    × ChainAnswers (configured_in skip 0) limited
    (shallow_step (map_of ((codes "principal", a_number 3) ∷ [])) ∷ []) (Ok limited)

-- where a response holds no limit, the refusal of a step is the chain's
abbrev pub RefusalEndsAChain : Type 0
RefusalEndsAChain =
    ChainAnswers (configured_in skip 9) (response_to known_request [])
    (shallow_step (map_of ((codes "principal", a_number 3) ∷ [])) ∷ shallow_step no_map ∷ [])
    (Err (value_is_wrong (codes "principal") (codes "entity") (a_number 3)))

-- ---- erring forbids

-- a permit of all, and a permit and a forbid that err
abbrev pub erring_policies : List Policy
erring_policies =
    policy (codes "1") permit truth ∷
    policy (codes "2") permit (binary eq_operator (context_attribute (codes "bad")) (long 2)) ∷
    policy (codes "3") forbid (binary eq_operator (context_attribute (codes "bad")) (long 2)) ∷ []

-- rows of them, by what is reported of the forbid
abbrev pub erring_rows : Reported → List Row
erring_rows o =
    row (codes "1") permit reported_true ∷ row (codes "2") permit (reported_false true) ∷ row (codes "3") forbid o ∷ []

-- skipped, the forbid is reported false, and the decision is Allow; where it counts, it is reported true, and the
-- decision is Deny for it. The errors are recorded either way, and a permit that errs permits in neither
abbrev pub ErringForbid : Type 0
ErringForbid =
    (error : Failure) × RunOf skip (request_setting known_request) some_calls 9 erring_policies
    (erring_rows (reported_false true)) ((codes "2", error) ∷ (codes "3", error) ∷ [])
    × RunOf forbid_on_error (request_setting known_request) some_calls 9 erring_policies
    (erring_rows reported_true) ((codes "2", error) ∷ (codes "3", error) ∷ [])
    × (concrete_decision skip (erring_rows (reported_false true)) ≡ allow)
    × (ids (concrete_reasons skip (erring_rows (reported_false true))) ≡ codes "1" ∷ [])
    × (definitely_errored (erring_rows (reported_false true)) ≡ codes "2" ∷ codes "3" ∷ [])
    × (concrete_decision forbid_on_error (erring_rows reported_true) ≡ deny)
    × (ids (concrete_reasons forbid_on_error (erring_rows reported_true)) ≡ codes "3" ∷ [])
    × (definitely_errored (erring_rows reported_true) ≡ codes "2" ∷ [])

-- 1: permit all; 2: forbid when x and 1 + "a"
abbrev pub strict_policies : List Policy
strict_policies =
    policy (codes "1") permit truth ∷
    policy (codes "2") forbid (both x (binary add_operator (long 1) (text (codes "a")))) ∷ []

-- where x has this value
abbrev pub x_is : Bool → Mapping
x_is b = map_of ((codes "x", plain_represented (bool_literal b)) ∷ [])

-- a world in which x is true
abbrev pub strict_world : World
strict_world = record {
  principal_entity = user (codes "a");
  action_entity = user (codes "act");
  resource_entity = user (codes "r");
  context_record = no_values_at;
  store = λ e. None;
  sigma = λ n. plain (bool_literal true);
}

-- a chain where erring forbids count: at first nothing is decided; where x is false, Allow; where it is true, the forbid
-- errs, so it counts: Deny for it, and its error is recorded. A further step keeps it true, and records no error
abbrev pub StrictChain : Type 0
StrictChain =
    (first : Response) × (allowed : Response) × (denied : Response) × (again : Response)
    × Begins (configured_in forbid_on_error 9) known_request empty_store strict_policies first
    × StepsTo (configured_in forbid_on_error 9) (x_is false) empty_store first allowed
    × StepsTo (configured_in forbid_on_error 9) (x_is true) empty_store first denied
    × StepsTo (configured_in forbid_on_error 9) no_map empty_store denied again
    × (given_decision first.rows ≡ None) × (given_decision allowed.rows ≡ Some allow)
    × (ids (must_determine allowed.rows) ≡ codes "1" ∷ []) × (given_decision denied.rows ≡ Some deny)
    × (ids (must_determine denied.rows) ≡ codes "2" ∷ []) × (map (λ e. e.0) denied.errors ≡ codes "2" ∷ [])
    × (definitely_errored denied.rows ≡ []) × (given_decision again.rows ≡ Some deny)
    × (ids (must_determine again.rows) ≡ codes "2" ∷ []) × (again.errors ≡ [])

-- the world completes it, and there the policies decide as the chain says
abbrev pub StrictChainIsCompleted : Type 0
StrictChainIsCompleted =
    (first : Response) × (last : Response)
    × Begins (configured_in forbid_on_error 9) known_request empty_store strict_policies first
    × ChainOf (configured_in forbid_on_error 9) first (shallow_step (x_is true) ∷ []) last
    × Premises (configured_in forbid_on_error 9) known_request empty_store strict_policies
    (shallow_step (x_is true) ∷ []) some_functions strict_world last.errors
    × (given_decision last.rows ≡ Some deny)
    × (decision (counted_each forbid_on_error some_extensions some_functions strict_world strict_policies) ≡ deny)
    × (reasons (counted_each forbid_on_error some_extensions some_functions strict_world strict_policies)
    ≡ codes "2" ∷ [])
