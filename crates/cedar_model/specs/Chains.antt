-- Chains: which response follows from an earlier one by a step, a map of unknowns and a store.
use Rattle.std.specs.Prelude.{◌≡◌, ℕ, Bool, true, false, cond, ◌||◌, List, [], ◌∷◌, ◌++◌, map, Option, Some, None}
use Rattle.std.specs.Prelude.{Result, Ok, Err, MatchBool, MatchResult}
use Rattle.cedar_model.specs.Terms.{Text, Term, literal, variable, slot, unknown, if_then_else, both, either, unary}
use Rattle.cedar_model.specs.Terms.{binary, call, get_attribute, has_attribute, extended_has, like, is_of_type}
use Rattle.cedar_model.specs.Terms.{set_of, record_of, Terms, no_terms, one_term, Fields, no_fields, one_field}
use Rattle.cedar_model.specs.Values.{Represented, expression_of}
use Rattle.cedar_model.specs.Failures.{Failure, FailureKind, of_meaning, of_residual, of_limit, of_memory}
use Rattle.cedar_model.specs.Failures.{failure_kind, Answer}
use Rattle.cedar_model.specs.Settings.{ContextPart, absent_context, known_context, residual_context, RequestPart}
use Rattle.cedar_model.specs.Settings.{Store, Resolution, Setting}
use Rattle.cedar_model.specs.World.{Extensions}
use Rattle.cedar_model.specs.Rules.{StoredCalls, Runs}
use Rattle.cedar_model.specs.Configurations.{Configuration, resolving}
use Rattle.cedar_model.specs.Agreement.{no_slots}
use Rattle.cedar_model.specs.Policies.{Effect, permit, forbid, Policy, ErrorHandling, skip, forbid_on_error}
use Rattle.cedar_model.specs.Responses.{Reported, reported_true, reported_false, reported_residual, Row, RunOf, carried}
use Rattle.cedar_model.specs.Refusals.{Refusal, mode_is_other, id_comes_again, first_repeated, concrete_request}
use Rattle.cedar_model.specs.Refusals.{IsContext}

-- values for unknowns, by name
abbrev pub Mapping : Type 0
Mapping = Text → Option Represented

-- ---- an expression with the map's values in place of their unknowns

unfoldable pub value_for : Option Represented → Term → Term
value_for None t = t
value_for (Some v) t = expression_of v

module _ (m : Mapping) where
  unfoldable mutual
    pub substituted : Term → Term
    substituted (literal l) = literal l
    substituted (variable v) = variable v
    substituted (slot i) = slot i
    substituted (unknown n t) = value_for (m n) (unknown n t)
    substituted (if_then_else c a b) = if_then_else (substituted c) (substituted a) (substituted b)
    substituted (both a b) = both (substituted a) (substituted b)
    substituted (either a b) = either (substituted a) (substituted b)
    substituted (unary op a) = unary op (substituted a)
    substituted (binary op a b) = binary op (substituted a) (substituted b)
    substituted (call f ts) = call f (substituted_each ts)
    substituted (get_attribute a k) = get_attribute (substituted a) k
    substituted (has_attribute a k) = has_attribute (substituted a) k
    substituted (extended_has a k ks) = extended_has (substituted a) k ks
    substituted (like a p) = like (substituted a) p
    substituted (is_of_type a t) = is_of_type (substituted a) t
    substituted (set_of ts) = set_of (substituted_each ts)
    substituted (record_of fs) = record_of (substituted_at fs)

    pub substituted_each : Terms → Terms
    substituted_each no_terms = no_terms
    substituted_each (one_term t ts) = one_term (substituted t) (substituted_each ts)

    pub substituted_at : Fields → Fields
    substituted_at no_fields = no_fields
    substituted_at (one_field k t fs) = one_field k (substituted t) (substituted_at fs)

-- ---- the policies of the next response

unfoldable pub is_true : Reported → Bool
is_true reported_true = true
is_true (reported_false e) = false
is_true (reported_residual t) = false

unfoldable pub is_false : Reported → Bool
is_false reported_true = false
is_false (reported_false e) = true
is_false (reported_residual t) = false

unfoldable pub is_residual : Reported → Bool
is_residual reported_true = false
is_residual (reported_false e) = false
is_residual (reported_residual t) = true

unfoldable pub has_effect : Effect → Effect → Bool
has_effect permit permit = true
has_effect forbid forbid = true
has_effect permit forbid = false
has_effect forbid permit = false

-- the rows of one of the six maps, in the policies' order
unfoldable pub rows_of : Effect → (Reported → Bool) → List Row → List Row
rows_of effect such [] = []
rows_of effect such (r ∷ rs) =
    cond (has_effect effect r.effect) (cond (such r.reported) (r ∷ rows_of effect such rs) (rows_of effect such rs))
    (rows_of effect such rs)

-- true, false and residual policies of an effect
abbrev pub rows_by : Effect → List Row → List Row
rows_by effect rows =
    rows_of effect is_true rows ++ (rows_of effect is_false rows ++ rows_of effect is_residual rows)

-- permits before forbids, each as what it is reported as
abbrev pub all_residuals : List Row → List Policy
all_residuals rows = map carried (rows_by permit rows ++ rows_by forbid rows)

-- ---- steps

pub record Response : Type 0 where
  pub mode : ErrorHandling
  pub request : RequestPart
  pub rows : List Row
  pub errors : List (Text × Failure)

-- interpretation without a map
abbrev pub without_map : Setting → Setting
without_map s =
    record {
      request = s.request;
      store = s.store;
      map = λ n. None;
      slots = no_slots;
      extensions = s.extensions;
      resolution = s.resolution;
    }

-- what an evaluation of a step is given
abbrev pub at_step : Extensions → Resolution → RequestPart → Store → Mapping → Setting
at_step X resolution r store m =
    record {
      request = r;
      store = store;
      map = m;
      slots = no_slots;
      extensions = X;
      resolution = resolution;
    }

-- no unknown has a value
abbrev pub no_values : Mapping
no_values n = None

-- a residual context is interpreted again, with the map's values in it: under the old response's request and the new
-- store, without the map. Another context stays
abbrev pub SubstitutesTo : Setting → StoredCalls → ℕ → Mapping → ContextPart → Result ContextPart Refusal → Type 0
SubstitutesTo s calls levels m absent_context r = r ≡ Ok absent_context
SubstitutesTo s calls levels m (known_context fs) r = r ≡ Ok (known_context fs)
SubstitutesTo s calls levels m (residual_context fs) r =
    (a : Answer) × Runs (without_map s) calls levels (record_of (substituted_at m fs)) a × IsContext a r

abbrev pub with_context : RequestPart → ContextPart → RequestPart
with_context r c =
    record {
      principal_entry = r.principal_entry;
      action_entry = r.action_entry;
      resource_entry = r.resource_entry;
      context_part = c;
    }

unfoldable pub is_same_mode : ErrorHandling → ErrorHandling → Bool
is_same_mode skip skip = true
is_same_mode skip forbid_on_error = false
is_same_mode forbid_on_error skip = false
is_same_mode forbid_on_error forbid_on_error = true

module _ (c : Configuration) (m : Mapping) (store : Store) (old : Response) where
  -- what is read under this request
  abbrev pub under : RequestPart → Setting
  under r = at_step c.extensions c.resolution r store m

  -- the rows before, carried on as policies, run under the new request with the map
  abbrev pub AfterContext : RequestPart → Result ContextPart Refusal → Result Response Refusal → Type 0
  AfterContext r (Err e) x = x ≡ Err e
  AfterContext r (Ok d) x =
      (rows : List Row) × (errors : List (Text × Failure))
      × RunOf c.mode (under (with_context r d)) c.calls c.levels (all_residuals old.rows) rows errors
      × (x ≡ Ok record { mode = c.mode; request = with_context r d; rows = rows; errors = errors })

  abbrev pub AfterRequest : Result RequestPart Refusal → Result Response Refusal → Type 0
  AfterRequest (Err e) x = x ≡ Err e
  AfterRequest (Ok r) x =
      (d : Result ContextPart Refusal) × SubstitutesTo (under old.request) c.calls c.levels m r.context_part d
      × AfterContext r d x

  abbrev pub AfterIds : Option Text → Result Response Refusal → Type 0
  AfterIds (Some id) x = x ≡ Err (id_comes_again id)
  AfterIds None x = AfterRequest (concrete_request m old.request) x

  abbrev pub AfterMode : Bool → Result Response Refusal → Type 0
  AfterMode true x = AfterIds (first_repeated (map (λ p. p.id) (all_residuals old.rows))) x
  AfterMode false x = x ≡ Err (mode_is_other old.mode c.mode)

  -- a step answers a response or a refusal: the mode is the response's, no id is a duplicate, the map makes the request
  -- concrete, then the context is substituted, then the policies run
  abbrev pub Steps : Result Response Refusal → Type 0
  Steps x = AfterMode (is_same_mode c.mode old.mode) x

  -- it succeeds with this response
  abbrev pub StepsTo : Response → Type 0
  StepsTo new = Steps (Ok new)

-- ---- chains

-- a step of a chain: values for unknowns, a store, and what reading a stored residual answers
pub record ChainStep : Type 0 where
  pub mapping : Mapping
  pub store : Store
  pub resolution : Resolution

-- the first response, from a request without a map
pub record Begins (c : Configuration) (request : RequestPart) (store : Store) (policies : List Policy)
    (first : Response) : Type 0 where
  pub mode_is : first.mode ≡ c.mode
  pub request_is : first.request ≡ request
  pub runs : RunOf c.mode (at_step c.extensions c.resolution request store no_values) c.calls c.levels policies
      first.rows first.errors

unfoldable pub is_limit : FailureKind → Bool
is_limit (of_meaning k) = false
is_limit of_residual = false
is_limit of_limit = true
is_limit of_memory = false

-- whether the recursion limit is among the errors
unfoldable pub has_limit : List (Text × Failure) → Bool
has_limit [] = false
has_limit (e ∷ es) = is_limit (failure_kind e.1) || has_limit es

-- steps taken one after another from a response, each with its own resolution, answer the response of the last one, or
-- the first whose errors hold the recursion limit, or the first refusal
abbrev pub ChainAnswers : Configuration → Response → List ChainStep → Result Response Refusal → Type 0
ChainAnswers c r [] x = x ≡ Ok r
ChainAnswers c r (step ∷ steps) x =
    MatchBool (has_limit r.errors) (x ≡ Ok r) ((y : Result Response Refusal)
    × Steps (resolving step.resolution c) step.mapping step.store r y
    × MatchResult y (λ next. ChainAnswers c next steps x) (λ e. x ≡ Err e))

-- a chain from a response that succeeds with this one
abbrev pub ChainOf : Configuration → Response → List ChainStep → Response → Type 0
ChainOf c r steps last = ChainAnswers c r steps (Ok last)
