-- What the depth bound asks of what is given, and what these heights say of it.
use Rattle.std.specs.Prelude.{◌≡◌, ℕ, ◌+◌, ◌≤◌, max, Bool, List, [], ◌∷◌, Some}
use Rattle.cedar_model.specs.Terms.{Text, record_of}
use Rattle.cedar_model.specs.Values.{Represented, expression_of, expressions_at}
use Rattle.cedar_model.specs.Failures.{PartialValue, answers, part_expression}
use Rattle.cedar_model.specs.Settings.{ContextPart, absent_context, known_context, residual_context, Setting, Store}
use Rattle.cedar_model.specs.Rules.{StoredCalls}
use Rattle.cedar_model.specs.Agreement.{height, EachStored}
use Rattle.cedar_model.specs.Authorizations.{AreNoHigher}
use Rattle.cedar_model.specs.Policies.{Policy}
use Rattle.cedar_model.specs.Responses.{Row, Reported, reported_true, reported_false, reported_residual}
use Rattle.cedar_model.specs.Chains.{Mapping, all_residuals}
use Rattle.cedar_model.specs.Depth.{IsNoHigher}
use Rattle.cedar_layers.specs.Stores.{store_of}
use Rattle.cedar_layers.specs.declared.policies.entities.Entity.{Entity}
use Rattle.cedar_heights.specs.Heights.{greatest_condition, greatest_facts}

-- ---- what is given, as it stands

-- the height of a context: that of the record that it is
abbrev pub context_height : ContextPart → ℕ
context_height absent_context = 0
context_height (known_context fs) = height (record_of (expressions_at fs))
context_height (residual_context fs) = height (record_of fs)

-- what stored functions answer has at most so many levels
abbrev pub AnswersAreNoHigher : StoredCalls → ℕ → Type 0
AnswersAreNoHigher calls n =
    (f : Text) (vs : List Represented) (p : PartialValue) → calls f vs (answers p) → height (part_expression p) ≤ n

-- each value of the map has at most so many levels
abbrev pub MappedAreNoHigher : Mapping → ℕ → Type 0
MappedAreNoHigher m n = (k : Text) (v : Represented) → m k ≡ Some v → height (expression_of v) ≤ n

-- each attribute and tag of the store has at most so many levels
abbrev pub StoredAreNoHigher : Store → ℕ → Type 0
StoredAreNoHigher store n = EachStored (λ p. height (part_expression p) ≤ n) store

-- so have the context, what is stored, and what stored functions answer
pub record IsGivenNoHigher (calls : StoredCalls) (s : Setting) (n : ℕ) : Type 0 where
  pub context_low : context_height s.request.context_part ≤ n
  pub stored_low : StoredAreNoHigher s.store n
  pub answers_low : AnswersAreNoHigher calls n

-- the premises of the depth bound: a bound on what is given, with the map's values in it, and one on the conditions,
-- that go into so many levels, with deep resolution too
pub record AreDeepEnough (calls : StoredCalls) (s : Setting) (m : Mapping) (ps : List Policy)
    (levels : ℕ) : Type 0 where
  pub bound : ℕ
  pub highest : ℕ
  pub given : IsNoHigher calls s m bound
  pub conditions : AreNoHigher ps highest
  pub fits : highest + (bound + bound) ≤ levels

-- ---- laws

-- with values in place of unknowns each part has at most so many levels more as the highest of the values has
abbrev pub ValuesAddTheirHeight : StoredCalls → Type 0
ValuesAddTheirHeight calls =
    (s : Setting) (m : Mapping) (n b : ℕ) → IsGivenNoHigher calls s n → MappedAreNoHigher m b →
    IsNoHigher calls s m (n + b)

-- no condition is higher than the highest
abbrev pub ConditionsAreNoHigher : Type 0
ConditionsAreNoHigher = (ps : List Policy) → AreNoHigher ps (greatest_condition ps)

-- the height of what a row reports as left
abbrev pub reported_height : Reported → ℕ
reported_height reported_true = 0
reported_height (reported_false e) = 0
reported_height (reported_residual t) = height t

-- the height of the highest that is left
abbrev pub greatest_reported : List Row → ℕ
greatest_reported [] = 0
greatest_reported (r ∷ rs) = max (reported_height r.reported) (greatest_reported rs)

-- what is carried on to the next step is hardly higher than the highest that is left
abbrev pub CarriedAreNoHigher : Type 0
CarriedAreNoHigher = (rows : List Row) → AreNoHigher (all_residuals rows) (max 3 (greatest_reported rows) + 1)

-- the levels that suffice for conditions of which the highest has so many, where what is given has at most `given`
abbrev pub enough : ℕ → ℕ → ℕ
enough highest given = highest + (given + given)

-- those that suffice for a step from a response, of which the highest residual has so many, where the highest of the
-- map's values has `mapped`
abbrev pub enough_for_step : ℕ → ℕ → ℕ → ℕ
enough_for_step residual given mapped = enough (max 3 residual + 1) (given + mapped)

-- a call without a map has its premises with so many levels
abbrev pub EnoughIsDeepEnough : StoredCalls → Type 0
EnoughIsDeepEnough calls =
    (s : Setting) (ps : List Policy) (given levels : ℕ) → IsGivenNoHigher calls s given → MappedAreNoHigher s.map 0 →
    enough (greatest_condition ps) given ≤ levels → AreDeepEnough calls s s.map ps levels

-- and so has a step
abbrev pub EnoughIsDeepEnoughForStep : StoredCalls → Type 0
EnoughIsDeepEnoughForStep calls =
    (s : Setting) (m : Mapping) (rows : List Row) (given mapped levels : ℕ) → IsGivenNoHigher calls s given →
    MappedAreNoHigher m mapped → enough_for_step (greatest_reported rows) given mapped ≤ levels →
    AreDeepEnough calls s m (all_residuals rows) levels

-- each attribute and tag of one of the entities is no higher than the highest
abbrev pub EntitiesAreNoHigher : Type 0
EntitiesAreNoHigher =
    (es : List Entity) (is_partial : Bool) → StoredAreNoHigher (store_of es is_partial) (greatest_facts es)
