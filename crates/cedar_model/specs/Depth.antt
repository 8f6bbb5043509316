-- The depth bound: how many levels an expression can need, and how high what it answers can be.
use Rattle.std.specs.Prelude.{◌≡◌, ℕ, ◌+◌, ◌<◌, ◌≤◌, List, Some, true}
use Rattle.cedar_model.specs.Terms.{Text, Term, record_of, Fields}
use Rattle.cedar_model.specs.Values.{Represented, expression_of, expressions_at}
use Rattle.cedar_model.specs.Shapes.{is_restricted}
use Rattle.cedar_model.specs.Failures.{PartialValue, answers, part_expression}
use Rattle.cedar_model.specs.Settings.{ContextPart, absent_context, known_context, residual_context, context_value}
use Rattle.cedar_model.specs.Settings.{RequestPart, Resolution, shallow, deep, Setting}
use Rattle.cedar_model.specs.Rules.{StoredCalls, Allows, Exceeds}
use Rattle.cedar_model.specs.Agreement.{height, EachStored}
use Rattle.cedar_model.specs.Chains.{Mapping, substituted, substituted_at, at_step}
use Rattle.cedar_model.specs.laws.Levels.{FunctionsMeetNoLimit}
use Rattle.cedar_model.specs.Restricted.{IsSound, IsGivenSound}

-- the height of a part, with the map's values in place of their unknowns
abbrev pub substituted_height : Mapping → PartialValue → ℕ
substituted_height m p = height (substituted m (part_expression p))

abbrev pub IsContextNoHigher : Mapping → ℕ → ContextPart → Type 0
IsContextNoHigher m b absent_context = Unit {0}
IsContextNoHigher m b (known_context fs) = height (substituted m (record_of (expressions_at fs))) ≤ b
IsContextNoHigher m b (residual_context fs) = height (substituted m (record_of fs)) ≤ b

-- the context, each stored part, each mapped value and each answer of a function are no higher than b, with the map's
-- values in place of their unknowns
pub record IsNoHigher (calls : StoredCalls) (s : Setting) (m : Mapping) (b : ℕ) : Type 0 where
  pub context_low : IsContextNoHigher m b s.request.context_part
  pub stored_low : EachStored (λ p. substituted_height m p ≤ b) s.store
  pub mapped_low : (n : Text) (v : Represented) → m n ≡ Some v → height (expression_of v) ≤ b
  pub answers_low : (f : Text) (vs : List Represented) (p : PartialValue) → calls f vs (answers p) →
      substituted_height m p ≤ b

-- the map that is given is part of another
abbrev pub IsWithin : Mapping → Mapping → Type 0
IsWithin m l = (n : Text) (v : Represented) → m n ≡ Some v → l n ≡ Some v

-- with deep resolution a stored residual can answer what is twice as high
unfoldable pub bound_of : Resolution → ℕ → ℕ
bound_of shallow b = b
bound_of deep b = b + b

-- all that is given is sound and no higher than b, with a map of which the one that is given is part
pub record IsBounded (calls : StoredCalls) (s : Setting) (m : Mapping) (b : ℕ) : Type 0 where
  pub is_within : IsWithin s.map m
  pub given_is_sound : IsGivenSound calls s
  pub is_no_higher : IsNoHigher calls s m b

-- the need is at most the height and the bound together; with deep resolution the height and twice the bound
abbrev pub NeedIsBounded : StoredCalls → Type 0
NeedIsBounded calls =
    FunctionsMeetNoLimit calls → (s : Setting) (b : ℕ) → IsGivenSound calls s →
    IsNoHigher calls s s.map b → (n : ℕ) (t : Term) → Exceeds s calls t n → n < height t + bound_of s.resolution b

-- and so is the height of what is answered, also with more values in place of unknowns
abbrev pub AnswersAreNoHigher : StoredCalls → Type 0
AnswersAreNoHigher calls =
    (s : Setting) (m : Mapping) (b : ℕ) → IsBounded calls s m b →
    (t : Term) (p : PartialValue) → Allows s calls t (answers p)
    → substituted_height m p ≤ height t + bound_of s.resolution b

-- so a context that is substituted and interpreted again is at most twice as high: with deep resolution where the
-- values that are put in are sound, so that the context stays restricted and reads nothing stored
abbrev pub SubstitutedContextsAreNoHigher : StoredCalls → Type 0
SubstitutedContextsAreNoHigher calls =
    (s : Setting) (m : Mapping) (b : ℕ) → IsBounded calls s m b →
    (s.resolution ≡ deep → (n : Text) (v : Represented) → m n ≡ Some v → IsSound v) →
    (fs : Fields) (p : PartialValue) → s.request.context_part ≡ residual_context fs →
    Allows s calls (record_of (substituted_at m fs)) (answers p) → substituted_height m p ≤ b + b

-- the need of a restricted expression is at most its height, whatever is given
abbrev pub RestrictedNeedIsAtMostHeight : StoredCalls → Type 0
RestrictedNeedIsAtMostHeight calls =
    FunctionsMeetNoLimit calls → (s : Setting) (n : ℕ) (t : Term) → is_restricted t ≡ true → Exceeds s calls t n →
    n < height t

-- ---- a step of a chain: its context is substituted and interpreted again

-- the context that follows: as it was, or what the substituted record answers
abbrev pub ContextFollows : Setting → StoredCalls → Mapping → ContextPart → ContextPart → Type 0
ContextFollows s calls m absent_context c = c ≡ absent_context
ContextFollows s calls m (known_context fs) c = c ≡ known_context fs
ContextFollows s calls m (residual_context fs) c =
    Allows s calls (record_of (substituted_at m fs)) (answers (context_value c))

-- the need in a step's run is at most the height and twice the bound
abbrev pub StepNeedIsBounded : StoredCalls → Type 0
StepNeedIsBounded calls =
    FunctionsMeetNoLimit calls → (s : Setting) (m : Mapping) (b : ℕ) → IsBounded calls s m b →
    ((n : Text) (v : Represented) → m n ≡ Some v → IsSound v) → (r : RequestPart) →
    ContextFollows s calls m s.request.context_part r.context_part → (n : ℕ) (t : Term) →
    Exceeds (at_step s.extensions s.resolution r s.store m) calls t n → n < height t + (b + b)
