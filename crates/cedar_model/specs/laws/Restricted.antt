-- The laws of restricted expressions and of unknowns in residuals, which the functions of `restricted` have as their
-- contracts.
use Rattle.std.specs.Prelude.{◌≡◌, ◌↔◌, ℕ, true, List, Some, None}
use Rattle.cedar_model.specs.Terms.{Text, Term, Fields}
use Rattle.cedar_model.specs.Values.{Represented}
use Rattle.cedar_model.specs.Shapes.{is_restricted, has_unknown, have_unknown_at}
use Rattle.cedar_model.specs.Failures.{PartialValue, value, residual, Answer, answers, answers_residual}
use Rattle.cedar_model.specs.Settings.{residual_context, Setting}
use Rattle.cedar_model.specs.Rules.{StoredCalls, Runs, Allows}
use Rattle.cedar_model.specs.Agreement.{EachStored}
use Rattle.cedar_model.specs.Restricted.{IsSound, IsSoundPart, Disallowed, first_disallowed, feature_of}
use Rattle.cedar_model.specs.Restricted.{IsPartOf}

-- what a restricted expression may answer depends on neither request, store, slots nor resolution
abbrev pub RestrictedReadsNothing : StoredCalls → Type 0
RestrictedReadsNothing calls =
    (s z : Setting) → s.map ≡ z.map → s.extensions ≡ z.extensions → (n : ℕ) (t : Term) (a : Answer) →
    is_restricted t ≡ true → Runs s calls n t a → Runs z calls n t a

-- mapped values and functions' answers are sound, whatever else is given
pub record AnswersSound (calls : StoredCalls) (s : Setting) : Type 0 where
  pub mapped_sound : (n : Text) (v : Represented) → s.map n ≡ Some v → IsSound v
  pub answers_sound : (f : Text) (vs : List Represented) (p : PartialValue) → calls f vs (answers p) → IsSoundPart p

-- a restricted expression answers a sound value or a residual that is restricted
abbrev pub RestrictedStays : StoredCalls → Type 0
RestrictedStays calls =
    (s : Setting) → AnswersSound calls s → (t : Term) (p : PartialValue) → is_restricted t ≡ true →
    Allows s calls t (answers p) → IsSoundPart p

-- a residual that is given, or that a function answers, holds an unknown
abbrev pub HoldsUnknown : PartialValue → Type 0
HoldsUnknown (value v) = Unit {0}
HoldsUnknown (residual r) = has_unknown r ≡ true

pub record ResidualsHoldUnknowns (calls : StoredCalls) (s : Setting) : Type 0 where
  pub context_holds : (fs : Fields) → s.request.context_part ≡ residual_context fs → have_unknown_at fs ≡ true
  pub stored_holds : EachStored HoldsUnknown s.store
  pub answers_hold : (f : Text) (vs : List Represented) (p : PartialValue) → calls f vs (answers p) → HoldsUnknown p

-- then so does each residual that is answered
abbrev pub AnsweredResidualsHoldUnknowns : StoredCalls → Type 0
AnsweredResidualsHoldUnknowns calls =
    (s : Setting) → ResidualsHoldUnknowns calls s → (t r : Term) → Allows s calls t (answers_residual r) →
    has_unknown r ≡ true

-- no part is disallowed exactly where the expression is restricted
abbrev pub NoneIsDisallowed : Type 0
NoneIsDisallowed = (t : Term) → (first_disallowed t ≡ None ↔ (is_restricted t ≡ true))

-- and the first one is a part of the expression, with the feature of its node
abbrev pub DisallowedHasItsFeature : Type 0
DisallowedHasItsFeature =
    (t : Term) (d : Disallowed) → first_disallowed t ≡ Some d → IsPartOf d.part t
    × (feature_of d.part ≡ Some d.feature)
