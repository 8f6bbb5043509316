-- The laws that tie the residual rules to the meaning, which the functions of `meaning` have as their contracts.
use Rattle.std.specs.Prelude.{◌≡◌, ℕ, ◌<◌, List, ◌∷◌}
use Rattle.cedar_model.specs.Terms.{Text, Term, both, get_attribute, has_attribute, extended_has}
use Rattle.cedar_model.specs.Values.{AbstractValue, Represented, abstract_value, expression_of}
use Rattle.cedar_model.specs.Outcomes.{gives}
use Rattle.cedar_model.specs.World.{World, Slots, Extensions, Functions}
use Rattle.cedar_model.specs.Meaning.{meaning}
use Rattle.cedar_model.specs.Failures.{Answer}
use Rattle.cedar_model.specs.Settings.{Setting}
use Rattle.cedar_model.specs.Rules.{StoredCalls, Allows, Exceeds}
use Rattle.cedar_model.specs.Agreement.{height, IsKnown, AgreesWithRequest, AgreesWithStore, HasNothingUnknown}
use Rattle.cedar_model.specs.Agreement.{IsAllKnownIn, AnswersOutcome}
use Rattle.cedar_model.specs.Agreement.{own_world, Fits, IsFaithful, CompletesWith, StandsFor}

-- where nothing is unknown, what is allowed is the meaning: its value, or an error of its kind, and no residual
abbrev pub AllowedIsMeant : StoredCalls → Type 0
AllowedIsMeant calls =
    (ans : Functions) (w : World) (s : Setting) → IsAllKnownIn calls ans w s → (t : Term) (a : Answer) → IsKnown ans t
    → Allows s calls t a → AnswersOutcome a (meaning s.extensions ans w s.slots t)

-- and the need is at most the height
abbrev pub NeedIsAtMostHeight : StoredCalls → Type 0
NeedIsAtMostHeight calls =
    (ans : Functions) (w : World) (s : Setting) → IsAllKnownIn calls ans w s → (n : ℕ) (t : Term) → IsKnown ans t
    → Exceeds s calls t n → n < height t

-- the own world is such a world, whatever its unknowns are
abbrev pub OwnWorldAgrees : Type 0
OwnWorldAgrees =
    (ans : Functions) (s : Setting) (sigma : Text → AbstractValue) → HasNothingUnknown s
    → AgreesWithRequest s.extensions ans (own_world s sigma) s.request
    × AgreesWithStore s.extensions ans (own_world s sigma) s.store

-- residual soundness: in every world that agrees with what the evaluator is given, what is allowed stands for the
-- meaning
abbrev pub ResidualsAreSound : StoredCalls → Type 0
ResidualsAreSound calls =
    (ans : Functions) (w : World) (s : Setting) → CompletesWith calls ans w s → (t : Term) (a : Answer) → Fits ans w t
    → Allows s calls t a → StandsFor s.extensions ans w a (meaning s.extensions ans w s.slots t)

-- the expression of a faithful value means the value and fits, in every world
abbrev pub WrittenValuesMean : Type 0
WrittenValuesMean =
    (X : Extensions) (ans : Functions) (v : Represented) → IsFaithful X ans v → (w : World) (slots : Slots)
    → (meaning X ans w slots (expression_of v) ≡ gives (abstract_value v)) × Fits ans w (expression_of v)

-- an extended `has` is the conjunction `e has k && e.k has l..`
abbrev pub ExtendedHasIsConjunction : Type 0
ExtendedHasIsConjunction =
    (X : Extensions) (ans : Functions) (w : World) (slots : Slots) (e : Term) (k l : Text) (ls : List Text)
    → meaning X ans w slots (extended_has e k (l ∷ ls))
    ≡ meaning X ans w slots (both (has_attribute e k) (extended_has (get_attribute e k) l ls))
