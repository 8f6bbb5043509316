-- What an explanation promises: the parts that it names are reached, they decide, and none of them can be left out.
use Rattle.std.specs.Prelude.{◌≡◌, ◌≢◌, List, [], ◌∷◌, ◌++◌, map, Some}
use Rattle.cedar_model.specs.Terms.{Term}
use Rattle.cedar_model.specs.World.{World, Slots, Extensions, Functions}
use Rattle.cedar_model.specs.Meaning.{meaning}
use Rattle.cedar_model.specs.Failures.{FailureKind, Answer}
use Rattle.cedar_explain.specs.Outcomes.{Came, came_failing, meant, answered}
use Rattle.cedar_explain.specs.Places.{Place, part_at, Assignment, comes_to}

-- a part, and what the evaluator answers for it
pub record Told : Type 0 where
  pub term : Term
  pub answer : Answer

-- this is so of each part
abbrev pub OfEach : (Told → Type 0) → List Told → Type 0
OfEach Is [] = Unit {0}
OfEach Is (p ∷ ps) = Is p × OfEach Is ps

-- ---- the parts decide

-- each part comes out so in the world: true, false, another value, or an error of the same kind
abbrev pub ComeOutSo : Extensions → Functions → World → Slots → List Told → Type 0
ComeOutSo X ans w slots ps = OfEach (λ p. meant (meaning X ans w slots p.term) ≡ answered p.answer) ps

-- in every world in which they do, the condition comes out as reported
abbrev pub Decide : Term → List Told → Came → Type 0
Decide t ps o =
    (X : Extensions) (ans : Functions) (w : World) (slots : Slots) → ComeOutSo X ans w slots ps →
    meant (meaning X ans w slots t) ≡ o

-- ---- none can be left out

-- a part that stands at a place
pub record Standing : Type 0 where
  pub place : Place
  pub told : Told

-- the place of each has this part of the condition
abbrev pub Stand : Term → List Standing → Type 0
Stand t [] = Unit {0}
Stand t (s ∷ ss) = (part_at s.place t ≡ Some s.told.term) × Stand t ss

-- no two stand at one place
abbrev pub IsApart : Place → List Standing → Type 0
IsApart p [] = Unit {0}
IsApart p (s ∷ ss) = (p ≢ s.place) × IsApart p ss

abbrev pub AreApart : List Standing → Type 0
AreApart [] = Unit {0}
AreApart (s ∷ ss) = IsApart s.place ss × AreApart ss

-- the assignment has what was answered for each
abbrev pub HasEach : Assignment → List Standing → Type 0
HasEach at [] = Unit {0}
HasEach at (s ∷ ss) = (at s.place ≡ answered s.told.answer) × HasEach at ss

-- the same but for this place
abbrev pub HasOthers : Place → Assignment → List Standing → Type 0
HasOthers p at [] = Unit {0}
HasOthers p at (s ∷ ss) = (p ≢ s.place → at s.place ≡ answered s.told.answer) × HasOthers p at ss

-- without the part at this place the condition can come out otherwise: by some assignment that has all others
abbrev pub TurnsAt : Term → Came → List Standing → Place → Type 0
TurnsAt t o ss p = (at : Assignment) × HasOthers p at ss × (comes_to at t ≢ o)

abbrev pub EachTurns : Term → Came → List Standing → List Standing → Type 0
EachTurns t o all [] = Unit {0}
EachTurns t o all (s ∷ ss) = TurnsAt t o all s.place × EachTurns t o all ss

-- the parts stand at places of the condition, one each; whatever stands elsewhere, the condition comes out so by them;
-- and none of them can be left out
pub record AreNeeded (t : Term) (ps : List Told) (o : Came) : Type 0 where
  pub standing : List Standing
  pub are_these : map (λ s. s.told) standing ≡ ps
  pub stand : Stand t standing
  pub apart : AreApart standing
  pub settled : (at : Assignment) → HasEach at standing → comes_to at t ≡ o
  pub turn : EachTurns t o standing standing

-- ---- how the list grows while a condition is walked through

-- without the part at this place the condition can err so
abbrev pub ErrsAt : Term → FailureKind → List Standing → Place → Type 0
ErrsAt t k ss p = (at : Assignment) × HasOthers p at ss × (comes_to at t ≡ came_failing k)

abbrev pub EachErrs : Term → FailureKind → List Standing → List Standing → Type 0
EachErrs t k all [] = Unit {0}
EachErrs t k all (s ∷ ss) = ErrsAt t k all s.place × EachErrs t k all ss

-- a walk through `t`, which comes to `o`, put these parts behind the others; each of them is as it has to be
pub record Walked (Is : Told → Type 0) (t : Term) (before after : List Told) (o : Came) : Type 0 where
  pub standing : List Standing
  pub are_behind : after ≡ before ++ map (λ s. s.told) standing
  pub each : OfEach Is (map (λ s. s.told) standing)
  pub stand : Stand t standing
  pub apart : AreApart standing
  pub settled : (at : Assignment) → HasEach at standing → comes_to at t ≡ o
  pub some : (at : Assignment) × HasEach at standing
  pub err : (k : FailureKind) → EachErrs t k standing standing
