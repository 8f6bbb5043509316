-- A call on faithful arguments is known, and means what the function gives.
use Rattle.std.specs.Prelude.{◌≡◌, ◌==◌, ℕ, true, List, [], ◌∷◌, length, map, Some, Ok}
use Rattle.std.proofs.Common.{refl, arith}
use Rattle.std.proofs.lemmas.List.{length-map}
use Rattle.cedar_model.specs.Terms.{Text, call}
use Rattle.cedar_model.specs.Values.{extension_value, Represented, plain_represented, set_represented}
use Rattle.cedar_model.specs.Values.{record_represented, extension_represented, RepresentedValues, no_represented}
use Rattle.cedar_model.specs.Values.{one_represented, RepresentedFields, no_represented_at, one_represented_at}
use Rattle.cedar_model.specs.Values.{abstract_value, expression_of, expressions_of, expressions_at}
use Rattle.cedar_model.specs.Outcomes.{gives}
use Rattle.cedar_model.specs.World.{World, Slots, Extensions, Functions, function_gives}
use Rattle.cedar_model.specs.Agreement.{AllFaithful, IsFaithful, AreFaithful, AreFaithfulAt, IsKnown, AreKnown}
use Rattle.cedar_model.specs.Agreement.{AreKnownAt}
use Rattle.cedar_model.specs.Meaning.{meanings, meaning, call_meaning, function_meaning, and_then_all, value_then}
use Rattle.cedar_model.specs.laws.Soundness.{WrittenValuesMean}
use Rattle.cedar_extension_values.specs.Faithful.{terms_of}

same : (n : ℕ) → (n == n) ≡ true
same n = grind arith

module _ (X : Extensions) (ans : Functions) where
  mutual
    pub known : (v : Represented) → IsFaithful X ans v → IsKnown ans (expression_of v)
    known (plain_represented l) h = tt
    known (set_represented vs) h = known_each vs h.1
    known (record_represented fs) h = known_at fs h
    known (extension_represented t k f ts) h = h.0

    known_each : (vs : RepresentedValues) → AreFaithful X ans vs → AreKnown ans (expressions_of vs)
    known_each no_represented h = tt
    known_each (one_represented v vs) h = (known v h.0, known_each vs h.1)

    known_at : (fs : RepresentedFields) → AreFaithfulAt X ans fs → AreKnownAt ans (expressions_at fs)
    known_at no_represented_at h = tt
    known_at (one_represented_at k v fs) h = (known v h.0, known_at fs h.1)

  pub known_all : (vs : List Represented) → AllFaithful X ans vs → AreKnown ans (terms_of vs)
  known_all [] h = tt
  known_all (v ∷ vs) h = (known v h.0, known_all vs h.1)

  pub means_all : WrittenValuesMean → (vs : List Represented) → AllFaithful X ans vs → (w : World) (slots : Slots)
      → meanings X ans w slots (terms_of vs) ≡ Ok (map abstract_value vs)
  unfolding meanings value_then
  means_all written [] h w slots = refl
  means_all written (v ∷ vs) h w slots = rw ((written X ans v h.0 w slots).0, means_all written vs h.1 w slots) refl

  pub call_means : WrittenValuesMean → (f : Text) (vs : List Represented) (t : Text) (k : List ℕ)
      → AllFaithful X ans vs → X.arity f ≡ Some (length vs)
      → ans f (map abstract_value vs) ≡ function_gives (extension_value t k)
      → (w : World) (slots : Slots) → meaning X ans w slots (call f (terms_of vs)) ≡ gives (extension_value t k)
  unfolding meaning call_meaning function_meaning and_then_all
  call_means written f vs t k faithful arity made w slots =
      rw (means_all written vs faithful w slots, arity, made, length-map vs abstract_value, same (length vs)) refl
