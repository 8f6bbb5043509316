-- Values that are written as a call which never asks and means them are faithful.
use Rattle.std.specs.Prelude.{◌≡◌, ℕ, List, [], ◌∷◌, length, map, Option, Some, codes}
use Rattle.cedar_model.specs.Terms.{Text, text_literal, Terms, no_terms, one_term}
use Rattle.cedar_model.specs.Values.{AbstractValue, plain, extension_value, Represented, extension_represented}
use Rattle.cedar_model.specs.Values.{abstract_value, expression_of}
use Rattle.cedar_model.specs.World.{Extensions, Functions, function_gives}
use Rattle.cedar_model.specs.Agreement.{height, AllFaithful, IsFaithful, NeverAsks}
use Rattle.cedar_extension_values.specs.Written.{constructed, offset_from_epoch, epoch}

-- the expressions of values, in order
abbrev pub terms_of : List Represented → Terms
terms_of [] = no_terms
terms_of (v ∷ vs) = one_term (expression_of v) (terms_of vs)

-- a call on the expressions of faithful arguments
abbrev pub CallsAreFaithful : Type 0
CallsAreFaithful =
    (X : Extensions) (ans : Functions) (f : Text) (vs : List Represented) (t : Text) (k : List ℕ)
    → AllFaithful X ans vs → X.arity f ≡ Some (length vs) → NeverAsks ans f
    → ans f (map abstract_value vs) ≡ function_gives (extension_value t k)
    → IsFaithful X ans (extension_represented t k f (terms_of vs))

module _ (X : Extensions) (ans : Functions) where
  -- the function takes so many arguments, and never asks
  pub record IsThere (f : Text) (n : ℕ) : Type 0 where
    pub takes : X.arity f ≡ Some n
    pub never_asks : NeverAsks ans f

  -- what the function answers to a text is the value of this type and key
  abbrev pub Makes : Text → Text → Text → List ℕ → Type 0
  Makes f text t k = ans f (plain (text_literal text) ∷ []) ≡ function_gives (extension_value t k)

-- a value that a text made
abbrev pub ConstructedAreFaithful : Type 0
ConstructedAreFaithful =
    (X : Extensions) (ans : Functions) (f text t : Text) (k : List ℕ) → IsThere X ans f 1
    → Makes X ans f text t k → IsFaithful X ans (constructed t k f text)

-- a datetime that is written from 1970 on, by a text that makes the duration of the key d, where 1970-01-01 has the
-- key e
abbrev pub OffsetsAreFaithful : Type 0
OffsetsAreFaithful =
    (X : Extensions) (ans : Functions) (text : Text) (k d e : List ℕ)
    → IsThere X ans (codes "datetime") 1 → IsThere X ans (codes "duration") 1 → IsThere X ans (codes "offset") 2
    → Makes X ans (codes "datetime") epoch (codes "datetime") e
    → Makes X ans (codes "duration") text (codes "duration") d
    → ans (codes "offset") (extension_value (codes "datetime") e ∷ extension_value (codes "duration") d ∷ [])
    ≡ function_gives (extension_value (codes "datetime") k)
    → IsFaithful X ans (offset_from_epoch k text)

-- how high the expressions of such values are
abbrev pub ConstructedAreLow : Type 0
ConstructedAreLow = (t : Text) (k : List ℕ) (f text : Text) → height (expression_of (constructed t k f text)) ≡ 2

abbrev pub OffsetsAreLow : Type 0
OffsetsAreLow = (k : List ℕ) (text : Text) → height (expression_of (offset_from_epoch k text)) ≡ 3
