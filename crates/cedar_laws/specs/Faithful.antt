-- What holds no extension value is faithful: whoever stores no function that answers one owes no premise on values.
use Rattle.std.specs.Prelude.{◌≡◌, ℕ, true, List, Some}
use Rattle.cedar_model.specs.Terms.{Text, Term}
use Rattle.cedar_model.specs.Values.{AbstractValue, plain, set_value, record_value, extension_value, AbstractValues}
use Rattle.cedar_model.specs.Values.{no_values, one_value, AbstractFields, no_values_at, one_value_at}
use Rattle.cedar_model.specs.Values.{Represented, plain_represented, set_represented, record_represented}
use Rattle.cedar_model.specs.Values.{extension_represented, RepresentedValues, no_represented, one_represented}
use Rattle.cedar_model.specs.Values.{RepresentedFields, no_represented_at, one_represented_at, expression_of}
use Rattle.cedar_model.specs.Shapes.{is_restricted}
use Rattle.cedar_model.specs.World.{Extensions, Functions, function_gives}
use Rattle.cedar_model.specs.Failures.{PartialValue, value, residual, Answer, answers}
use Rattle.cedar_model.specs.Settings.{ContextPart, absent_context, known_context, residual_context, Store, Setting}
use Rattle.cedar_model.specs.Chains.{Mapping}
use Rattle.cedar_model.specs.Rules.{StoredCalls, Runs, Allows}
use Rattle.cedar_model.specs.Agreement.{IsKnown, IsFaithful, IsFaithfulPart, IsFaithfulContext, EachStored}
use Rattle.cedar_model.specs.Agreement.{AgreesWithFunctions, AnswerFaithfully, HasFaithfulValues}
use Rattle.cedar_model.specs.Restricted.{IsSound, IsSoundPart, IsSoundContext, IsGivenSound}

-- ---- what holds no extension value

-- it is none, and none is in it
abbrev mutual
  pub HoldsNoExtensionValue : Represented → Type 0
  HoldsNoExtensionValue (plain_represented l) = Unit {0}
  HoldsNoExtensionValue (set_represented vs) = HoldNoExtensionValue vs
  HoldsNoExtensionValue (record_represented fs) = HoldNoExtensionValueAt fs
  HoldsNoExtensionValue (extension_represented t k f ts) = ⊥

  pub HoldNoExtensionValue : RepresentedValues → Type 0
  HoldNoExtensionValue no_represented = Unit {0}
  HoldNoExtensionValue (one_represented v vs) = HoldsNoExtensionValue v × HoldNoExtensionValue vs

  pub HoldNoExtensionValueAt : RepresentedFields → Type 0
  HoldNoExtensionValueAt no_represented_at = Unit {0}
  HoldNoExtensionValueAt (one_represented_at k v fs) = HoldsNoExtensionValue v × HoldNoExtensionValueAt fs

-- the same of a value as equality sees it
abbrev mutual
  pub IsWithoutExtensions : AbstractValue → Type 0
  IsWithoutExtensions (plain l) = Unit {0}
  IsWithoutExtensions (set_value vs) = AreWithoutExtensions vs
  IsWithoutExtensions (record_value fs) = AreWithoutExtensionsAt fs
  IsWithoutExtensions (extension_value t k) = ⊥

  pub AreWithoutExtensions : AbstractValues → Type 0
  AreWithoutExtensions no_values = Unit {0}
  AreWithoutExtensions (one_value v vs) = IsWithoutExtensions v × AreWithoutExtensions vs

  pub AreWithoutExtensionsAt : AbstractFields → Type 0
  AreWithoutExtensionsAt no_values_at = Unit {0}
  AreWithoutExtensionsAt (one_value_at k v fs) = IsWithoutExtensions v × AreWithoutExtensionsAt fs

-- a residual holds no value but those that are written in it
abbrev pub PartHoldsNoExtensionValue : PartialValue → Type 0
PartHoldsNoExtensionValue (value v) = HoldsNoExtensionValue v
PartHoldsNoExtensionValue (residual t) = Unit {0}

abbrev pub ContextHoldsNoExtensionValue : ContextPart → Type 0
ContextHoldsNoExtensionValue absent_context = Unit {0}
ContextHoldsNoExtensionValue (known_context fs) = HoldNoExtensionValueAt fs
ContextHoldsNoExtensionValue (residual_context fs) = Unit {0}

-- no attribute and no tag of a store
abbrev pub StoreHoldsNoExtensionValue : Store → Type 0
StoreHoldsNoExtensionValue s = EachStored PartHoldsNoExtensionValue s

-- no value that a map has for an unknown
abbrev pub MapHoldsNoExtensionValue : Mapping → Type 0
MapHoldsNoExtensionValue m = (n : Text) (v : Represented) → m n ≡ Some v → HoldsNoExtensionValue v

-- all that is given
pub record GivenHoldsNoExtensionValue (s : Setting) : Type 0 where
  pub context_holds_none : ContextHoldsNoExtensionValue s.request.context_part
  pub store_holds_none : StoreHoldsNoExtensionValue s.store
  pub map_holds_none : MapHoldsNoExtensionValue s.map

-- no function answers an extension value, nor one that holds one
abbrev pub AnswerNoExtensionValue : StoredCalls → Type 0
AnswerNoExtensionValue calls =
    (f : Text) (vs : List Represented) (p : PartialValue) → calls f vs (answers p) → PartHoldsNoExtensionValue p

-- nor do the functions of a world
abbrev pub GiveNoExtensionValue : Functions → Type 0
GiveNoExtensionValue ans =
    (f : Text) (vs : List AbstractValue) (v : AbstractValue) → ans f vs ≡ function_gives v → IsWithoutExtensions v

-- no function answers at all
abbrev pub NoneAnswers : StoredCalls → Type 0
NoneAnswers calls = (f : Text) (vs : List Represented) (a : Answer) → calls f vs a → ⊥

-- ---- it is faithful, whatever the functions of a world answer

-- a sound value
abbrev pub ValuesAreFaithful : Type 0
ValuesAreFaithful =
    (X : Extensions) (ans : Functions) (v : Represented) → IsSound v → HoldsNoExtensionValue v → IsFaithful X ans v

-- the values of a sound context
abbrev pub ContextsAreFaithful : Type 0
ContextsAreFaithful =
    (X : Extensions) (ans : Functions) (c : ContextPart) → IsSoundContext c → ContextHoldsNoExtensionValue c
    → IsFaithfulContext X ans c

-- those of a store of sound parts
abbrev pub StoresAreFaithful : Type 0
StoresAreFaithful =
    (X : Extensions) (ans : Functions) (s : Store) → EachStored IsSoundPart s → StoreHoldsNoExtensionValue s
    → EachStored (IsFaithfulPart X ans) s

-- those of a map of sound values
abbrev pub MapsAreFaithful : Type 0
MapsAreFaithful =
    (X : Extensions) (ans : Functions) (m : Mapping) → ((n : Text) (v : Represented) → m n ≡ Some v → IsSound v)
    → MapHoldsNoExtensionValue m → (n : Text) (v : Represented) → m n ≡ Some v → IsFaithful X ans v

-- and the value is written without an unknown and without a call
abbrev pub ValuesAreKnown : Type 0
ValuesAreKnown = (ans : Functions) (v : Represented) → HoldsNoExtensionValue v → IsKnown ans (expression_of v)

-- all that is given, where it is sound
abbrev pub GivenIsFaithful : StoredCalls → Type 0
GivenIsFaithful calls =
    (ans : Functions) (s : Setting) → IsGivenSound calls s → GivenHoldsNoExtensionValue s → HasFaithfulValues ans s

-- ---- functions

-- functions that answer sound parts without extension values answer faithfully
abbrev pub FunctionsAreFaithful : StoredCalls → Type 0
FunctionsAreFaithful calls =
    ((f : Text) (vs : List Represented) (p : PartialValue) → calls f vs (answers p) → IsSoundPart p)
    → AnswerNoExtensionValue calls → (X : Extensions) (ans : Functions) → AnswerFaithfully X ans calls

-- which they do where the functions of a world that agree with them give none
abbrev pub FunctionsAnswerAsAgreed : StoredCalls → Type 0
FunctionsAnswerAsAgreed calls =
    (ans : Functions) → AgreesWithFunctions ans calls → GiveNoExtensionValue ans → AnswerNoExtensionValue calls

-- where none answers, each premise on functions holds, whatever those of a world answer
abbrev pub NoFunctionOwes : StoredCalls → Type 0
NoFunctionOwes calls =
    NoneAnswers calls → AnswerNoExtensionValue calls × ((ans : Functions) → AgreesWithFunctions ans calls
    × ((X : Extensions) → AnswerFaithfully X ans calls))

-- ---- what is evaluated

-- where functions answer no extension value and the map has none, neither does a restricted expression answer one
abbrev pub RestrictedHoldsNoExtensionValue : StoredCalls → Type 0
RestrictedHoldsNoExtensionValue calls =
    (s : Setting) → AnswerNoExtensionValue calls → MapHoldsNoExtensionValue s.map → (t : Term) (p : PartialValue)
    → is_restricted t ≡ true
    → ((levels : ℕ) → Runs s calls levels t (answers p) → PartHoldsNoExtensionValue p)
    × (Allows s calls t (answers p) → PartHoldsNoExtensionValue p)
