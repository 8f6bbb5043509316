-- Computed datetimes and durations are faithful: the texts and functions by which they are written make them.
use Rattle.std.specs.Prelude.{◌≡◌, ℕ, List, [], ◌∷◌, Option, option_map, Some, codes}
use Rattle.std.specs.Prelude.{ℤ, pos, negsuc, ◌+ℤ◌, ◌≤ℤ◌, ◌<ℤ◌, FitsSigned}
use Rattle.std.specs.Int.{w64}
use Rattle.std.proofs.Common.{refl, sym, ◌∙◌, ap, arith}
use Rattle.std.proofs.lemmas.Int.{ints}
use Rattle.cedar_model.specs.Terms.{Text, text_literal}
use Rattle.cedar_model.specs.Values.{plain, extension_value}
use Rattle.cedar_model.specs.Outcomes.{text_of}
use Rattle.cedar_model.specs.World.{Extensions, Functions, FunctionAnswer, function_gives}
use Rattle.cedar_model.specs.Agreement.{IsFaithful}
use Rattle.cedar_datetime.specs.Datetime.{datetime_of}
use Rattle.cedar_datetime.specs.Duration.{duration_of, written}
use Rattle.cedar_datetime.specs.Keys.{key, value_of_key}
use Rattle.cedar_datetime.specs.Operations.{in_64_bits}
use Rattle.cedar_extension_values.specs.Arguments.{key_in, first_of, second_of}
use Rattle.cedar_extension_values.specs.Faithful.{IsThere, Makes, ConstructedAreFaithful, OffsetsAreFaithful}
use Rattle.cedar_extension_values.specs.FunctionLaws.{ConstructorsAskNothing, TwoKeyFunctionsAskNothing}
use Rattle.cedar_extension_values.specs.Functions.{needing, made_or_failed, made_by_constructor, Computing, AsksNothing}
use Rattle.cedar_extension_values.specs.Functions.{HasFunction}
use Rattle.cedar_extension_values.specs.Written.{epoch}
use Rattle.cedar_datetime_functions.specs.Names.{datetime_name, duration_name, offset_name}
use Rattle.cedar_datetime_functions.specs.Constructors.{datetime_key, datetime_made, duration_key, duration_made}
use Rattle.cedar_datetime_functions.specs.Numbers.{or_failed, made_of_numbers, made_if_within}
use Rattle.cedar_datetime_functions.specs.Numbers.{datetime_value, duration_value}
use Rattle.cedar_datetime_functions.specs.Operations.{offset_made}
use Rattle.cedar_datetime_functions.proofs.Outcomes.{numbers_ask, within_asks}

-- the laws of texts and keys, each as it is stated
abbrev pub AreRead : Type 0
AreRead = (z : ℤ) → FitsSigned w64 z → duration_of (written z) ≡ Some z

abbrev pub EpochIsRead : Type 0
EpochIsRead = datetime_of (codes "1970-01-01") ≡ Some (pos 0)

abbrev pub AreReadBack : Type 0
AreReadBack = (z : ℤ) → FitsSigned w64 z → value_of_key (key z) ≡ Some z

abbrev pub AreWithin : Type 0
AreWithin = (z : ℤ) → FitsSigned w64 z → in_64_bits (pos 0 +ℤ z) ≡ Some z

-- a function that is there and asks nothing never asks
is_there : (X : Extensions) (ans : Functions) (f : Text) (n : ℕ) (made : Computing) → AsksNothing made
    → HasFunction X ans f n made → IsThere X ans f n
is_there X ans f n made nothing has = record {
  takes = has.takes;
  never_asks = λ vs m t e. nothing vs m t (sym (has.computes vs) ∙ e);
}

-- a constructor that is there makes the value of a text's key
makes_key : (X : Extensions) (ans : Functions) (t text : Text) (key_of : Text → Option (List ℕ)) (k : List ℕ)
    → HasFunction X ans t 1 (made_by_constructor t key_of) → key_of text ≡ Some k → Makes X ans t text t k
unfolding text_of first_of needing made_or_failed
makes_key X ans t text key_of k has e = has.computes (plain (text_literal text) ∷ []) ∙ ap (made_or_failed t) e

makes_duration : AreRead → (X : Extensions) (ans : Functions) → HasFunction X ans duration_name 1 duration_made
    → (z : ℤ) → FitsSigned w64 z → Makes X ans duration_name (written z) duration_name (key z)
makes_duration read X ans has z small =
    makes_key X ans duration_name (written z) duration_key (key z) has (ap (option_map key) (read z small))

pub duration_faithful : ConstructedAreFaithful → ConstructorsAskNothing → AreRead → (X : Extensions) (ans : Functions)
    → HasFunction X ans duration_name 1 duration_made
    → (z : ℤ) → FitsSigned w64 z → IsFaithful X ans (duration_value z)
duration_faithful law nothing read X ans has z small =
    law X ans duration_name (written z) duration_name (key z)
    (is_there X ans duration_name 1 duration_made (nothing duration_name duration_key) has)
    (makes_duration read X ans has z small)

-- ---- datetimes, which are written by `offset`

pub offset_asks : TwoKeyFunctionsAskNothing → AsksNothing offset_made
offset_asks nothing =
    nothing datetime_name duration_name
    (made_of_numbers (λ z d. made_if_within datetime_name (in_64_bits (z +ℤ d))))
    (numbers_ask (λ z d. made_if_within datetime_name (in_64_bits (z +ℤ d)))
    (λ z d. within_asks datetime_name (in_64_bits (z +ℤ d))))

-- what the sum comes to, if each of the numbers is there
abbrev sum_of : Option ℤ → Option ℤ → FunctionAnswer
sum_of o p = or_failed o (λ z. or_failed p (λ d. made_if_within datetime_name (in_64_bits (z +ℤ d))))

-- what `offset` computes of two keys
of_two : (e d : List ℕ)
    → offset_made (extension_value datetime_name e ∷ extension_value duration_name d ∷ [])
    ≡ sum_of (value_of_key e) (value_of_key d)
unfolding needing key_in first_of second_of
of_two e d = refl

-- by which 1970 and a number make the number
from_epoch : AreReadBack → AreWithin → (z : ℤ) → FitsSigned w64 z
    → offset_made (extension_value datetime_name (key (pos 0)) ∷ extension_value duration_name (key z) ∷ [])
    ≡ function_gives (extension_value datetime_name (key z))
unfolding or_failed
from_epoch back within z small =
    let zero_fits : FitsSigned w64 (pos 0) = record { sfits = omega arith } in
    of_two (key (pos 0)) (key z)
    ∙ ap (λ o. sum_of o (value_of_key (key z))) (back (pos 0) zero_fits)
    ∙ ap (sum_of (Some (pos 0))) (back z small)
    ∙ ap (made_if_within datetime_name) (within z small)

pub datetime_faithful : OffsetsAreFaithful → ConstructorsAskNothing → TwoKeyFunctionsAskNothing
    → AreRead → EpochIsRead → AreReadBack → AreWithin
    → (X : Extensions) (ans : Functions)
    → HasFunction X ans datetime_name 1 datetime_made → HasFunction X ans duration_name 1 duration_made
    → HasFunction X ans offset_name 2 offset_made → (z : ℤ) → FitsSigned w64 z
    → IsFaithful X ans (datetime_value z)
datetime_faithful law nothing none_of_two read first back within X ans datetimes durations offsets z small =
    law X ans (written z) (key z) (key z) (key (pos 0))
    (is_there X ans datetime_name 1 datetime_made (nothing datetime_name datetime_key) datetimes)
    (is_there X ans duration_name 1 duration_made (nothing duration_name duration_key) durations)
    (is_there X ans offset_name 2 offset_made (offset_asks none_of_two) offsets)
    (makes_key X ans datetime_name epoch datetime_key (key (pos 0)) datetimes (ap (option_map key) first))
    (makes_duration read X ans durations z small)
    (offsets.computes (extension_value datetime_name (key (pos 0)) ∷ extension_value duration_name (key z) ∷ [])
    ∙ from_epoch back within z small)

-- a time of a day is within 64 bits
pub time_fits : (z : ℤ) → (pos 0 ≤ℤ z) × (z <ℤ pos 86_400_000) → FitsSigned w64 z
time_fits (pos n) h = record { sfits = omega (arith, ints, h.1) }
time_fits (negsuc n) h = absurd (omega (arith, ints, h.0))
