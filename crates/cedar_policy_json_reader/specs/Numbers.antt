-- The numbers that are longs.
use Rattle.std.specs.Prelude.{ℕ, ℤ, Bool, ◌&&◌, if◌then◌else◌, length, nat_lt, Option, Some, None, codes, bytes_eq}
use Rattle.std.specs.List.{list_all}
use Rattle.std.specs.Char.{digit_value}
use Rattle.std.specs.Str.Parse.{without_leading_sign, signed_digits_value}
use Rattle.std.specs.Option.{option_and_then}
use Rattle.json.specs.Json.{Json}
use Rattle.json.specs.Find.{as_number}
use Rattle.cedar_model.specs.Terms.{Text}
use Rattle.cedar_model.specs.Outcomes.{is_long}

abbrev pub is_digit : ℕ → Bool
is_digit b = nat_lt (digit_value b) 10

-- a digit or more, and nothing else
abbrev pub are_digits : Text → Bool
are_digits t = nat_lt 0 (length t) && list_all is_digit t

-- digits behind a sign or none, of a number that 64 bits hold
abbrev pub is_long_text : Text → Bool
is_long_text t = are_digits (without_leading_sign t) && is_long (signed_digits_value 10 t)

-- the long that the text writes, zero with a sign among them
abbrev pub signed_long_of_text : Text → Option ℤ
signed_long_of_text t = if is_long_text t then Some (signed_digits_value 10 t) else None

-- zero with a sign, which is no integer: only numbers with a fraction have two zeros
abbrev pub is_signed_zero : Text → Bool
is_signed_zero t = bytes_eq t (codes "-0")

-- the long that the text writes
abbrev pub long_of_text : Text → Option ℤ
long_of_text t = if is_signed_zero t then None else signed_long_of_text t

-- the long that a number writes
abbrev pub long_in : Json → Option ℤ
long_in j = option_and_then long_of_text (as_number j)
