-- Which datetime a text writes, in milliseconds since 1970-01-01T00:00:00Z.
use Rattle.std.specs.Prelude.{ℕ, ◌+◌, ◌*◌, Bool, true, false, ◌&&◌, ◌==◌, if◌then◌else◌, nat_lt, List, [], ◌∷◌, length, drop, codes, Option, Some, None, ℤ, pos, neg_ℤ, ◌+ℤ◌, ◌-ℤ◌, ◌*ℤ◌}
use Rattle.std.specs.Char.{is_ascii_digit}
use Rattle.cedar_datetime.specs.Calendar.{day_of}
use Rattle.cedar_datetime.specs.Digits.{digit_at, two_digits}

-- in a form 0 stands for any digit, and any other byte for itself
abbrev pub is_byte_of : ℕ → ℕ → Bool
is_byte_of f c = if f == 48 then is_ascii_digit c else c == f

-- the text begins as the form says
unfoldable pub begins_as : List ℕ → List ℕ → Bool
begins_as [] bs = true
begins_as (f ∷ fs) [] = false
begins_as (f ∷ fs) (c ∷ cs) = is_byte_of f c && begins_as fs cs

-- and there is no more of it
abbrev pub has_form : List ℕ → List ℕ → Bool
has_form form bs = begins_as form bs && (length bs == length form)

-- the milliseconds of a day from its midnight to what a clock shows, which is below 24:00:00
unfoldable pub clock : ℕ → ℕ → ℕ → Option ℕ
clock hour minute second =
    if nat_lt hour 24 && (nat_lt minute 60 && nat_lt second 60)
    then Some (((hour * 60 + minute) * 60 + second) * 1000) else None

-- the parts of `0000-00-00`, `T00:00:00`, `.000` behind that, and `+0000`
unfoldable pub day_at : List ℕ → Option ℤ
day_at bs = day_of (two_digits 0 bs * 100 + two_digits 2 bs) (two_digits 5 bs) (two_digits 8 bs)

unfoldable pub clock_at : List ℕ → Option ℕ
clock_at bs = clock (two_digits 1 bs) (two_digits 4 bs) (two_digits 7 bs)

unfoldable pub thousandths_at : List ℕ → ℕ
thousandths_at bs = digit_at 10 bs * 100 + two_digits 11 bs

unfoldable pub offset_at : List ℕ → Option ℕ
offset_at bs = clock (two_digits 1 bs) (two_digits 3 bs) 0

-- how far local time is ahead of UTC, or behind it
abbrev pub ahead : Option ℕ → Option ℤ
ahead None = None
ahead (Some n) = Some (pos n)

abbrev pub behind : Option ℕ → Option ℤ
behind None = None
behind (Some n) = Some (neg_ℤ (pos n))

-- `Z`, `+hhmm` or `-hhmm`
unfoldable pub zone_of : List ℕ → Option ℤ
zone_of bs =
    if has_form (codes "Z") bs then Some (pos 0)
    else (if has_form (codes "+0000") bs then ahead (offset_at bs)
    else (if has_form (codes "-0000") bs then behind (offset_at bs) else None))

-- local time less how far it is ahead of UTC
unfoldable pub in_utc : Option ℕ → ℕ → Option ℤ → Option ℤ
in_utc None thousandths offset = None
in_utc (Some n) thousandths None = None
in_utc (Some n) thousandths (Some offset) = Some (pos (n + thousandths) -ℤ offset)

-- a time, perhaps with thousandths, and a zone
unfoldable pub zoned_time_of : List ℕ → Option ℤ
zoned_time_of bs =
    if begins_as (codes "T00:00:00.000") bs then in_utc (clock_at bs) (thousandths_at bs) (zone_of (drop 13 bs))
    else (if begins_as (codes "T00:00:00") bs then in_utc (clock_at bs) 0 (zone_of (drop 9 bs)) else None)

-- what stands behind a date: nothing, or that
unfoldable pub time_of : List ℕ → Option ℤ
time_of bs = if length bs == 0 then Some (pos 0) else zoned_time_of bs

-- the day's midnight, and the time behind it
unfoldable pub moment : Option ℤ → Option ℤ → Option ℤ
moment None time = None
moment (Some day) None = None
moment (Some day) (Some time) = Some (day *ℤ pos 86_400_000 +ℤ time)

-- the datetime that the text writes, if it writes one
abbrev pub datetime_of : List ℕ → Option ℤ
datetime_of bs = if begins_as (codes "0000-00-00") bs then moment (day_at bs) (time_of (drop 10 bs)) else None
