-- The days of the years 0000 to 9999, by the proleptic Gregorian calendar.
use Rattle.std.specs.Prelude.{◌≡◌, ℕ, ◌<◌, ◌⊎◌, Bool, ◌&&◌, if◌then◌else◌, nat_le, Option, Some, None, ℤ, pos}
use Rattle.jiff_core.specs.Calendar.{days_in_month, days_from_civil}

-- the calendar has this day
abbrev pub is_day : ℕ → ℕ → ℕ → Bool
is_day year month day =
    nat_le year 9999
    && (nat_le 1 month && (nat_le month 12 && (nat_le 1 day && nat_le day (days_in_month (pos year) month))))

-- the number of a day, 0 for 1970-01-01 and negative before it; `days_from_civil` counts years, months and days
abbrev pub day_of : ℕ → ℕ → ℕ → Option ℤ
day_of year month day = if is_day year month day then Some (days_from_civil (pos year) month day) else None

-- a day comes before another: by the year, then the month, then the day of the month
abbrev pub IsBefore : ℕ → ℕ → ℕ → ℕ → ℕ → ℕ → Type 0
IsBefore year month day year₂ month₂ day₂ =
    (year < year₂) ⊎ ((year ≡ year₂) × ((month < month₂) ⊎ ((month ≡ month₂) × (day < day₂))))
