-- Days by their numbers.
use Rattle.std.proofs.Common.{◌≡◌, ℕ, ◌+◌, ◌<◌, ◌≤◌, ◌⊎◌, inl, inr, Bool, true, false, cond, nat_le, Some, None, refl, ap, ◌∙◌, arith, ℤ, pos, ◌+ℤ◌, ◌<ℤ◌, leb-true, le-leb}
use Rattle.std.proofs.lemmas.Bool.{and_from, and_parts, cases_lt}
use Rattle.jiff_core.specs.Calendar.{days_in_month, days_from_civil, day_count, IsCivilDate}
use Rattle.jiff_core.proofs.SignedLemmas.{signed_arith}
use Rattle.jiff_core.proofs.StandardFacts.{known_days}
use Rattle.jiff_core.proofs.CalendarLemmas.{days_in_month_bounds, days_from_civil-day_count, day_count-lt_year, day_count-lt_month, day_count-day}
use Rattle.jiff_core.proofs.DateLemmas.{days_from_civil-day, days_from_civil-next_month, days_from_civil-next_year}
use Rattle.cedar_datetime.specs.Calendar.{is_day, day_of, IsBefore}

-- what the test of a day says
record IsDay (y m d : ℕ) : Type 0 where
  year : y ≤ 9999
  month : 1 ≤ m
  last_month : m ≤ 12
  day : 1 ≤ d
  last_day : d ≤ days_in_month (pos y) m

tested : (y m d : ℕ) → is_day y m d ≡ true → IsDay y m d
tested y m d h =
    let a = and_parts (nat_le y 9999) _ h in
    let b = and_parts (nat_le 1 m) _ a.1 in
    let e = and_parts (nat_le m 12) _ b.1 in
    let f = and_parts (nat_le 1 d) _ e.1 in
    record { year = leb-true y 9999 a.0; month = leb-true 1 m b.0; last_month = leb-true m 12 e.0; day = leb-true 1 d f.0; last_day = leb-true d _ f.1 }

test : (y m d : ℕ) → IsDay y m d → is_day y m d ≡ true
test y m d h =
    and_from (nat_le y 9999) _ (le-leb y 9999 h.year)
    (and_from (nat_le 1 m) _ (le-leb 1 m h.month)
    (and_from (nat_le m 12) _ (le-leb m 12 h.last_month)
    (and_from (nat_le 1 d) _ (le-leb 1 d h.day) (le-leb d _ h.last_day))))

-- a day that has a number is one of the calendar, and that is its number
numbered : (y m d : ℕ) (n : ℤ) → day_of y m d ≡ Some n → IsDay y m d × (days_from_civil (pos y) m d ≡ n)
numbered y m d n e = by (is_day y m d) refl e
  where
    by : (b : Bool) → is_day y m d ≡ b → cond b (Some (days_from_civil (pos y) m d)) None ≡ Some n → IsDay y m d × (days_from_civil (pos y) m d ≡ n)
    by true i e = (tested y m d i, cc)
    by false i e = absurd (cc)

number : (y m d : ℕ) (n : ℤ) → IsDay y m d → days_from_civil (pos y) m d ≡ n → day_of y m d ≡ Some n
number y m d n h e = ap (λ b. cond b (Some (days_from_civil (pos y) m d)) None) (test y m d h) ∙ ap Some e

civil : (y m d : ℕ) → IsDay y m d → IsCivilDate (pos y) m d
civil y m d h = ((omega (arith, signed_arith), omega (arith, signed_arith)), (h.month, h.last_month), (h.day, h.last_day))

pub epoch : day_of 1970 1 1 ≡ Some (pos 0)
epoch = ap Some known_days.0

pub next_day : (y m d : ℕ) (n : ℤ) → day_of y m d ≡ Some n → is_day y m (d + 1) ≡ true → day_of y m (d + 1) ≡ Some (n +ℤ pos 1)
next_day y m d n e t =
    let h = numbered y m d n e in
    number y m (d + 1) (n +ℤ pos 1) (tested y m (d + 1) t)
    (let s = days_from_civil-day (pos y) m d (d + 1) h.0.day (omega arith) in omega (arith, signed_arith))

-- a day behind which there is none in its month is the last of it
last : (y m d : ℕ) → IsDay y m d → is_day y m (d + 1) ≡ false → d ≡ days_in_month (pos y) m
last y m d h t = by (cases_lt d (days_in_month (pos y) m))
  where
    by : (d < days_in_month (pos y) m) ⊎ (days_in_month (pos y) m ≤ d) → d ≡ days_in_month (pos y) m
    by (inl more) =
        let there : is_day y m (d + 1) ≡ true = test y m (d + 1) (record { year = h.year; month = h.month; last_month = h.last_month; day = omega arith; last_day = omega (arith, more) }) in
        absurd (cc)
    by (inr none) = omega (arith, none, h.last_day)

pub next_month : (y m d : ℕ) (n : ℤ) → day_of y m d ≡ Some n → is_day y m (d + 1) ≡ false → m < 12 → day_of y (m + 1) 1 ≡ Some (n +ℤ pos 1)
next_month y m d n e t before =
    let h = numbered y m d n e in
    let some = days_in_month_bounds (pos y) (m + 1) in
    number y (m + 1) 1 (n +ℤ pos 1)
    (record { year = h.0.year; month = omega arith; last_month = omega arith; day = omega arith; last_day = omega (arith, some) })
    (days_from_civil-next_month (pos y) m d h.0.month (last y m d h.0 t) ∙ ap (λ z. z +ℤ pos 1) h.1)

pub next_year : (y : ℕ) (n : ℤ) → day_of y 12 31 ≡ Some n → y < 9999 → day_of (y + 1) 1 1 ≡ Some (n +ℤ pos 1)
next_year y n e before =
    let h = numbered y 12 31 n e in
    let some = days_in_month_bounds (pos (y + 1)) 1 in
    number (y + 1) 1 1 (n +ℤ pos 1)
    (record { year = omega arith; month = omega arith; last_month = omega arith; day = omega arith; last_day = omega (arith, some) })
    (days_from_civil-next_year (pos y) (pos (y + 1)) (omega (arith, signed_arith)) refl ∙ ap (λ z. z +ℤ pos 1) h.1)

-- a day that comes before another has fewer days before it
fewer : (y m d y₂ m₂ d₂ : ℕ) → IsDay y m d → IsDay y₂ m₂ d₂ → IsBefore y m d y₂ m₂ d₂ → day_count (pos y) m d < day_count (pos y₂) m₂ d₂
fewer y m d y₂ m₂ d₂ h k (inl year) = day_count-lt_year _ m d _ m₂ d₂ (civil y m d h) k.day (omega (arith, signed_arith))
fewer y m d y₂ m₂ d₂ h k (inr (year, inl month)) =
    rw (← year) (day_count-lt_month (pos y) m d m₂ d₂ (civil y m d h) k.day month)
fewer y m d y₂ m₂ d₂ h k (inr (year, inr (month, day))) =
    rw (← year, ← month) (omega (arith, day, day_count-day (pos y) m d d₂ h.day k.day))

pub in_order : (y m d y₂ m₂ d₂ : ℕ) (a b : ℤ) → day_of y m d ≡ Some a → day_of y₂ m₂ d₂ ≡ Some b → IsBefore y m d y₂ m₂ d₂ → a <ℤ b
in_order y m d y₂ m₂ d₂ a b e f before =
    let h = numbered y m d a e in
    let k = numbered y₂ m₂ d₂ b f in
    let less : day_count (pos y) m d < day_count (pos y₂) m₂ d₂ = fewer y m d y₂ m₂ d₂ h.0 k.0 before in
    rw (← h.1, ← k.1) (omega (arith, signed_arith, days_from_civil-day_count, less))
