-- Sums of amounts that may be too large.
use Rattle.std.specs.Prelude.{ℕ, ◌+◌, ◌*◌, Option, Some, None}
use Rattle.cedar_datetime.specs.Duration.{capped}

-- so much of a unit and the rest, where neither is too large, nor the sum
abbrev pub summed : Option ℕ → ℕ → Option ℕ → Option ℕ
summed None unit rest = None
summed (Some n) unit None = None
summed (Some n) unit (Some rest) = capped (n * unit + rest)
