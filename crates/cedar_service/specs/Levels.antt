-- How high what is read may be.
use Rattle.std.specs.Prelude.{ℕ}

-- how many levels a text may have
abbrev pub levels : ℕ
levels = 4000
