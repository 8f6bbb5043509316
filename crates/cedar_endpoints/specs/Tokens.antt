-- Tokens of pages: the version, and behind how many candidates the page begins.
use Rattle.std.specs.Prelude.{◌≡◌, ◌++◌, ◌<◌, ℕ, [], Option, Some, None, codes}
use Rattle.std.specs.Fmt.{decimal}
use Rattle.cedar_endpoints.specs.Asked.{Text}

abbrev pub token_text : Text → ℕ → Text
token_text version n = version ++ (codes "-" ++ decimal n)

-- the next page's token; none is empty
abbrev pub next_text : Text → Option ℕ → Text
next_text version None = []
next_text version (Some n) = token_text version n

-- it is the token of this version for the page behind so many of so many candidates
pub record IsToken (version : Text) (size : ℕ) (t : Text) (n : ℕ) : Type 0 where
  pub same : t ≡ token_text version n
  pub within : n < size

-- behind how many candidates its page begins; none, where it is no token of this version
abbrev pub IsPlace : Text → ℕ → Text → Option ℕ → Type 0
IsPlace version size t (Some n) = IsToken version size t n
IsPlace version size t None = (n : ℕ) → ¬ IsToken version size t n
