-- Pages of what is permitted.
use Rattle.std.specs.Prelude.{◌≡◌, ◌≤◌, ◌<◌, ◌++◌, ⊤, ℕ, List, [], ◌∷◌, Option, Some, None, IfSome, drop, length}
use Rattle.cedar_model.specs.Terms.{EntityName}
use Rattle.cedar_search.specs.declared.pages.Page as rust
use Rattle.cedar_search.specs.Questions.{Question, names_of}
use Rattle.cedar_search.specs.Found.{AreThePermitted}

-- what was found, and behind how many candidates the next page begins
pub record Page : Type 0 where
  pub found : List EntityName
  pub next : Option ℕ

abbrev pub page_made : List EntityName → Option ℕ → Page
page_made found next = record { found = found; next = next }

abbrev pub page_view : rust.Page → Page
page_view p = page_made (names_of p.found.items) p.next

-- the candidates from there on; none, where no page is next
abbrev pub from_next : List EntityName → Option ℕ → List EntityName
from_next es None = []
from_next es (Some n) = drop n es

-- a page of so many at most, behind so many candidates: what is permitted of those up to the next page. It is full
-- where there is a next one, of which there is a candidate
pub record IsPage (q : Question) (es : List EntityName) (after count : ℕ) (p : Page) : Type 0 where
  pub here : List EntityName
  pub split : drop after es ≡ here ++ from_next es p.next
  pub permitted : AreThePermitted q here p.found
  pub within : length p.found ≤ count
  pub full : IfSome p.next (λ n. length p.found ≡ count)
  pub left : IfSome p.next (λ n. n < length es)

-- pages, each of which begins where the one before it says, until none is next
abbrev pub ArePages : Question → List EntityName → Option ℕ → List Page → Type 0
ArePages q es None [] = ⊤
ArePages q es None (p ∷ ps) = ⊥
ArePages q es (Some after) [] = ⊥
ArePages q es (Some after) (p ∷ ps) = (count : ℕ) × IsPage q es after count p × ArePages q es p.next ps

-- what the pages have, one after the other
abbrev pub found_in : List Page → List EntityName
found_in [] = []
found_in (p ∷ ps) = p.found ++ found_in ps
