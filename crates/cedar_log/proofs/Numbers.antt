-- The numbers of what is found in a value.
use Rattle.std.proofs.Common.{◌≡◌, ℕ, Option, Some, None}
use Rattle.json.specs.Json.{Json}
use Rattle.json.specs.Find.{get, at}
use Rattle.json.specs.Tree.{HasNumbers}
use Rattle.json.proofs.Numbered.{HasNumbers-get, HasNumbers-at}
use Rattle.cedar_log.specs.Lines.{Text, HaveNumbers}

pub numbers_at : (n : ℕ) (j : Json) (o : Option Json) → HasNumbers j → o ≡ at n j → HaveNumbers o
numbers_at n j None h e = tt
numbers_at n j (Some part) h e = HasNumbers-at n j part h e

pub numbers_in : (k : Text) (j : Json) (o : Option Json) → HasNumbers j → o ≡ get k j → HaveNumbers o
numbers_in k j None h e = tt
numbers_in k j (Some part) h e = HasNumbers-get k j part h e

pub ruleset numbers = (numbers_at, numbers_in)
