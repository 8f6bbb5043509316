-- What is written of a text.
use Rattle.std.specs.Prelude.{◌≡◌, ℕ, List, ◌++◌, Option}
use Rattle.std.specs.Io.KnownBytes.{Appends}

-- a first part of the text is appended, and nothing else: all of it, some, or none
pub record AppendsPart (before after : Option (List ℕ)) (text : List ℕ) : Type 0 where
  pub some : List ℕ
  pub rest : List ℕ
  pub split : text ≡ some ++ rest
  pub appended : Appends before after some
