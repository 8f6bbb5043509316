-- Cedar's own requests, a line each.
use Rattle.std.specs.Prelude.{◌<◌, ◌⊎◌, ℕ, List, [], ◌∷◌, ◌++◌, Bool, true, false, Option, IfSome, ◌≡◌, length, codes, string_bytes}
use Rattle.std.specs.Io.{StopsAt}
use Rattle.std.specs.Io.BufRead.{take_through}
use Rattle.std.specs.Io.KnownBytes.{Appends, Consumes, Keeps, IsAtEnd}
use Rattle.cedar_writes.specs.Parts.{AppendsPart}
use Rattle.cedar_endpoints.specs.declared.replies.Reply.{Reply}
use Rattle.cedar_endpoints.specs.Asked.{Text}
use Rattle.cedar_endpoints.specs.Served.{IsAuthorized}
use Rattle.cedar_endpoints.specs.Several.{Decides}

-- the bytes that a reader has left, or that a writer holds, where they are known
abbrev pub Known : Type 0
Known = Option Text

-- the line is what comes next: all up to the end of a line, or all that is left
pub record TakesLine (before after : Known) (line : Text) : Type 0 where
  pub some : 0 < length line
  pub stops : StopsAt line 10
  pub consumed : Consumes before after line
  pub whole : IfSome before (λ xs. line ≡ take_through 10 xs)

-- the response to the request that the line is, or what is wrong with it, on a line
abbrev pub IsLineAnswer : Decides Text → Text → Text → Type 0
IsLineAnswer authorizes line answer =
    (r : Reply) × IsAuthorized authorizes line r × (answer ≡ string_bytes r.body ++ codes "\n")

-- lines are taken one after another, and after each its answer is written
pub data AreLinesAnswered (authorizes : Decides Text) (reader writer : Known)
    : List Text → List Text → Known → Known → Type 0 where
  no_line : AreLinesAnswered authorizes reader writer [] [] reader writer
  one_more : {lines answers : List Text} {s t v w : Known} {line answer : Text}
      → AreLinesAnswered authorizes reader writer lines answers s v → TakesLine s t line
      → IsLineAnswer authorizes line answer → Appends v w answer
      → AreLinesAnswered authorizes reader writer (lines ++ line ∷ []) (answers ++ answer ∷ []) t w

-- so it is with all lines up to the end, and nothing else is written
pub record AreAllAnswered (authorizes : Decides Text) (reader writer last : Known) : Type 0 where
  pub lines : List Text
  pub answers : List Text
  pub at_end : Known
  pub held : Known
  pub answered : AreLinesAnswered authorizes reader writer lines answers at_end held
  pub is_end : IsAtEnd at_end
  pub kept : Keeps held last

-- of the answer to the next line at most a first part is written: nothing, or a first part of the answer to the line that
-- is taken
pub data IsCutShort (authorizes : Decides Text) (reader writer last : Known) : Type 0 where
  nothing_more : Keeps writer last → IsCutShort authorizes reader writer last
  first_part : {t : Known} {line answer : Text} → TakesLine reader t line → IsLineAnswer authorizes line answer
      → AppendsPart writer last answer → IsCutShort authorizes reader writer last

-- so it is with the lines up to some line, and of the answer to the next one at most a first part is written
pub record AreSomeAnswered (authorizes : Decides Text) (reader writer last : Known) : Type 0 where
  pub lines : List Text
  pub answers : List Text
  pub left : Known
  pub held : Known
  pub answered : AreLinesAnswered authorizes reader writer lines answers left held
  pub cut : IsCutShort authorizes left held last

-- ---- for private clauses

-- one line is taken and answered; or it is the end, and nothing is written
abbrev pub IsLineStep : Decides Text → Known → Known → Bool → Known → Known → Type 0
IsLineStep authorizes r w true s v =
    (line : Text) × (answer : Text) × TakesLine r s line × IsLineAnswer authorizes line answer × Appends w v answer
IsLineStep authorizes r w false s v = IsAtEnd r × Keeps w v

-- the answer to the line is written
abbrev pub WritesAnswer : Decides Text → Text → Known → Known → Type 0
WritesAnswer authorizes line w v = (answer : Text) × IsLineAnswer authorizes line answer × Appends w v answer

-- nothing is written, or a first part of the answer to the line
abbrev pub WritesPart : Decides Text → Text → Known → Known → Type 0
WritesPart authorizes line w v =
    Keeps w v ⊎ ((answer : Text) × IsLineAnswer authorizes line answer × AppendsPart w v answer)
