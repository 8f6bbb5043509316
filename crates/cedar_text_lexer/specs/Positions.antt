-- Lines and columns.
use Rattle.std.specs.Prelude.{◌≡◌, ◌++◌, length, codes, decimal, ℕ, ◌+◌, Bool, ◌==◌, ◌&&◌, nat_le, nat_lt, if◌then◌else◌, List, map, take}
use Rattle.std.specs.Str.{chars}
use Rattle.std.specs.List.{fold}
use Rattle.cedar_text_lexer.specs.declared.show.Position.{Position}

-- the byte goes on with a character that another began
abbrev pub goes_on : ℕ → Bool
goes_on b = nat_le 128 b && nat_lt b 192

-- where the byte behind this one stands: behind `\n` a line begins, and behind each other character a column
abbrev pub behind : Position → ℕ → Position
behind p b =
    if b == 10 then record { at = p.at + 1; line = p.line + 1; column = 1; start = p.at + 1 } else (
    if goes_on b then record p { at = p.at + 1 } else
    record p { at = p.at + 1; column = p.column + 1 })

-- where byte number `at` of the text stands; lines and columns are counted from 1
unfoldable pub position_of : List ℕ → ℕ → Position
position_of text at = fold behind (record { at = 0; line = 1; column = 1; start = 0 }) (take at text)

-- the line that says where the text can't be read, and why
abbrev pub headline_of : Position → List ℕ → List ℕ
headline_of p why =
    codes "line " ++ (decimal p.line ++ (codes ", column " ++ (decimal p.column ++ (codes ": " ++ why))))

-- what stands under a character: the mark, and under a tab a tab
abbrev pub mark_for : ℕ → ℕ → ℕ
mark_for mark c = if c == 9 then 9 else mark

-- what stands under a text
unfoldable pub marks_under : ℕ → List ℕ → List ℕ
marks_under mark text = map (mark_for mark) (chars text)

-- these bytes begin with those
abbrev pub BeginsWith : List ℕ → List ℕ → Type 0
BeginsWith bytes first = take (length first) bytes ≡ first
