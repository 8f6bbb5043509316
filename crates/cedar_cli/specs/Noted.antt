-- Positions that are noted of a text.
use Rattle.std.specs.Prelude.{◌≡◌, ◌≤◌, ℕ, List, length, min}
use Rattle.cedar_text_lexer.specs.declared.show.Position.{Position}
use Rattle.cedar_text_lexer.specs.Positions.{position_of}

-- it is where its byte of the text stands
abbrev pub IsOf : List ℕ → Position → Type 0
IsOf text p = (p.at ≤ length text) × (p ≡ position_of text p.at)

-- the line and the column where the byte stands: of a text with fewer bytes, its end
abbrev pub place_at : List ℕ → ℕ → ℕ × ℕ
place_at text at =
    let p = position_of text (min at (length text)) in
    (p.line, p.column)
