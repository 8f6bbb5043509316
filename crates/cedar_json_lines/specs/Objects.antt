-- One member more in an object that stands on a line.
use Rattle.std.specs.Prelude.{◌≡◌, ◌≢◌, ◌++◌, List, [], ◌∷◌, Option, Some, None, codes}
use Rattle.json.specs.Json.{Json, string}
use Rattle.json.specs.Print.{print}
use Rattle.json.specs.Tree.{json_tokens}
use Rattle.cedar_model.specs.Terms.{Text}
use Rattle.cedar_json_writer.specs.Texts.{object_of}

-- the object of these members, on a line
abbrev pub object_line : List (Text × Json) → Text
object_line ms = print (json_tokens (object_of ms)) ++ codes "\n"

-- of a line of some members: these, and one more behind them
abbrev pub IsOneMore : Text → Text → Json → Text → Type 0
IsOneMore line key j s =
    (m : Text × Json) (ms : List (Text × Json)) → line ≡ object_line (m ∷ ms)
    → s ≡ object_line (m ∷ ms ++ (key, j) ∷ [])

-- ---- for private clauses

-- what stands before the end of the object and of the line; nothing, where they don't end it
abbrev pub IsFront : Text → Option Text → Type 0
IsFront line None = (front : Text) → line ≢ front ++ codes "}\n"
IsFront line (Some front) = line ≡ front ++ codes "}\n"

-- the member as it stands behind others, with the end of the object and of the line
abbrev pub behind : Text → Json → Text
behind key j =
    codes "," ++ (print (json_tokens (string key)) ++ (codes ":" ++ (print (json_tokens j) ++ codes "}\n")))
