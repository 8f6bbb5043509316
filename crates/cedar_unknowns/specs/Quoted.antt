-- Reading the id of an entity out of the text of the entity.
use Rattle.std.specs.Prelude.{◌≡◌, ◌≢◌, ◌==◌, Bool, true, false, cond, [], ◌∷◌, ◌++◌, Option, Some, None, codes}
use Rattle.cedar_model.specs.Terms.{Text, EntityName}

-- the text without the backslashes that stand before other bytes; the test says whether one was just met
unfoldable pub unescaped : Bool → Text → Text
unescaped escaped [] = []
unescaped true (b ∷ bs) = b ∷ unescaped false bs
unescaped false (b ∷ bs) = cond (b == 92) (unescaped true bs) (b ∷ unescaped false bs)

-- the entity of this type whose id stands so between quotes
abbrev pub entity_quoted : Text → Text → EntityName
entity_quoted ty quoted = record { type_name = ty; id = unescaped false quoted }

-- a text that begins with these bytes, without them; `None` where it doesn't
abbrev pub IsWithoutPrefix : Text → Text → Option Text → Type 0
IsWithoutPrefix prefix text None = (rest : Text) → text ≢ prefix ++ rest
IsWithoutPrefix prefix text (Some rest) = text ≡ prefix ++ rest

-- one that ends with these
abbrev pub IsWithoutSuffix : Text → Text → Option Text → Type 0
IsWithoutSuffix suffix text None = (front : Text) → text ≢ front ++ suffix
IsWithoutSuffix suffix text (Some front) = text ≡ front ++ suffix

-- what stands between both; `None` where it is no such text
abbrev pub IsBetween : Text → Text → Text → Option Text → Type 0
IsBetween prefix suffix text None = (inside : Text) → text ≢ prefix ++ (inside ++ suffix)
IsBetween prefix suffix text (Some inside) = text ≡ prefix ++ (inside ++ suffix)

-- the type, two colons, and this between quotes
abbrev pub quoted_behind : Text → Text → Text
quoted_behind ty quoted = ty ++ (codes "::\"" ++ (quoted ++ codes "\""))

-- what stands between the quotes of such a text; `None` where it is none
abbrev pub IsQuotedId : Text → Text → Option Text → Type 0
IsQuotedId ty text None = (quoted : Text) → text ≢ quoted_behind ty quoted
IsQuotedId ty text (Some quoted) = text ≡ quoted_behind ty quoted
