-- Reading the name of an entity back from its text: the type, two colons, and the id in quotes.
use Rattle.std.specs.Prelude.{◌≡◌, ℕ, ◌==◌, Bool, true, false, cond, [], ◌∷◌, Option, Some, None}
use Rattle.cedar_model.specs.Terms.{Text, EntityName}
use Rattle.cedar_model.specs.Settings.{printed_entity}

-- the text without its backslashes and without the quote at its end; the test says whether a backslash was just met
unfoldable pub unquoted : Bool → Text → Text
unquoted true [] = []
unquoted true (b ∷ bs) = b ∷ unquoted false bs
unquoted false [] = []
unquoted false (b ∷ []) = []
unquoted false (b ∷ c ∷ cs) = cond (b == 92) (unquoted true (c ∷ cs)) (b ∷ unquoted false (c ∷ cs))

-- an id in quotes stands here: two colons and a quote, and more after it
unfoldable pub id_here : Text → Option Text
id_here [] = None
id_here (b ∷ []) = None
id_here (b ∷ c ∷ []) = None
id_here (b ∷ c ∷ d ∷ []) = None
id_here (b ∷ c ∷ d ∷ e ∷ es) =
    cond (b == 58) (cond (c == 58) (cond (d == 34) (Some (unquoted false (e ∷ es))) None) None) None

unfoldable pub with_byte : ℕ → Option EntityName → Option Text → Option EntityName
with_byte b (Some e) id = Some record { type_name = b ∷ e.type_name; id = e.id }
with_byte b None (Some id) = Some record { type_name = []; id = id }
with_byte b None None = None

-- the entity whose text this is: the id stands after the last such place
unfoldable pub read_entity : Text → Option EntityName
read_entity [] = None
read_entity (b ∷ bs) = with_byte b (read_entity bs) (id_here (b ∷ bs))

-- an entity's name is read back from its text
abbrev pub PrintedEntitiesComeBack : Type 0
PrintedEntitiesComeBack = (e : EntityName) → read_entity (printed_entity e) ≡ Some e

-- so no two entities print alike
abbrev pub PrintingIsInjective : Type 0
PrintingIsInjective = (d e : EntityName) → printed_entity d ≡ printed_entity e → d ≡ e
