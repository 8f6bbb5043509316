-- The line of a log that tells a decision.
use Rattle.std.specs.Prelude.{⊤, ◌==◌, Bool, false, ℕ, suc, List, [], ◌++◌, Option, Some, None, if◌then◌else◌, codes}
use Rattle.std.specs.Option.{option_or}
use Rattle.json.specs.Json.{Json, null, boolean, number, string, array, object, Members, no_members, member}
use Rattle.json.specs.Find.{get, at}
use Rattle.json.specs.Print.{print}
use Rattle.json.specs.Tree.{json_tokens, HasNumbers}

abbrev pub Text : Type 0
Text = List ℕ

-- ---- JSON as text

-- a value as text, on one line and without a space
abbrev pub json_text : Json → Text
json_text j = print (json_tokens j)

-- the same of what there is, or `null`
abbrev pub found_text : Option Json → Text
found_text None = codes "null"
found_text (Some j) = json_text j

-- behind this, if there is one
abbrev pub optional_text : Text → Option Json → Text
optional_text before None = []
optional_text before (Some j) = before ++ json_text j

-- the same of a text
abbrev pub optional_quoted : Text → Option Text → Text
optional_quoted before None = []
optional_quoted before (Some t) = before ++ json_text (string t)

-- ---- where it stands in a document

-- the member of this name of what there is
abbrev pub within : Text → Option Json → Option Json
within name None = None
within name (Some j) = get name j

-- the item at this place of what there is
abbrev pub nth : ℕ → Option Json → Option Json
nth n None = None
nth n (Some j) = at n j

-- an item's own member, or else the whole document's
abbrev pub part : Text → Option Json → Json → Option Json
part name item whole = option_or (within name item) (get name whole)

abbrev pub member_count : Members → ℕ
member_count no_members = 0
member_count (member k j ms) = suc (member_count ms)

abbrev pub is_empty_object : Json → Bool
is_empty_object null = false
is_empty_object (boolean b) = false
is_empty_object (number s) = false
is_empty_object (string s) = false
is_empty_object (array js) = false
is_empty_object (object ms) = member_count ms == 0

-- but an object that has nothing
abbrev pub given : Option Json → Option Json
given None = None
given (Some j) = if is_empty_object j then None else Some j

-- the numbers of what there is are numbers, so that it can be written
abbrev pub HaveNumbers : Option Json → Type 0
HaveNumbers None = ⊤
HaveNumbers (Some j) = HasNumbers j

-- ---- what an evaluation asks, as Cedar's own request

-- with the properties that are given
abbrev pub properties_text : Option Json → Text
properties_text o = optional_text (codes ",\"properties\":") (given (within (codes "properties") o))

abbrev pub entity_text : Option Json → Text
entity_text o =
    codes "{\"type\":" ++ (found_text (within (codes "type") o) ++ (codes ",\"id\":"
    ++ (found_text (within (codes "id") o) ++ (properties_text o ++ codes "}"))))

abbrev pub action_text : Option Json → Text
action_text o =
    codes "{\"type\":\"Action\",\"id\":" ++ (found_text (within (codes "name") o) ++ (properties_text o ++ codes "}"))

-- the context that is given; without one, the empty one
abbrev pub context_text : Option Json → Text
context_text None = codes "{}"
context_text (Some j) = json_text j

-- who does what
abbrev pub who_text : Option Json → Json → Text
who_text item whole =
    codes "{\"principal\":" ++ (entity_text (part (codes "subject") item whole) ++ (codes ",\"action\":"
    ++ action_text (part (codes "action") item whole)))

-- and to what, in which context, with which entities
abbrev pub what_text : Option Json → Json → Text
what_text item whole =
    codes ",\"resource\":" ++ (entity_text (part (codes "resource") item whole) ++ (codes ",\"context\":"
    ++ (context_text (part (codes "context") item whole)
    ++ (optional_text (codes ",\"entities\":") (part (codes "entities") item whole) ++ codes "}"))))

abbrev pub request_text : Option Json → Json → Text
request_text item whole = who_text item whole ++ what_text item whole

-- ---- lines

-- the version of what decided, and the id that the request brought
abbrev pub stamp_text : Option Text → Option Text → Text
stamp_text version id =
    optional_quoted (codes ",\"version\":") version ++ optional_quoted (codes ",\"requestId\":") id

-- a request, and the answer to it, which has the decision
abbrev pub decision_line : Text → Text → Text → Text
decision_line stamp request answer =
    codes "{\"request\":" ++ (request ++ (codes ",\"answer\":" ++ (answer ++ (stamp ++ codes "}\n"))))

-- what was asked at another path, and the answer to it
abbrev pub other_line : Text → Text → Text → Text → Text
other_line stamp path asked answer =
    codes "{\"path\":" ++ (json_text (string path) ++ (codes ",\"asked\":" ++ (asked ++ (codes ",\"answer\":"
    ++ (answer ++ (stamp ++ codes "}\n"))))))
