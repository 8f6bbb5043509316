-- Explanations as JSON values, part by part.
use Rattle.std.specs.Prelude.{◌≡◌, ⊤, ◌++◌, ℕ, min, pos, Bool, true, false, List, [], ◌∷◌, map, Option, Some, None, codes}
use Rattle.std.specs.Fmt.{signed_decimal}
use Rattle.json.specs.Json.{Json, string, number, boolean, array}
use Rattle.json.specs.Value.{items_of}
use Rattle.cedar_model.specs.Terms.{Text, Term}
use Rattle.cedar_model.specs.World.{Slots}
use Rattle.cedar_model.specs.Agreement.{no_slots}
use Rattle.cedar_model.specs.Failures.{Answer}
use Rattle.cedar_names.specs.declared.names.Loc.{Loc}
use Rattle.cedar_layers.specs.Policies.{policy_view, policy_location}
use Rattle.cedar_text_printer.specs.Policies.{effect_text}
use Rattle.cedar_text_printer.specs.Texts.{written}
use Rattle.cedar_json_writer.specs.Texts.{object_of}
use Rattle.cedar_places.specs.Noted.{place_at}
use Rattle.cedar_explain.specs.declared.lacks.Lack.{Lack}
use Rattle.cedar_explain.specs.declared.parts.Part.{Part}
use Rattle.cedar_explain.specs.declared.requests.ExplainedPolicy.{ExplainedPolicy}
use Rattle.cedar_explain.specs.Explained.{Told}
use Rattle.cedar_explain.specs.Views.{part_told, part_place, explained_parts, told_outcome}
use Rattle.cedar_explain.specs.Requests.{explained_policy, explanation_of, its_view}
use Rattle.cedar_explain.specs.Lacking.{lacking_policy, lacking_part, lacking_truth}
use Rattle.cedar_explain_printer.specs.Names.{annotated}
use Rattle.cedar_explain_json.specs.Operands.{operands}
use Rattle.cedar_explain_json.specs.Words.{policy_outcome, part_outcome, answer_member}

-- ---- members

-- a count; of more than a long holds, the greatest long
abbrev pub count_json : ℕ → Json
count_json n = number (signed_decimal (pos (min n 9223372036854775807)))

-- line and column of the place in the text, if the place is known
abbrev pub place_members : Text → Option Loc → List (Text × Json)
place_members text None = []
place_members text (Some l) =
    (codes "line", count_json (place_at text l.start).0) ∷ (codes "column", count_json (place_at text l.start).1) ∷ []

-- what a policy is called, if it is
abbrev pub name_members : Option Text → List (Text × Json)
name_members None = []
name_members (Some name) = (codes "name", string name) ∷ []

-- an expression as Cedar's text
abbrev pub text_member : Term → Text × Json
text_member t = (codes "text", string (written no_slots t))

abbrev pub id_member : Text → Text × Json
id_member id = (codes "policyId", string id)

-- ---- lists

-- one value each, in order
abbrev pub AreEach : {A : Type 0} → (A → Json → Type 0) → List A → List Json → Type 0
AreEach Is [] [] = ⊤
AreEach Is [] (j ∷ js) = ⊥
AreEach Is (a ∷ rest) [] = ⊥
AreEach Is (a ∷ rest) (j ∷ js) = Is a j × AreEach Is rest js

-- an array of them
abbrev pub IsArrayOf : {A : Type 0} → (A → Json → Type 0) → List A → Json → Type 0
IsArrayOf Is xs j = (js : List Json) × AreEach Is xs js × (j ≡ array (items_of js))

-- ---- operands

abbrev pub operand_json : Term → Answer → Json
operand_json t a = object_of (text_member t ∷ answer_member a ∷ [])

-- the operand, and what is answered for it
abbrev pub IsOperandJson : (Told → Type 0) → Term → Json → Type 0
IsOperandJson Is t j = (a : Answer) × Is (record { term = t; answer = a }) × (j ≡ operand_json t a)

abbrev pub IsArrayOfOperands : (Told → Type 0) → List Term → Json → Type 0
IsArrayOfOperands Is ts j = IsArrayOf (IsOperandJson Is) ts j

-- the operands of a part, unless values are left out
abbrev pub HasOperands : Bool → (Told → Type 0) → Term → List (Text × Json) → Type 0
HasOperands false Is t ms = ms ≡ []
HasOperands true Is t ms = (j : Json) × IsArrayOfOperands Is (operands t) j × (ms ≡ (codes "operands", j) ∷ [])

-- ---- parts

abbrev pub part_members : Text → Bool → Part → List (Text × Json)
part_members text has_values p =
    place_members text (part_place p) ++ text_member (part_told p).term ∷ []
    ++ part_outcome has_values (part_told p).answer

-- where the part stands, the part itself, what it came to, and its operands
abbrev pub IsPartJson : Text → Bool → (Told → Type 0) → Part → Json → Type 0
IsPartJson text has_values Is p j =
    (ms : List (Text × Json)) × HasOperands has_values Is (part_told p).term ms
    × (j ≡ object_of (part_members text has_values p ++ ms))

abbrev pub IsArrayOfParts : Text → Bool → (Told → Type 0) → List Part → Json → Type 0
IsArrayOfParts text has_values Is ps j = IsArrayOf (IsPartJson text has_values Is) ps j

-- ---- policies

abbrev pub policy_members : Text → ExplainedPolicy → List (Text × Json)
policy_members text x =
    id_member (its_view x).id ∷ [] ++ name_members (annotated (its_view x))
    ++ (codes "effect", string (effect_text (its_view x).effect)) ∷ []
    ++ place_members text (policy_location (explained_policy x))
    ++ policy_outcome (told_outcome (explanation_of x))

-- the policy, what it came to, and the parts that decide it
abbrev pub IsPolicyJson : Text → Bool → (Slots → Told → Type 0) → ExplainedPolicy → Json → Type 0
IsPolicyJson text has_values Is x j =
    (parts : Json) × IsArrayOfParts text has_values (Is (its_view x).slots) (explained_parts (explanation_of x)) parts
    × (j ≡ object_of (policy_members text x ++ (codes "parts", parts) ∷ []))

abbrev pub IsArrayOfPolicies : Text → Bool → (Slots → Told → Type 0) → List ExplainedPolicy → Json → Type 0
IsArrayOfPolicies text has_values Is xs j = IsArrayOf (IsPolicyJson text has_values Is) xs j

-- ---- what a permit lacks

-- the permit's id, the part, and what it would have to come to
abbrev pub lack_json : Text → Lack → Json
lack_json text l = object_of (
    id_member (policy_view (lacking_policy l)).id ∷ [] ++ place_members text (part_place (lacking_part l))
    ++ text_member (part_told (lacking_part l)).term ∷ [] ++ (codes "appliesIf", boolean (lacking_truth l)) ∷ [])

abbrev pub lacks_json : Text → List Lack → Json
lacks_json text ls = array (items_of (map (lack_json text) ls))

-- ---- all of it: what is lacking, and each policy

abbrev pub document_json : Json → Json → Json
document_json lacks policies = object_of ((codes "lacks", lacks) ∷ (codes "policies", policies) ∷ [])

abbrev pub IsDocument : Text → Bool → (Slots → Told → Type 0) → List Lack → List ExplainedPolicy → Json → Type 0
IsDocument text has_values Is ls xs j =
    (policies : Json) × IsArrayOfPolicies text has_values Is xs policies × (j ≡ document_json (lacks_json text ls) policies)

-- ---- for private clauses

-- a value of which this is so stands behind the others
abbrev pub Adds : (Json → Type 0) → List Json → List Json → Type 0
Adds Is before after = (j : Json) × Is j × (after ≡ before ++ j ∷ [])

abbrev pub AddsOperand : (Told → Type 0) → Term → List Json → List Json → Type 0
AddsOperand Is t before after = Adds (IsOperandJson Is t) before after

abbrev pub AddsPart : Text → Bool → (Told → Type 0) → Part → List Json → List Json → Type 0
AddsPart text has_values Is p before after = Adds (IsPartJson text has_values Is p) before after

abbrev pub AddsPolicy : Text → Bool → (Slots → Told → Type 0) → ExplainedPolicy → List Json → List Json → Type 0
AddsPolicy text has_values Is x before after = Adds (IsPolicyJson text has_values Is x) before after

-- the operands of a part stand behind the others
abbrev pub AddsOperands : Bool → (Told → Type 0) → Term → List (Text × Json) → List (Text × Json) → Type 0
AddsOperands has_values Is t before after =
    (ms : List (Text × Json)) × HasOperands has_values Is t ms × (after ≡ before ++ ms)
