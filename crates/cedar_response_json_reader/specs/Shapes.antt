-- Members of objects, and texts.
use Rattle.std.specs.Prelude.{ℕ, nat_lt, Option, Some, None, if◌then◌else◌, Ok}
use Rattle.json.specs.Json.{Json}
use Rattle.json.specs.Find.{as_str, get}
use Rattle.cedar_model.specs.Terms.{Text}
use Rattle.cedar_policy_json_reader.specs.Paths.{at_key}
use Rattle.cedar_policy_json_reader.specs.Shapes.{member_count}
use Rattle.cedar_response_json_reader.specs.declared.errors.ResponseRefusal.{ResponseRefusal}
use Rattle.cedar_response_json_reader.specs.declared.errors.ResponseRefusal.TheVariants as reasons
use Rattle.cedar_response_json_reader.specs.Refusals.{Said, refused, refused_there, under, and_then, or_refused}

-- why this is no object of so many members at most, if it isn't
abbrev pub over : ℕ → Option ℕ → Option ResponseRefusal
over most None = Some reasons.NotAnObject
over most (Some n) = if nat_lt most n then Some reasons.UnexpectedMember else None

-- the same of a JSON value
abbrev pub over_members : ℕ → Json → Option ResponseRefusal
over_members most j = over most (member_count j)

abbrev pub found : Text → Option Json → Said Json
found k None = refused_there (at_key k) reasons.MissingMember
found k (Some j) = Ok j

-- what stands at this key, which must be there
abbrev pub member_at : Text → Json → Said Json
member_at k j = found k (get k j)

-- what the member of this key says
abbrev pub part_at : {T : Type 0} → Text → (Json → Said T) → Json → Said T
part_at k says j = and_then (λ part. under (at_key k) (says part)) (member_at k j)

-- the text that a value is
abbrev pub text_said : Json → Said Text
text_said j = or_refused reasons.NotAText (as_str j)
