-- What the JSON of a response tells of errors.
use Rattle.std.specs.Prelude.{ℕ, ◌+◌, List, [], Option, Some, None, if◌then◌else◌, bytes_eq, Ok, codes}
use Rattle.json.specs.Json.{Json, Items, no_items, item}
use Rattle.json.specs.Find.{as_array}
use Rattle.cedar_model.specs.Terms.{Text}
use Rattle.cedar_model.specs.Failures.{Failure, function_has_failed, recursion_limit}
use Rattle.cedar_policy_json_reader.specs.Paths.{at_index}
use Rattle.cedar_response_json_reader.specs.declared.errors.ResponseRefusal.TheVariants as reasons
use Rattle.cedar_response_json_reader.specs.Refusals.{Said, refused, under, before, both_said, made_of, unless}
use Rattle.cedar_response_json_reader.specs.Shapes.{over_members, part_at, text_said}

-- an error that was told: the recursion limit is itself, and any other error is its kind and what it said
abbrev pub told_failure : Text → Text → Failure
told_failure kind message =
    if bytes_eq kind (codes "recursionLimit") then recursion_limit else function_has_failed kind message

abbrev pub told_error : Text × (Text × Text) → Text × Failure
told_error t = (t.0, told_failure t.1.0 t.1.1)

abbrev pub kind_and_message : Json → Said (Text × Text)
kind_and_message j = both_said (part_at (codes "kind") text_said j) (part_at (codes "message") text_said j)

abbrev pub told_said : Json → Said (Text × (Text × Text))
told_said j = both_said (part_at (codes "policyId") text_said j) (kind_and_message j)

-- an error: its policy, its kind and what it says, and no other member
abbrev pub error_said : Json → Said (Text × Failure)
error_said j = unless (over_members 3 j) (made_of told_error (told_said j))

-- errors in order, the first of this index
abbrev pub errors_from : ℕ → Items → Said (List (Text × Failure))
errors_from n no_items = Ok []
errors_from n (item j js) = before (under (at_index n) (error_said j)) (errors_from (n + 1) js)

abbrev pub errors_in : Option Items → Said (List (Text × Failure))
errors_in None = refused reasons.NotAnArray
errors_in (Some js) = errors_from 0 js

abbrev pub errors_said : Json → Said (List (Text × Failure))
errors_said j = errors_in (as_array j)
