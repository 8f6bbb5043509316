-- What differs between two answers.
use Rattle.std.specs.Prelude.{ℕ, Bool, true, false, ◌&&◌, min, pos, ◌∷◌, []}
use Rattle.std.specs.Prelude.{Some, codes, List}
use Rattle.std.specs.Fmt.{signed_decimal}
use Rattle.json.specs.Json.{Json, number}
use Rattle.cedar_model.specs.Terms.{Text}
use Rattle.cedar_model.specs.Policies.{Decision, allow, deny}
use Rattle.cedar_json_writer.specs.Texts.{texts_json, object_of}
use Rattle.cedar_json_writer.specs.Responses.{decision_json}
use Rattle.cedar_expectations.specs.Answers.{AnswerView}
use Rattle.cedar_expectations.specs.Lists.{only_in, have_same}

-- ---- two answers

abbrev pub is_same_decision : Decision → Decision → Bool
is_same_decision allow allow = true
is_same_decision allow deny = false
is_same_decision deny allow = false
is_same_decision deny deny = true

-- nothing differs
abbrev pub is_same : AnswerView → AnswerView → Bool
is_same old new =
    is_same_decision old.decision new.decision
    && (have_same old.reasons new.reasons && have_same old.errors new.errors)

-- ---- what differs, as JSON

-- a count; of more than a long holds, the greatest long
abbrev pub count_json : ℕ → Json
count_json n = number (signed_decimal (pos (min n 9223372036854775807)))

-- an object of two members
abbrev pub pair_json : Text → Json → Text → Json → Json
pair_json k a l b = object_of ((k, a) ∷ (l, b) ∷ [])

-- an object of what the old answer has and of what the new one has
abbrev pub both_json : Json → Json → Json
both_json old new = pair_json (codes "old") old (codes "new") new

-- what each has alone
abbrev pub each_only : List Text → List Text → Json
each_only old new = both_json (texts_json (only_in old new)) (texts_json (only_in new old))

-- the number of the request's line, both decisions, and the reasons and errors that one answer has alone
abbrev pub difference_json : ℕ → AnswerView → AnswerView → Json
difference_json n old new = object_of (
    (codes "line", count_json n)
    ∷ (codes "decision", both_json (decision_json (Some old.decision)) (decision_json (Some new.decision)))
    ∷ (codes "reason", each_only old.reasons new.reasons)
    ∷ (codes "errors", each_only old.errors new.errors) ∷ [])
