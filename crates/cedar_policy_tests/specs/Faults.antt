-- Why a value is no array of tests: the first place where it is something else.
use Rattle.std.specs.Prelude.{ℕ, ◌+◌, ◌++◌, cond, List, [], ◌∷◌, Option, Some, None, is_some, codes}
use Rattle.json.specs.Json.{Json, Items, no_items, item, Members}
use Rattle.json.specs.Find.{as_array, as_object, get}
use Rattle.cedar_model.specs.Terms.{Text}
use Rattle.cedar_json_reader.specs.Paths.{Step, at_key, at_index}
use Rattle.cedar_json_reader.specs.ErrorTexts.{path_text}
use Rattle.cedar_policy_tests.specs.Said.{first_other, text_at, decision_in, reason_in, test_in}

-- the place, and what is wrong there
abbrev pub place_text : List Step → Text → Text
place_text path why = path_text path ++ (codes ": " ++ why)

abbrev pub item_text : ℕ → Text → Text
item_text n why = place_text (at_index n ∷ []) why

abbrev pub member_text : ℕ → Text → Text → Text
member_text n key why = place_text (at_index n ∷ at_key key ∷ []) why

-- which of the members that say what is expected is lacking or of another kind; the last, where no other is
abbrev pub fault_of_expected : ℕ → Json → Text
fault_of_expected n j =
    cond (is_some (get (codes "decision") j))
    (cond (is_some (decision_in j))
    (cond (is_some (reason_in j)) (member_text n (codes "num_errors") (codes "not a count"))
    (member_text n (codes "reason") (codes "not an array of strings")))
    (member_text n (codes "decision") (codes "neither \"allow\" nor \"deny\"")))
    (member_text n (codes "decision") (codes "missing"))

-- which member of an object is lacking or of another kind, where none is too much
abbrev pub fault_of_member : ℕ → Json → Text
fault_of_member n j =
    cond (is_some (get (codes "name") j))
    (cond (is_some (text_at (codes "name") j))
    (cond (is_some (get (codes "request") j)) (fault_of_expected n j)
    (member_text n (codes "request") (codes "missing")))
    (member_text n (codes "name") (codes "not a string")))
    (member_text n (codes "name") (codes "missing"))

-- the first member that is too much; else that which is lacking or of another kind
abbrev pub fault_with : Option Text → ℕ → Json → Text
fault_with None n j = fault_of_member n j
fault_with (Some key) n j = member_text n key (codes "unexpected")

-- of what is no object
abbrev pub fault_if : Option Members → ℕ → Json → Text
fault_if None n j = item_text n (codes "not an object")
fault_if (Some ms) n j = fault_with (first_other ms) n j

-- why the item of this index is no test
abbrev pub fault_of : ℕ → Json → Text
fault_of n j = fault_if (as_object j) n j

-- why the first item is no test that is none; the first of these has this index
abbrev pub first_fault : ℕ → Items → Text
first_fault n no_items = codes "$: each item is a test"
first_fault n (item j js) = cond (is_some (test_in j)) (first_fault (n + 1) js) (fault_of n j)

abbrev pub faults_in : Option Items → Text
faults_in None = codes "$: not an array"
faults_in (Some js) = first_fault 0 js

-- the whole value
abbrev pub fault_text : Json → Text
fault_text j = faults_in (as_array j)
