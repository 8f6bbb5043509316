-- What the JSON of a test says.
use Rattle.std.specs.Prelude.{ℤ, pos, negsuc, Bool, true, false, not, cond, ◌&&◌, ◌||◌, List, [], ◌∷◌, is_some}
use Rattle.std.specs.Prelude.{Option, Some, None, option_map, bytes_eq, codes}
use Rattle.std.specs.Option.{option_and_then}
use Rattle.json.specs.Json.{Json, Items, no_items, item, Members, no_members, member}
use Rattle.json.specs.Find.{as_array, as_object, as_str, get}
use Rattle.cedar_model.specs.Terms.{Text}
use Rattle.cedar_model.specs.Policies.{Decision, allow, deny}
use Rattle.cedar_json_reader.specs.Numbers.{long_in}

-- a test: what it is called, the request and perhaps its entities, and what is expected
pub record SaidTest : Type 0 where
  pub name : Text
  pub request : Json
  pub entities : Option Json
  pub decision : Decision
  pub reason : Option (List Text)
  pub num_errors : Option ℤ

-- ---- members

abbrev pub is_test_key : Text → Bool
is_test_key k =
    bytes_eq k (codes "name") || bytes_eq k (codes "request") || bytes_eq k (codes "entities")
    || bytes_eq k (codes "decision") || bytes_eq k (codes "reason") || bytes_eq k (codes "num_errors")

-- the first key that is none of these
abbrev pub first_other : Members → Option Text
first_other no_members = None
first_other (member k j ms) = cond (is_test_key k) (first_other ms) (Some k)

-- an object that has none
abbrev pub has_test_keys : Option Members → Bool
has_test_keys None = false
has_test_keys (Some ms) = not (is_some (first_other ms))

abbrev pub text_at : Text → Json → Option Text
text_at k j = option_and_then as_str (get k j)

abbrev pub decision_of : Text → Option Decision
decision_of t = cond (bytes_eq t (codes "allow")) (Some allow) (cond (bytes_eq t (codes "deny")) (Some deny) None)

abbrev pub decision_in : Json → Option Decision
decision_in j = option_and_then decision_of (text_at (codes "decision") j)

-- ---- reasons

abbrev pub are_texts : Items → Bool
are_texts no_items = true
are_texts (item j js) = is_some (as_str j) && are_texts js

abbrev pub text_or_none : Option Text → Text
text_or_none None = []
text_or_none (Some t) = t

abbrev pub text_of : Json → Text
text_of j = text_or_none (as_str j)

abbrev pub text_list : Items → List Text
text_list no_items = []
text_list (item j js) = text_of j ∷ text_list js

abbrev pub names_if : Option Items → Option (Option (List Text))
names_if None = None
names_if (Some js) = cond (are_texts js) (Some (Some (text_list js))) None

-- an array of texts
abbrev pub names_in : Json → Option (Option (List Text))
names_in j = names_if (as_array j)

abbrev pub reason_by : Option Json → Option (Option (List Text))
reason_by None = Some None
reason_by (Some j) = names_in j

-- the names, if there are any
abbrev pub reason_in : Json → Option (Option (List Text))
reason_in j = reason_by (get (codes "reason") j)

-- ---- how many err

abbrev pub natural : ℤ → Option (Option ℤ)
natural (pos n) = Some (Some (pos n))
natural (negsuc n) = None

abbrev pub natural_in : Json → Option (Option ℤ)
natural_in j = option_and_then natural (long_in j)

abbrev pub count_by : Option Json → Option (Option ℤ)
count_by None = Some None
count_by (Some j) = natural_in j

-- the count, if there is one
abbrev pub count_in : Json → Option (Option ℤ)
count_in j = count_by (get (codes "num_errors") j)

-- ---- the whole

-- no member is too much, and none that each test has is lacking or of another kind
abbrev pub test_of : Bool → Option Text → Option Json → Option Json → Option Decision → Option (Option (List Text))
    → Option (Option ℤ) → Option SaidTest
test_of false n r e d w c = None
test_of true None r e d w c = None
test_of true (Some n) None e d w c = None
test_of true (Some n) (Some r) e None w c = None
test_of true (Some n) (Some r) e (Some d) None c = None
test_of true (Some n) (Some r) e (Some d) (Some w) None = None
test_of true (Some n) (Some r) e (Some d) (Some w) (Some c) =
    Some (record { name = n; request = r; entities = e; decision = d; reason = w; num_errors = c })

-- an object of these members, each of its kind
abbrev pub test_in : Json → Option SaidTest
test_in j =
    test_of (has_test_keys (as_object j)) (text_at (codes "name") j) (get (codes "request") j)
    (get (codes "entities") j) (decision_in j) (reason_in j) (count_in j)

-- this one, and those
abbrev pub with_first : Option SaidTest → Option (List SaidTest) → Option (List SaidTest)
with_first None ts = None
with_first (Some t) ts = option_map (λ more. t ∷ more) ts

-- each item is a test: all of them, in order
abbrev pub item_tests : Items → Option (List SaidTest)
item_tests no_items = Some []
item_tests (item j js) = with_first (test_in j) (item_tests js)

-- an array of tests
abbrev pub tests_in : Json → Option (List SaidTest)
tests_in j = option_and_then item_tests (as_array j)
