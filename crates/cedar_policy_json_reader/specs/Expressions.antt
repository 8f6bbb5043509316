-- What the JSON of an expression says, or why it says none: one level over what its parts say, and so many levels.
use Rattle.std.specs.Prelude.{ℕ, zero, suc, ◌+◌, ◌==◌, List, [], ◌∷◌, map, if◌then◌else◌, Option, Some, None, Ok, bytes_eq, codes}
use Rattle.json.specs.Json.{Json, Items, no_items, item, Members, no_members, member}
use Rattle.json.specs.Find.{as_object, as_array, get}
use Rattle.cedar_model.specs.Terms.{Text, UnaryOperator, in_operator, PatternPart, Term, literal, variable, if_then_else}
use Rattle.cedar_model.specs.Terms.{both, unary, binary, call, get_attribute, like, is_of_type, set_of, record_of, terms_of}
use Rattle.cedar_model.specs.Refusals.{first_repeated}
use Rattle.cedar_expressions.specs.Records.{fields_in_order}
use Rattle.cedar_functions.specs.Functions.{Knowledge, known_of}
use Rattle.cedar_functions.specs.declared.functions.Known.{Known}
use Rattle.cedar_functions.specs.declared.functions.Known.TheVariants as known
use Rattle.cedar_policy_json_reader.specs.declared.errors.RefusalReason.TheVariants as reasons
use Rattle.cedar_policy_json_reader.specs.Names.{TwoPart, two_part_term, two_part_named, unary_named}
use Rattle.cedar_policy_json_reader.specs.Leaves.{literal_said, variable_said, unknown_said, name_said}
use Rattle.cedar_policy_json_reader.specs.Leaves.{Attributes, has_term, attributes_said, parts_in}
use Rattle.cedar_policy_json_reader.specs.Paths.{Step, at_key, at_index}
use Rattle.cedar_policy_json_reader.specs.Refusals.{Said, refused, refused_there, under, before, both_said, made_of, and_then}
use Rattle.cedar_policy_json_reader.specs.Shapes.{Member, sole_of, one_at, two_at, three_at, text_said}
use Rattle.cedar_policy_json_reader.specs.Words.{is_name}

-- what the JSON of a part says
abbrev pub Reading : Type 0
Reading = Json → Said Term

-- the functions that are known, and how the left side of an `is .. in` is read, if one may stand here
pub record Around : Type 0 where
  pub known : Knowledge
  pub left : Option Reading

abbrev pub part_at : Text → Reading → Reading
part_at k says j = under (at_key k) (says j)

-- ---- operators

abbrev pub one_part_said : Reading → UnaryOperator → Reading
one_part_said says op j = made_of (unary op) (and_then (part_at (codes "arg") says) (one_at (codes "arg") j))

abbrev pub parts_said : Reading → Json × Json → Said (Term × Term)
parts_said says p = both_said (part_at (codes "left") says p.0) (part_at (codes "right") says p.1)

abbrev pub two_parts_said : Reading → Json → Said (Term × Term)
two_parts_said says j = and_then (parts_said says) (two_at (codes "left") (codes "right") j)

abbrev pub connected_said : Reading → TwoPart → Reading
connected_said says op j = made_of (λ p. two_part_term op p.0 p.1) (two_parts_said says j)

-- ---- attributes, patterns, types: what names them is read first

abbrev pub attribute_said : Reading → Json × Json → Said Term
attribute_said says p =
    made_of (λ q. get_attribute q.1 q.0) (both_said (under (at_key (codes "attr")) (text_said p.1)) (part_at (codes "left") says p.0))

abbrev pub get_said : Reading → Reading
get_said says j = and_then (attribute_said says) (two_at (codes "left") (codes "attr") j)

abbrev pub attributes_of_said : Reading → Json × Json → Said Term
attributes_of_said says p =
    made_of (λ q. has_term q.0 q.1) (both_said (under (at_key (codes "attr")) (attributes_said p.1)) (part_at (codes "left") says p.0))

abbrev pub has_said : Reading → Reading
has_said says j = and_then (attributes_of_said says) (two_at (codes "left") (codes "attr") j)

abbrev pub pattern_said : Json → Said (List PatternPart)
pattern_said j = under (at_key (codes "pattern")) (parts_in (as_array j))

abbrev pub pattern_of_said : Reading → Json × Json → Said Term
pattern_of_said says p = made_of (λ q. like q.1 q.0) (both_said (pattern_said p.1) (part_at (codes "left") says p.0))

abbrev pub like_said : Reading → Reading
like_said says j = and_then (pattern_of_said says) (two_at (codes "left") (codes "pattern") j)

abbrev pub type_name_said : Json → Said Text
type_name_said j = under (at_key (codes "entity_type")) (name_said j)

abbrev pub type_test_said : Reading → Json × Json → Said Term
type_test_said says p = made_of (λ q. is_of_type q.1 q.0) (both_said (type_name_said p.1) (part_at (codes "left") says p.0))

-- `t is n in u`, which is `t is n && t in u`
abbrev pub is_in_term : Text → Term × Term → Term
is_in_term n p = both (is_of_type p.0 n) (binary in_operator p.0 p.1)

-- the left side is read as is said, for it is read into the expression twice
abbrev pub place_said : Reading → Reading → Json × Json → Said (Term × Term)
place_said left says p = both_said (part_at (codes "left") left p.0) (part_at (codes "in") says p.1)

abbrev pub type_test_in_said : Reading → Reading → Json × Json × Json → Said Term
type_test_in_said left says p =
    made_of (λ q. is_in_term q.0 q.1) (both_said (type_name_said p.1) (place_said left says (p.0, p.2)))

abbrev pub is_in_said : Reading → Reading → Reading
is_in_said left says j = and_then (type_test_in_said left says) (three_at (codes "left") (codes "entity_type") (codes "in") j)

-- where an `is .. in` may stand, and how its left side is read
abbrev pub is_in_if_it_may : Option Reading → Reading → Reading
is_in_if_it_may None says j = refused reasons.DoubledTest
is_in_if_it_may (Some left) says j = is_in_said left says j

-- with a place, or without one
abbrev pub is_by_place : Option Reading → Reading → Option Json → Reading
is_by_place left says None j = and_then (type_test_said says) (two_at (codes "left") (codes "entity_type") j)
is_by_place left says (Some i) j = is_in_if_it_may left says j

abbrev pub is_said : Option Reading → Reading → Reading
is_said left says j = is_by_place left says (get (codes "in") j) j

-- ---- `if`

abbrev pub branches_said : Reading → Json × Json × Json → Said Term
branches_said says p =
    made_of (λ q. if_then_else q.0 q.1.0 q.1.1) (both_said (part_at (codes "if") says p.0)
    (both_said (part_at (codes "then") says p.1) (part_at (codes "else") says p.2)))

abbrev pub if_said : Reading → Reading
if_said says j = and_then (branches_said says) (three_at (codes "if") (codes "then") (codes "else") j)

-- ---- sets, records, functions

-- items in order, the first of this index
abbrev pub items_said : Reading → ℕ → Items → Said (List Term)
items_said says n no_items = Ok []
items_said says n (item j js) = before (under (at_index n) (says j)) (items_said says (n + 1) js)

abbrev pub set_in : Reading → Option Items → Said Term
set_in says None = refused reasons.NotAnArray
set_in says (Some js) = made_of (λ ts. set_of (terms_of ts)) (items_said says 0 js)

abbrev pub set_said : Reading → Reading
set_said says j = set_in says (as_array j)

abbrev pub pair_of : Text → Term → Text × Term
pair_of k t = (k, t)

abbrev pub member_said : Reading → Text → Json → Said (Text × Term)
member_said says k j = made_of (pair_of k) (part_at k says j)

-- members in order
abbrev pub members_said : Reading → Members → Said (List (Text × Term))
members_said says no_members = Ok []
members_said says (member k j ms) = before (member_said says k j) (members_said says ms)

-- the record of pairs whose keys differ
abbrev pub unique_said : Option Text → List (Text × Term) → Said Term
unique_said None ps = Ok (record_of (fields_in_order ps))
unique_said (Some k) ps = refused_there (at_key k) reasons.RepeatedKey

abbrev pub keys_of_pairs : List (Text × Term) → List Text
keys_of_pairs = map (λ p. p.0)

abbrev pub record_of_pairs : List (Text × Term) → Said Term
record_of_pairs ps = unique_said (first_repeated (keys_of_pairs ps)) ps

abbrev pub record_in : Reading → Option Members → Said Term
record_in says None = refused reasons.NotAnObject
record_in says (Some ms) = and_then record_of_pairs (members_said says ms)

abbrev pub record_said : Reading → Reading
record_said says j = record_in says (as_object j)

abbrev pub item_count : Items → ℕ
item_count no_items = 0
item_count (item j js) = suc (item_count js)

abbrev pub called : Reading → Text → ℕ → Option Items → Said Term
called says k n None = refused reasons.NotAnArray
called says k n (Some js) =
    if item_count js == n then made_of (λ ts. call k (terms_of ts)) (items_said says 0 js) else
    refused reasons.WrongArguments

abbrev pub called_on : Reading → Text → Option Items → Said Term
called_on says k None = refused reasons.NotAnArray
called_on says k (Some js) = made_of (λ ts. call k (terms_of ts)) (items_said says 0 js)

-- the call of a function of which nothing is known but that its name is one
abbrev pub called_by_name : Reading → Text → Option Items → Said Term
called_by_name says k js = if is_name k then called_on says k js else refused reasons.UnknownOperator

abbrev pub call_by_known : Reading → Text → Known → Reading
call_by_known says k known.Any j = called_by_name says k (as_array j)
call_by_known says k (known.Function s n) j = called says k n (as_array j)
call_by_known says k known.Nothing j = refused reasons.UnknownOperator

-- the call of a function that is known, on as many arguments as it takes
abbrev pub call_said : Knowledge → Reading → Text → Reading
call_said fs says k j = call_by_known says k (known_of fs k) j

-- ---- one level, by the name of the operator

abbrev pub collection_said : Around → Reading → Text → Reading
collection_said c says k j =
    if bytes_eq k (codes "Set") then set_said says j else (
    if bytes_eq k (codes "Record") then record_said says j else
    call_said c.known says k j)

abbrev pub compound_said : Around → Reading → Text → Reading
compound_said c says k j =
    if bytes_eq k (codes ".") then get_said says j else (
    if bytes_eq k (codes "has") then has_said says j else (
    if bytes_eq k (codes "like") then like_said says j else (
    if bytes_eq k (codes "is") then is_said c.left says j else (
    if bytes_eq k (codes "if-then-else") then if_said says j else
    collection_said c says k j))))

abbrev pub leaf_or_said : Around → Reading → Text → Reading
leaf_or_said c says k j =
    if bytes_eq k (codes "Value") then made_of literal (literal_said j) else (
    if bytes_eq k (codes "Var") then made_of variable (variable_said j) else (
    if bytes_eq k (codes "Slot") then refused reasons.SlotOutsideScope else (
    if bytes_eq k (codes "Unknown") then unknown_said j else
    compound_said c says k j)))

abbrev pub by_unary : Option UnaryOperator → Around → Reading → Text → Reading
by_unary None c says k j = leaf_or_said c says k j
by_unary (Some op) c says k j = one_part_said says op j

abbrev pub by_two_part : Option TwoPart → Around → Reading → Text → Reading
by_two_part None c says k j = by_unary (unary_named k) c says k j
by_two_part (Some op) c says k j = connected_said says op j

abbrev pub operator_said : Around → Reading → Text → Reading
operator_said c says k j = by_two_part (two_part_named k) c says k j

abbrev pub sole_said : Around → Reading → Option Member → Said Term
sole_said c says None = refused reasons.NotAnExpression
sole_said c says (Some m) = under (at_key m.0) (operator_said c says m.0 m.1)

-- an object of one member, which names the operator
abbrev pub level_said : Around → Reading → Reading
level_said c says j = sole_said c says (sole_of j)

-- ---- so many levels

-- the same where no `is .. in` may stand
unfoldable pub undoubled_said : Knowledge → ℕ → Reading
undoubled_said fs zero j = refused reasons.TooDeep
undoubled_said fs (suc n) j = level_said (record { known = fs; left = None }) (undoubled_said fs n) j

-- in the left side of an `is .. in` stands no other
unfoldable pub expression_said : Knowledge → ℕ → Reading
expression_said fs zero j = refused reasons.TooDeep
expression_said fs (suc n) j = level_said (record { known = fs; left = Some (undoubled_said fs n) }) (expression_said fs n) j
