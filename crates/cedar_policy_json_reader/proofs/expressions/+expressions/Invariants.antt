use Rattle.std.proofs.Common.{◌≡◌, ◌+◌, ◌*◌, ◌++◌, drop, map}
use Rattle.json.specs.Value.{items_view, members_view}
use Rattle.cedar_expressions.specs.Records.{pairs_view}
use Rattle.cedar_expressions.specs.View.{view}
use Rattle.cedar_policy_json_reader.specs.Bounds.{within}
use Rattle.cedar_policy_json_reader.specs.Expressions.{items_said, members_said}
use Rattle.cedar_policy_json_reader.specs.Refusals.{made_of}
use Rattle.cedar_policy_json_reader.proofs.expressions.+expressions.Given as goal

abbrev pub decreases-read_expression : goal.decreases-read_expression
decreases-read_expression l = 16 * l.bounds.limit

abbrev pub decreases-read_level : goal.decreases-read_level
decreases-read_level l = 16 * l.bounds.limit + 15

abbrev pub decreases-read_operator : goal.decreases-read_operator
decreases-read_operator l = 16 * l.bounds.limit + 13

abbrev pub decreases-read_leaf_or_other : goal.decreases-read_leaf_or_other
decreases-read_leaf_or_other l = 16 * l.bounds.limit + 11

abbrev pub decreases-read_compound : goal.decreases-read_compound
decreases-read_compound l = 16 * l.bounds.limit + 10

abbrev pub decreases-read_collection : goal.decreases-read_collection
decreases-read_collection l = 16 * l.bounds.limit + 9

abbrev pub decreases-read_part : goal.decreases-read_part
decreases-read_part l = 16 * l.bounds.limit + 1

abbrev pub decreases-read_unary : goal.decreases-read_unary
decreases-read_unary l = 16 * l.bounds.limit + 4

abbrev pub decreases-read_connected : goal.decreases-read_connected
decreases-read_connected l = 16 * l.bounds.limit + 5

abbrev pub decreases-read_both : goal.decreases-read_both
decreases-read_both l = 16 * l.bounds.limit + 3

abbrev pub decreases-read_get : goal.decreases-read_get
decreases-read_get l = 16 * l.bounds.limit + 5

abbrev pub decreases-read_attribute : goal.decreases-read_attribute
decreases-read_attribute l = 16 * l.bounds.limit + 4

abbrev pub decreases-read_has : goal.decreases-read_has
decreases-read_has l = 16 * l.bounds.limit + 5

abbrev pub decreases-read_has_of : goal.decreases-read_has_of
decreases-read_has_of l = 16 * l.bounds.limit + 4

abbrev pub decreases-read_like : goal.decreases-read_like
decreases-read_like l = 16 * l.bounds.limit + 5

abbrev pub decreases-read_like_of : goal.decreases-read_like_of
decreases-read_like_of l = 16 * l.bounds.limit + 4

abbrev pub decreases-read_is : goal.decreases-read_is
decreases-read_is l = 16 * l.bounds.limit + 6

abbrev pub decreases-read_is_alone : goal.decreases-read_is_alone
decreases-read_is_alone l = 16 * l.bounds.limit + 5

abbrev pub decreases-read_type_test : goal.decreases-read_type_test
decreases-read_type_test l = 16 * l.bounds.limit + 4

abbrev pub decreases-read_is_in : goal.decreases-read_is_in
decreases-read_is_in l = 16 * l.bounds.limit + 5

abbrev pub decreases-read_type_test_in : goal.decreases-read_type_test_in
decreases-read_type_test_in l = 16 * l.bounds.limit + 4

abbrev pub decreases-read_place : goal.decreases-read_place
decreases-read_place l = 16 * l.bounds.limit + 3

abbrev pub decreases-read_if : goal.decreases-read_if
decreases-read_if l = 16 * l.bounds.limit + 5

abbrev pub decreases-read_branches : goal.decreases-read_branches
decreases-read_branches l = 16 * l.bounds.limit + 4

abbrev pub decreases-read_set : goal.decreases-read_set
decreases-read_set l = 16 * l.bounds.limit + 8

abbrev pub decreases-read_elements : goal.decreases-read_elements
decreases-read_elements l = 16 * l.bounds.limit + 6

abbrev pub decreases-read_items : goal.decreases-read_items
decreases-read_items l = 16 * l.bounds.limit + 3

abbrev pub decreases-read_item : goal.decreases-read_item
decreases-read_item l = 16 * l.bounds.limit + 2

abbrev pub decreases-read_record : goal.decreases-read_record
decreases-read_record l = 16 * l.bounds.limit + 8

abbrev pub decreases-read_fields : goal.decreases-read_fields
decreases-read_fields l = 16 * l.bounds.limit + 6

abbrev pub decreases-read_members : goal.decreases-read_members
decreases-read_members l = 16 * l.bounds.limit + 3

abbrev pub decreases-read_member : goal.decreases-read_member
decreases-read_member l = 16 * l.bounds.limit + 2

abbrev pub decreases-read_call : goal.decreases-read_call
decreases-read_call l = 16 * l.bounds.limit + 8

abbrev pub decreases-read_any : goal.decreases-read_any
decreases-read_any l = 16 * l.bounds.limit + 7

abbrev pub decreases-read_known : goal.decreases-read_known
decreases-read_known l = 16 * l.bounds.limit + 7

abbrev pub decreases-read_arguments : goal.decreases-read_arguments
decreases-read_arguments l = 16 * l.bounds.limit + 6

abbrev pub invariant-read_items-items : goal.invariant-read_items-items
invariant-read_items-items l =
    (l.index ≡ l.item-index) × (items_said (within l.bounds) 0 (items_view l.item-items)
    ≡ made_of (λ ts. map view l.elements.items ++ ts) (items_said (within l.bounds) l.index (items_view (drop l.item-index l.item-items))))

abbrev pub invariant-read_members-members : goal.invariant-read_members-members
invariant-read_members-members l =
    members_said (within l.bounds) (members_view l.member-items)
    ≡ made_of (λ ps. pairs_view l.pairs.items ++ ps) (members_said (within l.bounds) (members_view (drop l.member-index l.member-items)))
