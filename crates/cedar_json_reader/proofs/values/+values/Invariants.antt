use Rattle.std.proofs.Common.{◌≡◌, ◌+◌, ◌*◌, ◌++◌, drop, map}
use Rattle.json.specs.Value.{value_view, items_view, members_view}
use Rattle.cedar_restricted.specs.Views.{restricted_term}
use Rattle.cedar_json_reader.specs.Refusals.{made_of}
use Rattle.cedar_json_reader.specs.Said.{said_items, said_members}
use Rattle.cedar_json_reader.specs.Lists.{pairs_said}
use Rattle.cedar_json_reader.proofs.Smaller.{size, items_size, members_size}
use Rattle.cedar_json_reader.proofs.values.+values.Given as goal

abbrev pub decreases-restricted_expr_from_json_value : goal.decreases-restricted_expr_from_json_value
decreases-restricted_expr_from_json_value l = 8 * size (value_view l.value.now)

abbrev pub decreases-read_set : goal.decreases-read_set
decreases-read_set l = 8 * items_size (items_view l.items.now.items) + 2

abbrev pub decreases-read_items : goal.decreases-read_items
decreases-read_items l = 8 * items_size (items_view l.items.now.items) + 1

abbrev pub decreases-read_item : goal.decreases-read_item
decreases-read_item l = 8 * size (value_view l.item.now) + 1

abbrev pub decreases-read_object : goal.decreases-read_object
decreases-read_object l = 8 * members_size (members_view l.members.now.items) + 3

abbrev pub decreases-read_record : goal.decreases-read_record
decreases-read_record l = 8 * members_size (members_view l.members.now.items) + 2

abbrev pub decreases-read_members : goal.decreases-read_members
decreases-read_members l = 8 * members_size (members_view l.members.now.items) + 1

abbrev pub decreases-read_member : goal.decreases-read_member
decreases-read_member l = 8 * size (value_view l.value.now) + 1

abbrev pub decreases-read_call : goal.decreases-read_call
decreases-read_call l = 8 * size (value_view l.call.now) + 7

abbrev pub decreases-read_shape : goal.decreases-read_shape
decreases-read_shape l = 8 * size (value_view l.shape.argument.now) + 6

abbrev pub decreases-read_called : goal.decreases-read_called
decreases-read_called l = 8 * size (value_view l.argument.now) + 5

abbrev pub decreases-read_arguments : goal.decreases-read_arguments
decreases-read_arguments l = 8 * size (value_view l.argument.now) + 4

abbrev pub decreases-read_argument : goal.decreases-read_argument
decreases-read_argument l = 8 * size (value_view l.argument.now) + 3

abbrev pub decreases-read_list : goal.decreases-read_list
decreases-read_list l = 8 * size (value_view l.list.now) + 3

abbrev pub invariant-read_items-items : goal.invariant-read_items-items
invariant-read_items-items l =
    (l.index ≡ l.item-index) × (said_items 0 (items_view l.item-items) ≡ made_of (λ ts. map restricted_term l.elements.items ++ ts) (said_items l.index (items_view (drop l.item-index l.item-items))))

abbrev pub invariant-read_members-members : goal.invariant-read_members-members
invariant-read_members-members l =
    said_members (members_view l.member-items) ≡ made_of (λ ps. pairs_said l.pairs.items ++ ps) (said_members (members_view (drop l.member-index l.member-items)))
