use Rattle.std.proofs.Common.{◌≡◌, ◌+◌, ◌*◌, drop, length}
use Rattle.json.specs.Tree.{json_tokens, items_tokens, members_tokens}
use Rattle.json.specs.Value.{value_view, items_view, members_view}
use Rattle.cedar_policy_json_reader.specs.Repeats.{items_said, members_said}
use Rattle.cedar_policy_json_reader.proofs.unique.+unique.Given as goal

abbrev pub decreases-check_keys : goal.decreases-check_keys
decreases-check_keys l = 2 * length (json_tokens (value_view l.value.now))

abbrev pub decreases-check_items : goal.decreases-check_items
decreases-check_items l = 2 * length (items_tokens (items_view l.items.now.items))

abbrev pub decreases-check_item : goal.decreases-check_item
decreases-check_item l = 2 * length (json_tokens (value_view l.item.now)) + 1

abbrev pub decreases-check_object : goal.decreases-check_object
decreases-check_object l = 2 * length (members_tokens (members_view l.members.now.items)) + 1

abbrev pub decreases-check_members : goal.decreases-check_members
decreases-check_members l = 2 * length (members_tokens (members_view l.members.now.items))

abbrev pub decreases-check_member : goal.decreases-check_member
decreases-check_member l = 2 * length (json_tokens (value_view l.value.now)) + 1

abbrev pub invariant-check_items-items : goal.invariant-check_items-items
invariant-check_items-items l =
    (l.index ≡ l.item-index) × (items_said 0 (items_view l.item-items) ≡ items_said l.index (items_view (drop l.item-index l.item-items)))

abbrev pub invariant-check_members-members : goal.invariant-check_members-members
invariant-check_members-members l = members_said (members_view l.member-items) ≡ members_said (members_view (drop l.member-index l.member-items))
