use Rattle.std.proofs.Common.{◌≡◌, ◌++◌, drop}
use Rattle.json.specs.Tree.{items_tokens, members_tokens, ItemsHaveNumbers, MembersHaveNumbers}
use Rattle.cedar_json_writer.specs.Trees.{items_view, members_view}
use Rattle.cedar_json_writer.proofs.writing.+write.Given as goal

-- what is written, and what is to come
abbrev pub invariant-write_items-items : goal.invariant-write_items-items
invariant-write_items-items l =
    let rest = items_view (drop l.item-index l.item-items) in
    let all = items_view l.item-items in
    (l.writer.tokens ++ items_tokens rest ≡ l.initial.writer.tokens ++ items_tokens all) × (l.writer.before ≡ l.initial.writer.before)
    × (ItemsHaveNumbers rest → ItemsHaveNumbers all)

abbrev pub invariant-write_members-members : goal.invariant-write_members-members
invariant-write_members-members l =
    let rest = members_view (drop l.member-index l.member-items) in
    let all = members_view l.member-items in
    (l.writer.tokens ++ members_tokens rest ≡ l.initial.writer.tokens ++ members_tokens all) × (l.writer.before ≡ l.initial.writer.before)
    × (MembersHaveNumbers rest → MembersHaveNumbers all)
