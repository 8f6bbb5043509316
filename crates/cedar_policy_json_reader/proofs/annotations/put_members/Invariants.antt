use Rattle.std.proofs.Common.{◌≡◌, [], drop}
use Rattle.json.specs.Value.{members_view}
use Rattle.cedar_policy_json_reader.specs.Annotations.{texts_under}
use Rattle.cedar_policy_json_reader.specs.Policies.{annotations_from}
use Rattle.cedar_policy_json_reader.proofs.annotations.put_members.Given as goal

abbrev pub invariant-members : goal.invariant-members
invariant-members l =
    annotations_from [] (members_view l.member-items) ≡ annotations_from (texts_under l.map.entries) (members_view (drop l.member-index l.member-items))
