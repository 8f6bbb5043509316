use Rattle.std.proofs.Common.{◌≡◌, ◌++◌, map}
use Rattle.std.specs.Rc.{rc_str_bytes}
use Rattle.cedar_layers.specs.Policies.{annotations_view}
use Rattle.cedar_json_writer.specs.Trees.{members_seen}
use Rattle.cedar_policy_json_writer.specs.Policies.{annotation_member}
use Rattle.cedar_policy_json_writer.proofs.policies.annotations_to_json.Given as goal

-- those that are written, and those that are left
abbrev pub invariant-annotations : goal.invariant-annotations
invariant-annotations l =
    members_seen l.members.items ++ map annotation_member (map (λ e. (rc_str_bytes e.0, rc_str_bytes e.1)) l.key-iterator)
    ≡ map annotation_member (annotations_view l.fn.annotations)
