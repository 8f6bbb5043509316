use Rattle.std.proofs.Common.{◌≡◌, ◌++◌, drop, map}
use Rattle.cedar_layers.specs.Policies.{policy_view}
use Rattle.cedar_response_json_reader.specs.Rows.{view_of}
use Rattle.cedar_response_json_reader.proofs.ids.policies_of.Given as goal

-- those that are copied, and those that are left
abbrev pub invariant-rows : goal.invariant-rows
invariant-rows l =
    map policy_view l.copies.items ++ map view_of (drop l.row-index l.row-items) ≡ map view_of l.row-items
