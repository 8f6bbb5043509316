use Rattle.std.proofs.Common.{◌≡◌, ◌++◌, option_map}
use Rattle.std.specs.Rc.{rc_str_bytes}
use Rattle.cedar_names.specs.Leaves.{type_view}
use Rattle.cedar_plan.specs.Planned.{row_policies_view}
use Rattle.cedar_plan.specs.Entries.{planned_entries}
use Rattle.cedar_plan.proofs.planning.add_policies.Given as goal

-- the policies so far and those that are still to come
abbrev pub invariant-entries : goal.invariant-entries
invariant-entries l =
    row_policies_view l.policies.items ++ planned_entries (rc_str_bytes l.fn.row.name) (option_map type_view l.fn.row.type_annotation) l.id-iterator
    ≡ row_policies_view l.fn.policies.items ++ planned_entries (rc_str_bytes l.fn.row.name) (option_map type_view l.fn.row.type_annotation) l.fn.entries.entries
