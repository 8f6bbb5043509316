use Rattle.std.proofs.Common.{◌≡◌, ◌++◌, map, flat_map, drop}
use Rattle.cedar_explain_printer.specs.Lines.{line_view, policy_lines}
use Rattle.cedar_explain_printer.proofs.policies.add_policies.Given as goal

-- those that are put, and those that are left
abbrev pub invariant-policies : goal.invariant-policies
invariant-policies l =
    map line_view l.lines.items ++ flat_map (policy_lines l.fn.has_values) (drop l.policy-index l.fn.explained)
    ≡ map line_view l.fn.lines.items ++ flat_map (policy_lines l.fn.has_values) l.fn.explained
