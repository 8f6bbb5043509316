-- The line of the policy, and then those of its parts.
use Rattle.std.proofs.Common.{[], ◌∷◌, ◌++◌, map, ap, ◌∙◌, List}
use Rattle.cedar_explain.specs.declared.parts.Part.{Part}
use Rattle.cedar_explain.specs.declared.explanations.Explanation.{Explanation}
use Rattle.cedar_explain.specs.Views.{explained_parts}
use Rattle.cedar_explain_printer.specs.Lines.{Line, line_view, policy_line, part_line}
use Rattle.cedar_explain_printer.proofs.Listing.{two_put}
use Rattle.cedar_explain_printer.proofs.policies.add_policy.Goals as goal

pub returns : goal.returns
returns c =
    let v = c.args.has_values in
    let before : List Line = map line_view c.args.lines.now.items in
    two_put before _ _ (policy_line c.args.explained.now ∷ []) (map (part_line v) c.parts.result.now)
    c.in_ok-add_head.ensures c.in_ok-add_parts.ensures
    ∙ ap (λ (ps : List Part). before ++ (policy_line c.args.explained.now ∷ map (part_line v) ps))
    (c.parts.ensures.whole ∙ ap (λ (x : Explanation). explained_parts x) c.explanation.ensures)
