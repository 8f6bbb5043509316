-- What is lacking, the heading, and each policy.
use Rattle.std.proofs.Common.{[], ◌∷◌, ◌++◌, map, flat_map, codes, ap, ◌∙◌, List}
use Rattle.cedar_explain_printer.specs.declared.lines.Line as lines
use Rattle.cedar_explain_printer.specs.Lines.{Line, line_view, heading_line, lack_lines, policy_lines}
use Rattle.cedar_explain_printer.proofs.Listing.{two_put}
use Rattle.cedar_explain_printer.proofs.requests.all_lines.Goals as goal

pub returns : goal.returns
returns c =
    let lacks : List Line = lack_lines c.args.lacks.now in
    let heading : List Line = heading_line (codes "what each policy came to, and why:") ∷ [] in
    let policies : List Line = flat_map (policy_lines c.args.has_values) c.args.explained.now in
    two_put lacks _ _ heading policies
    (c.in_ok-add_heading.ensures
    ∙ ap (λ (l : List Line). l ++ heading)
    (c.in_ok-add_lacks.ensures ∙ ap (λ (ls : List lines.Line). map line_view ls ++ lacks) c.new-lines.ensures.items))
    c.in_ok-add_policies.ensures
