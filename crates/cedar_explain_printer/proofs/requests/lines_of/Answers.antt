-- What is lacking, as `lacking` promises it.
use Rattle.std.proofs.Common.{◌≡◌, ◌∙◌, ap, map, List, subst, sym}
use Rattle.std.proofs.lemmas.List.Elements.{All-weaker}
use Rattle.cedar_decisions.specs.Decisions.{mode_view}
use Rattle.cedar_explain.specs.declared.lacks.Lack.{Lack}
use Rattle.cedar_explain.specs.Reached.{IsReached}
use Rattle.cedar_explain.specs.Lacking.{WouldApply}
use Rattle.cedar_explain_printer.specs.Lines.{line_view, all_lines}
use Rattle.cedar_explain_printer.specs.Explanations.{WouldApplyBy, IsLackOf}
use Rattle.cedar_explain_printer.proofs.Reaching.{of_ok, applies_by}
use Rattle.cedar_explain_printer.proofs.requests.lines_of.Goals as goal

pub returns : goal.returns
returns g c =
    let v = c.args.evaluator.now in
    let xs = c.args.explained.now in
    let b = c.args.telling.has_values in
    let ls = c.in_ok-lacks.lacks.items in
    let none = c.in_ok-lacks.ensures.reason in
    of_ok _ (λ out. IsLackOf (IsReached v) xs (mode_view c.args.telling.error_handling) b (map line_view out.items))
    (λ out is. record {
      lacks = ls;
      of_permits = c.in_ok-lacks.ensures.permits;
      would_apply = All-weaker (WouldApply v) (WouldApplyBy (IsReached v)) (applies_by v) ls c.in_ok-lacks.ensures.applies;
      none_beside_a_reason = none;
      lines_are = is ∙ ap (λ (l : List Lack). all_lines b l xs) c.deref.ensures.value;
    })
    c.all_lines-lines.result c.all_lines-lines.ensures
