-- Each policy, as `explain_request` promises it.
use Rattle.std.proofs.Common.{map, List, subst}
use Rattle.cedar_decisions.specs.Decisions.{mode_view}
use Rattle.cedar_explain.specs.declared.requests.ExplainedPolicy.{ExplainedPolicy}
use Rattle.cedar_explain.specs.Reached.{IsReached}
use Rattle.cedar_explain_printer.specs.Lines.{line_view}
use Rattle.cedar_explain_printer.specs.Explanations.{IsLackOf, IsExplanation}
use Rattle.cedar_explain_printer.proofs.Reaching.{of_ok}
use Rattle.cedar_explain_printer.proofs.requests.lines_by.Goals as goal

pub returns : goal.returns
returns g c =
    let v = c.args.evaluator.now in
    let mode = mode_view c.args.telling.error_handling in
    let b = c.args.telling.has_values in
    of_ok _ (λ out. IsExplanation (IsReached v) c.args.policies.now mode b (map line_view out.items))
    (λ out is. record {
      explained = c.in_ok-explained.explained.items;
      policies_are = c.in_ok-explained.ensures.policies;
      parts = c.in_ok-explained.ensures.parts;
      reached = c.in_ok-explained.ensures.reached;
      decide = c.in_ok-explained.ensures.decides;
      needed = c.in_ok-explained.ensures.needed;
      told = subst (λ (xs : List ExplainedPolicy). IsLackOf (IsReached v) xs mode b (map line_view out.items)) c.deref.ensures.value is;
    })
    c.lines_of-lines.result c.lines_of-lines.ensures
