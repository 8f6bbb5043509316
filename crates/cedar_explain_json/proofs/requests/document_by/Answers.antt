-- Each policy, as `explain_request` promises it.
use Rattle.std.proofs.Common.{List, subst}
use Rattle.cedar_decisions.specs.Decisions.{mode_view}
use Rattle.cedar_json_writer.specs.Trees.{json_view}
use Rattle.cedar_explain.specs.declared.requests.ExplainedPolicy.{ExplainedPolicy}
use Rattle.cedar_explain.specs.Reached.{IsReached}
use Rattle.cedar_explain_json.specs.Explanations.{IsLackJson, IsExplanationJson}
use Rattle.cedar_explain_json.proofs.Reaching.{of_ok}
use Rattle.cedar_explain_json.proofs.requests.document_by.Goals as goal

pub returns : goal.returns
returns g c =
    let v = c.args.evaluator.now in
    let mode = mode_view c.args.telling.error_handling in
    let b = c.args.telling.has_values in
    let text = c.args.text.now in
    of_ok _ (λ out. IsExplanationJson text (IsReached v) c.args.policies.now mode b (json_view out))
    (λ out is.
    let lack : IsLackJson text (IsReached v) c.in_ok-explained.explained.items mode b (json_view out) =
    subst (λ (xs : List ExplainedPolicy). IsLackJson text (IsReached v) xs mode b (json_view out)) c.deref.ensures.value is in
    record {
      lines = lack.lines;
      explanation = record {
        explained = c.in_ok-explained.explained.items;
        policies_are = c.in_ok-explained.ensures.policies;
        parts = c.in_ok-explained.ensures.parts;
        reached = c.in_ok-explained.ensures.reached;
        decide = c.in_ok-explained.ensures.decides;
        needed = c.in_ok-explained.ensures.needed;
        told = lack.told;
      };
      document = lack.document;
    })
    c.document_of-document.result c.document_of-document.ensures
