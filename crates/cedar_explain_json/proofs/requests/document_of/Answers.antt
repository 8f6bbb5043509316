-- What is lacking, as `lacking` promises it.
use Rattle.std.proofs.Common.{refl, List, subst}
use Rattle.std.proofs.lemmas.List.Elements.{All-weaker}
use Rattle.cedar_decisions.specs.Decisions.{mode_view}
use Rattle.cedar_json_writer.specs.Trees.{json_view}
use Rattle.cedar_explain.specs.declared.lacks.Lack.{Lack}
use Rattle.cedar_explain.specs.Reached.{IsReached}
use Rattle.cedar_explain.specs.Lacking.{WouldApply}
use Rattle.cedar_explain_printer.specs.Lines.{all_lines}
use Rattle.cedar_explain_printer.specs.Explanations.{WouldApplyBy}
use Rattle.cedar_explain_json.specs.Documents.{IsDocument}
use Rattle.cedar_explain_json.specs.Explanations.{IsLackJson}
use Rattle.cedar_explain_json.proofs.Reaching.{of_ok, applies_by}
use Rattle.cedar_explain_json.proofs.requests.document_of.Goals as goal

pub returns : goal.returns
returns g c =
    let v = c.args.evaluator.now in
    let xs = c.args.explained.now in
    let b = c.args.telling.has_values in
    let ls = c.in_ok-lacks.lacks.items in
    let text = c.args.text.now in
    of_ok _ (λ out. IsLackJson text (IsReached v) xs (mode_view c.args.telling.error_handling) b (json_view out))
    (λ out is. record {
      lines = all_lines b ls xs;
      told = record {
        lacks = ls;
        of_permits = c.in_ok-lacks.ensures.permits;
        would_apply = All-weaker (WouldApply v) (WouldApplyBy (IsReached v)) (applies_by v) ls c.in_ok-lacks.ensures.applies;
        none_beside_a_reason = c.in_ok-lacks.ensures.reason;
        lines_are = refl;
      };
      document = subst (λ (l : List Lack). IsDocument text b (IsReached v) l xs (json_view out)) c.deref.ensures.value is;
    })
    c.whole_document-document.result c.whole_document-document.ensures
