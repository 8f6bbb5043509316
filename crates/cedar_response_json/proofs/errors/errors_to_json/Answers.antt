use Rattle.std.proofs.Common.{◌≡◌, List, [], ◌++◌, map, drop, append-nil, sym, ap, subst, arith}
use Rattle.std.proofs.lemmas.List.{drop_all}
use Rattle.json.specs.Json.{Json}
use Rattle.cedar_model.specs.Terms.{Text}
use Rattle.cedar_model.specs.Failures.{Failure}
use Rattle.cedar_authorizer.specs.responses.Responses.{error_view, errors_view}
use Rattle.cedar_json_writer.specs.Trees.{json_view}
use Rattle.cedar_json_writer.proofs.Trees.{view_array}
use Rattle.cedar_json_writer.proofs.Listed.{errors_drop}
use Rattle.cedar_response_json.specs.Errors.{AreEachError}
use Rattle.cedar_response_json.proofs.Listed.{error_left}
use Rattle.cedar_response_json.proofs.errors.errors_to_json.Goals as goal

pub errors-preserved : goal.errors-preserved
errors-preserved c =
    error_left (error_view c.error-item.result) _ _ (json_view c.in_ok-item.item) (errors_view c.args.errors.now) (map json_view c.errors.items.items) _
    (errors_drop c.args.errors.now c.errors.error-index c.error-item.result c.errors-test.true c.error-item.is)
    c.in_ok-item.ensures c.in_ok-put_item.ensures c.errors.invariant

pub returns : goal.returns
returns c =
    let es = errors_view c.args.errors.now in
    let none : errors_view (drop c.errors.error-index c.args.errors.now) ≡ [] = ap errors_view (drop_all c.errors.error-index c.args.errors.now (omega (arith, c.errors-test.false))) in
    let each : AreEachError es (map json_view c.errors.items.items ++ []) = c.errors.invariant [] (subst (λ (left : List (Text × Failure)). AreEachError left []) (sym none) tt) in
    (map json_view c.errors.items.items, subst (λ (js : List Json). AreEachError es js) (append-nil (map json_view c.errors.items.items)) each, view_array c.errors.items)
