-- One policy after another.
use Rattle.std.proofs.Common.{◌≡◌, suc, ◌+◌, List, ◌∷◌, ◌++◌, map, drop, sym, ap, ◌∙◌, arith}
use Rattle.std.proofs.Math.Seq.{drop-cons}
use Rattle.std.proofs.lemmas.List.{drop_all}
use Rattle.json.specs.Json.{Json}
use Rattle.cedar_json_writer.specs.Trees.{json_view}
use Rattle.cedar_json_writer.proofs.Trees.{view_array}
use Rattle.cedar_places.specs.Texts.{text_in}
use Rattle.cedar_explain.specs.declared.requests.ExplainedPolicy.{ExplainedPolicy}
use Rattle.cedar_explain.specs.Reached.{IsReached}
use Rattle.cedar_explain_json.specs.Documents.{IsPolicyJson}
use Rattle.cedar_explain_json.proofs.Each.{each_more, each_all}
use Rattle.cedar_explain_json.proofs.policies.policies_to_json.Goals as goal

pub policies-preserved : goal.policies-preserved
policies-preserved g c =
    let Is : ExplainedPolicy → Json → Type 0 =
    IsPolicyJson (text_in c.args.places.now) c.args.has_values (IsReached c.args.evaluator.now) in
    let items = c.args.explained.now in
    let i = c.policies.policy-index in
    let item = c.policy-item.result in
    let more : suc i ≡ i + 1 = omega arith in
    let next : drop i items ≡ item ∷ drop (i + 1) items =
    drop-cons items i item c.policies-test.true ∙ ap (λ p. p ∷ drop (suc i) items) (sym c.policy-item.is)
    ∙ ap (λ j. item ∷ drop j items) more in
    each_more Is items (drop i items) (drop (i + 1) items) item _ _ next c.in_ok-add_policy.ensures c.policies.invariant

pub returns : goal.returns
returns g c =
    let Is : ExplainedPolicy → Json → Type 0 =
    IsPolicyJson (text_in c.args.places.now) c.args.has_values (IsReached c.args.evaluator.now) in
    let items = c.args.explained.now in (
      map json_view c.policies.items.items,
      each_all Is items (drop c.policies.policy-index items) (map json_view c.policies.items.items)
          (drop_all c.policies.policy-index items c.policies-test.false) c.policies.invariant,
      view_array c.policies.items,
    )
