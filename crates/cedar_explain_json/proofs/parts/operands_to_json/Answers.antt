-- One operand after another.
use Rattle.std.proofs.Common.{◌≡◌, suc, ◌+◌, List, ◌∷◌, ◌++◌, map, drop, sym, ap, ◌∙◌, arith}
use Rattle.std.proofs.Math.Seq.{drop-cons}
use Rattle.std.proofs.lemmas.List.{drop_all}
use Rattle.json.specs.Json.{Json}
use Rattle.cedar_json_writer.specs.Trees.{json_view}
use Rattle.cedar_json_writer.proofs.Trees.{view_array}
use Rattle.std.specs.Borrow.{Bor}
use Rattle.cedar_model.specs.Terms.{Term}
use Rattle.cedar_expressions.specs.declared.expr.Expr.{Expr}
use Rattle.cedar_expressions.specs.View.{view}
use Rattle.cedar_layers.specs.Policies.{slots_view}
use Rattle.cedar_explain.specs.Reached.{IsReached}
use Rattle.cedar_explain_json.specs.Documents.{IsOperandJson}
use Rattle.cedar_explain_json.specs.Operands.{terms_seen}
use Rattle.cedar_explain_json.proofs.Each.{each_more, each_all}
use Rattle.cedar_explain_json.proofs.parts.operands_to_json.Goals as goal

pub operands-preserved : goal.operands-preserved
operands-preserved g c =
    let Is : Term → Json → Type 0 = IsOperandJson (IsReached c.args.evaluator.now (slots_view c.args.slots.now)) in
    let items = c.args.operands.now in
    let i = c.operands.operand-index in
    let item = c.operand-item.result in
    let more : suc i ≡ i + 1 = omega arith in
    let next : drop i items ≡ item ∷ drop (i + 1) items =
    drop-cons items i item c.operands-test.true ∙ ap (λ p. p ∷ drop (suc i) items) (sym c.operand-item.is)
    ∙ ap (λ j. item ∷ drop j items) more in
    each_more Is (terms_seen items) (terms_seen (drop i items)) (terms_seen (drop (i + 1) items)) (view item.now) _ _
    (ap terms_seen next) c.in_ok-add_operand.ensures c.operands.invariant

pub returns : goal.returns
returns g c =
    let Is : Term → Json → Type 0 = IsOperandJson (IsReached c.args.evaluator.now (slots_view c.args.slots.now)) in
    let items = c.args.operands.now in (
      map json_view c.operands.items.items,
      each_all Is (terms_seen items) (terms_seen (drop c.operands.operand-index items))
          (map json_view c.operands.items.items)
          (ap terms_seen (drop_all c.operands.operand-index items c.operands-test.false)) c.operands.invariant,
      view_array c.operands.items,
    )
