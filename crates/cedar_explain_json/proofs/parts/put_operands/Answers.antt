-- They are put, unless values are left out.
use Rattle.std.proofs.Common.{refl, sym, subst, append-nil, Bool, [], OnOk}
use Rattle.cedar_expressions.specs.View.{view}
use Rattle.cedar_layers.specs.Policies.{slots_view}
use Rattle.cedar_json_writer.specs.Trees.{members_seen}
use Rattle.cedar_explain.specs.Reached.{IsReached}
use Rattle.cedar_explain_json.specs.Documents.{AddsOperands}
use Rattle.cedar_explain_json.proofs.parts.put_operands.Goals as goal

pub returns-then-has_values : goal.returns-then-has_values
returns-then-has_values g c =
    subst (λ (b : Bool). OnOk c.put_array.result (AddsOperands b (IsReached c.args.evaluator.now (slots_view c.args.slots.now))
    (view c.args.part.now) (members_seen c.args.members.now.items) (members_seen c.put_array.new.members.items)))
    (sym c.if-has_values.true) c.put_array.ensures

pub returns-else-has_values : goal.returns-else-has_values
returns-else-has_values g c =
    let old = members_seen c.args.members.now.items in
    subst (λ (b : Bool). AddsOperands b (IsReached c.args.evaluator.now (slots_view c.args.slots.now)) (view c.args.part.now) old old)
    (sym c.if-has_values.false) ([], refl, sym (append-nil old))
