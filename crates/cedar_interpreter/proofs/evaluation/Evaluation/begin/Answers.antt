use Rattle.std.proofs.Common.{ℕ, sym, ap, ◌∙◌}
use Rattle.cedar_model.specs.Settings.{RequestPart}
use Rattle.cedar_expressions.specs.Nodes.{parts_below, kind_parts}
use Rattle.cedar_expressions.proofs.NodeLevels.{kind_node-Set}
use Rattle.cedar_interpreter.proofs.ElementLaws.{set_next, no_set_next}
use Rattle.cedar_model.specs.Terms.{literal, slot, if_then_else, both, either, unary, call, set_of, record_of}
use Rattle.cedar_names.specs.Names.{name_text}
use Rattle.cedar_names.specs.Leaves.{literal_view, slot_view, unary_view}
use Rattle.cedar_expressions.specs.View.{view, terms_view, fields_view, expr_loc}
use Rattle.cedar_expressions.proofs.Levels as levels
use Rattle.cedar_interpreter.specs.Settings.{evaluation_setting, calls_in}
use Rattle.cedar_interpreter.specs.Tasks.{Starts}
use Rattle.cedar_interpreter.proofs.ContinuationLaws.{starts_in}
use Rattle.cedar_interpreter.proofs.Seen.{seen, starts_seen}
use Rattle.cedar_interpreter.proofs.evaluation.Evaluation.begin.Goals as goal

pub returns-in-Lit-clause-starts : goal.returns-in-Lit-clause-starts
returns-in-Lit-clause-starts g c =
    starts_seen c.args.self.now c.args.levels c.args.whole.now c.begin_literal.result (seen (levels.kind_view-Lit _) c.in-Lit.is c.expr_kind.ensures.view)
    (starts_in c.args.self.now c.args.levels c.args.whole.now (literal (literal_view c.in-Lit.value)) c.begin_literal.result c.begin_literal.ensures)

pub returns-in-Var-clause-starts : goal.returns-in-Var-clause-starts
returns-in-Var-clause-starts g c =
    starts_seen c.args.self.now c.args.levels c.args.whole.now c.begin_variable.result (seen (levels.kind_view-Var _) c.in-Var.is c.expr_kind.ensures.view)
    (c.begin_variable.ensures c.args.levels)

pub returns-in-Slot-clause-starts : goal.returns-in-Slot-clause-starts
returns-in-Slot-clause-starts g c =
    starts_seen c.args.self.now c.args.levels c.args.whole.now c.begin_slot.result (seen (levels.kind_view-Slot _) c.in-Slot.is c.expr_kind.ensures.view)
    (starts_in c.args.self.now c.args.levels c.args.whole.now (slot (slot_view c.in-Slot.slot)) c.begin_slot.result c.begin_slot.ensures)

pub returns-in-If-clause-starts : goal.returns-in-If-clause-starts
returns-in-If-clause-starts g c =
    starts_seen c.args.self.now c.args.levels c.args.whole.now c.begin_if.result (seen (levels.kind_view-If _ _ _) c.in-If.is c.expr_kind.ensures.view)
    (starts_in c.args.self.now c.args.levels c.args.whole.now (if_then_else (view c.in-If.test_expr.value) (view c.in-If.then_expr.value) (view c.in-If.else_expr.value)) c.begin_if.result c.begin_if.ensures)

pub returns-in-And-clause-starts : goal.returns-in-And-clause-starts
returns-in-And-clause-starts g c =
    starts_seen c.args.self.now c.args.levels c.args.whole.now c.begin_and_or.result (seen (levels.kind_view-And _ _) c.in-And.is c.expr_kind.ensures.view)
    (starts_in c.args.self.now c.args.levels c.args.whole.now (both (view c.in-And.left.value) (view c.in-And.right.value)) c.begin_and_or.result c.begin_and_or.ensures)

pub returns-in-Or-clause-starts : goal.returns-in-Or-clause-starts
returns-in-Or-clause-starts g c =
    starts_seen c.args.self.now c.args.levels c.args.whole.now c.begin_and_or-in-Or.result (seen (levels.kind_view-Or _ _) c.in-Or.is c.expr_kind.ensures.view)
    (starts_in c.args.self.now c.args.levels c.args.whole.now (either (view c.in-Or.left.value) (view c.in-Or.right.value)) c.begin_and_or-in-Or.result c.begin_and_or-in-Or.ensures)

pub returns-in-UnaryApp-clause-starts : goal.returns-in-UnaryApp-clause-starts
returns-in-UnaryApp-clause-starts g c =
    starts_seen c.args.self.now c.args.levels c.args.whole.now c.begin_unary.result (seen (levels.kind_view-UnaryApp _ _) c.in-UnaryApp.is c.expr_kind.ensures.view)
    (starts_in c.args.self.now c.args.levels c.args.whole.now (unary (unary_view c.in-UnaryApp.op) (view c.in-UnaryApp.arg.value)) c.begin_unary.result c.begin_unary.ensures)

pub returns-in-BinaryApp-clause-starts : goal.returns-in-BinaryApp-clause-starts
returns-in-BinaryApp-clause-starts g c =
    starts_seen c.args.self.now c.args.levels c.args.whole.now c.begin_binary.result (seen (levels.kind_view-BinaryApp _ _ _) c.in-BinaryApp.is c.expr_kind.ensures.view)
    (c.begin_binary.ensures)

pub returns-in-ExtensionFunctionApp-clause-starts : goal.returns-in-ExtensionFunctionApp-clause-starts
returns-in-ExtensionFunctionApp-clause-starts g c =
    starts_seen c.args.self.now c.args.levels c.args.whole.now c.begin_call.result (seen (levels.kind_view-ExtensionFunctionApp _ _) c.in-ExtensionFunctionApp.is c.expr_kind.ensures.view)
    (starts_in c.args.self.now c.args.levels c.args.whole.now (call (name_text c.in-ExtensionFunctionApp.fn_name) (terms_view c.in-ExtensionFunctionApp.args.value.items)) c.begin_call.result c.begin_call.ensures)

pub returns-in-GetAttr-clause-starts : goal.returns-in-GetAttr-clause-starts
returns-in-GetAttr-clause-starts g c =
    starts_seen c.args.self.now c.args.levels c.args.whole.now c.begin_attribute.result (seen (levels.kind_view-GetAttr _ _) c.in-GetAttr.is c.expr_kind.ensures.view)
    (c.begin_attribute.ensures)

pub returns-in-HasAttr-clause-starts : goal.returns-in-HasAttr-clause-starts
returns-in-HasAttr-clause-starts g c =
    starts_seen c.args.self.now c.args.levels c.args.whole.now c.begin_has.result (seen (levels.kind_view-HasAttr _ _) c.in-HasAttr.is c.expr_kind.ensures.view)
    (c.begin_has.ensures)

pub returns-in-ExtHasAttr-clause-starts : goal.returns-in-ExtHasAttr-clause-starts
returns-in-ExtHasAttr-clause-starts g c =
    starts_seen c.args.self.now c.args.levels c.args.whole.now c.begin_extended_has.result (seen (levels.kind_view-ExtHasAttr _ _) c.in-ExtHasAttr.is c.expr_kind.ensures.view)
    (c.begin_extended_has.ensures)

pub returns-in-Like-clause-starts : goal.returns-in-Like-clause-starts
returns-in-Like-clause-starts g c =
    starts_seen c.args.self.now c.args.levels c.args.whole.now c.begin_like.result (seen (levels.kind_view-Like _ _) c.in-Like.is c.expr_kind.ensures.view)
    c.begin_like.ensures

pub returns-in-Is-clause-starts : goal.returns-in-Is-clause-starts
returns-in-Is-clause-starts g c =
    starts_seen c.args.self.now c.args.levels c.args.whole.now c.begin_is.result (seen (levels.kind_view-Is _ _) c.in-Is.is c.expr_kind.ensures.view)
    c.begin_is.ensures

pub returns-in-Set-clause-starts : goal.returns-in-Set-clause-starts
returns-in-Set-clause-starts g c =
    starts_seen c.args.self.now c.args.levels c.args.whole.now c.begin_set.result (seen (levels.kind_view-Set _) c.in-Set.is c.expr_kind.ensures.view)
    (starts_in c.args.self.now c.args.levels c.args.whole.now (set_of (terms_view c.in-Set.parts.value.items)) c.begin_set.result c.begin_set.ensures.starts)

pub returns-in-Record-clause-starts : goal.returns-in-Record-clause-starts
returns-in-Record-clause-starts g c =
    let is : (r : RequestPart) (k : ℕ) → Starts (evaluation_setting r c.args.self.now) (calls_in c.args.self.now) k (expr_loc c.args.whole.now.value) (record_of (fields_view c.in-Record.pairs.value.entries)) c.begin_record.result = λ r k. rw (c.deref.ensures) at c.begin_record.ensures r k in
    starts_seen c.args.self.now c.args.levels c.args.whole.now c.begin_record.result (seen (levels.kind_view-Record _) c.in-Record.is c.expr_kind.ensures.view)
    (starts_in c.args.self.now c.args.levels c.args.whole.now (record_of (fields_view c.in-Record.pairs.value.entries)) c.begin_record.result is)

pub returns-in-Unknown-clause-starts : goal.returns-in-Unknown-clause-starts
returns-in-Unknown-clause-starts g c =
    starts_in c.args.self.now c.args.levels c.args.whole.now (view c.args.e.now) c.begin_unknown.result c.begin_unknown.ensures

pub returns-in-Set-clause-elements : goal.returns-in-Set-clause-elements
returns-in-Set-clause-elements g c =
    set_next c.args.e.now c.in-Set.parts.value.items c.begin_set.result
    (ap kind_parts (sym c.expr_kind.ensures.node ∙ c.in-Set.is) ∙ ap parts_below (kind_node-Set c.in-Set.parts)) c.begin_set.ensures.elements

pub returns-in-Lit-clause-elements : goal.returns-in-Lit-clause-elements
returns-in-Lit-clause-elements g c =
    no_set_next c.args.e.now _ c.begin_literal.result (seen (levels.kind_view-Lit _) c.in-Lit.is c.expr_kind.ensures.view) (λ ts is. cc)

pub returns-in-Var-clause-elements : goal.returns-in-Var-clause-elements
returns-in-Var-clause-elements g c =
    no_set_next c.args.e.now _ c.begin_variable.result (seen (levels.kind_view-Var _) c.in-Var.is c.expr_kind.ensures.view) (λ ts is. cc)

pub returns-in-Slot-clause-elements : goal.returns-in-Slot-clause-elements
returns-in-Slot-clause-elements g c =
    no_set_next c.args.e.now _ c.begin_slot.result (seen (levels.kind_view-Slot _) c.in-Slot.is c.expr_kind.ensures.view) (λ ts is. cc)

pub returns-in-Unknown-clause-elements : goal.returns-in-Unknown-clause-elements
returns-in-Unknown-clause-elements g c =
    no_set_next c.args.e.now _ c.begin_unknown.result (seen (levels.kind_view-Unknown _) c.in-Unknown.is c.expr_kind.ensures.view) (λ ts is. cc)

pub returns-in-If-clause-elements : goal.returns-in-If-clause-elements
returns-in-If-clause-elements g c =
    no_set_next c.args.e.now _ c.begin_if.result (seen (levels.kind_view-If _ _ _) c.in-If.is c.expr_kind.ensures.view) (λ ts is. cc)

pub returns-in-And-clause-elements : goal.returns-in-And-clause-elements
returns-in-And-clause-elements g c =
    no_set_next c.args.e.now _ c.begin_and_or.result (seen (levels.kind_view-And _ _) c.in-And.is c.expr_kind.ensures.view) (λ ts is. cc)

pub returns-in-Or-clause-elements : goal.returns-in-Or-clause-elements
returns-in-Or-clause-elements g c =
    no_set_next c.args.e.now _ c.begin_and_or-in-Or.result (seen (levels.kind_view-Or _ _) c.in-Or.is c.expr_kind.ensures.view) (λ ts is. cc)

pub returns-in-UnaryApp-clause-elements : goal.returns-in-UnaryApp-clause-elements
returns-in-UnaryApp-clause-elements g c =
    no_set_next c.args.e.now _ c.begin_unary.result (seen (levels.kind_view-UnaryApp _ _) c.in-UnaryApp.is c.expr_kind.ensures.view) (λ ts is. cc)

pub returns-in-BinaryApp-clause-elements : goal.returns-in-BinaryApp-clause-elements
returns-in-BinaryApp-clause-elements g c =
    no_set_next c.args.e.now _ c.begin_binary.result (seen (levels.kind_view-BinaryApp _ _ _) c.in-BinaryApp.is c.expr_kind.ensures.view) (λ ts is. cc)

pub returns-in-ExtensionFunctionApp-clause-elements : goal.returns-in-ExtensionFunctionApp-clause-elements
returns-in-ExtensionFunctionApp-clause-elements g c =
    no_set_next c.args.e.now _ c.begin_call.result (seen (levels.kind_view-ExtensionFunctionApp _ _) c.in-ExtensionFunctionApp.is c.expr_kind.ensures.view) (λ ts is. cc)

pub returns-in-GetAttr-clause-elements : goal.returns-in-GetAttr-clause-elements
returns-in-GetAttr-clause-elements g c =
    no_set_next c.args.e.now _ c.begin_attribute.result (seen (levels.kind_view-GetAttr _ _) c.in-GetAttr.is c.expr_kind.ensures.view) (λ ts is. cc)

pub returns-in-HasAttr-clause-elements : goal.returns-in-HasAttr-clause-elements
returns-in-HasAttr-clause-elements g c =
    no_set_next c.args.e.now _ c.begin_has.result (seen (levels.kind_view-HasAttr _ _) c.in-HasAttr.is c.expr_kind.ensures.view) (λ ts is. cc)

pub returns-in-ExtHasAttr-clause-elements : goal.returns-in-ExtHasAttr-clause-elements
returns-in-ExtHasAttr-clause-elements g c =
    no_set_next c.args.e.now _ c.begin_extended_has.result (seen (levels.kind_view-ExtHasAttr _ _) c.in-ExtHasAttr.is c.expr_kind.ensures.view) (λ ts is. cc)

pub returns-in-Like-clause-elements : goal.returns-in-Like-clause-elements
returns-in-Like-clause-elements g c =
    no_set_next c.args.e.now _ c.begin_like.result (seen (levels.kind_view-Like _ _) c.in-Like.is c.expr_kind.ensures.view) (λ ts is. cc)

pub returns-in-Is-clause-elements : goal.returns-in-Is-clause-elements
returns-in-Is-clause-elements g c =
    no_set_next c.args.e.now _ c.begin_is.result (seen (levels.kind_view-Is _ _) c.in-Is.is c.expr_kind.ensures.view) (λ ts is. cc)

pub returns-in-Record-clause-elements : goal.returns-in-Record-clause-elements
returns-in-Record-clause-elements g c =
    no_set_next c.args.e.now _ c.begin_record.result (seen (levels.kind_view-Record _) c.in-Record.is c.expr_kind.ensures.view) (λ ts is. cc)
