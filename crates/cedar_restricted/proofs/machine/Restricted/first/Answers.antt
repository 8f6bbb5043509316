use Rattle.std.proofs.Common.{◌≡◌, ◌≢◌, sym, ap, ◌∙◌, subst}
use Rattle.cedar_model.specs.Terms.{Term, Terms, record_of, set_of}
use Rattle.cedar_model.specs.Shapes.{is_restricted}
use Rattle.cedar_expressions.specs.declared.expr.Expr.{Expr}
use Rattle.cedar_expressions.specs.View.{view, kind_view, fields_view}
use Rattle.cedar_expressions.specs.Nodes.{parts_below, kind_parts}
use Rattle.cedar_expressions.proofs.Levels as levels
use Rattle.cedar_expressions.proofs.NodeLevels.{kind_node-Set}
use Rattle.cedar_restricted.specs.Frames.{NextPart}
use Rattle.cedar_restricted.specs.Elements.{SetLeads, StepStands}
use Rattle.cedar_restricted.specs.Laws.{below_any}
use Rattle.cedar_restricted.proofs.machine.Restricted.first.Goals as goal

-- what is no set stands
no_set : (e : Expr) (t : Term) (s : NextPart) → view e ≡ t → ((ts : Terms) → t ≢ set_of ts) → StepStands e s
no_set e t s seen other = λ ts is. absurd (other ts (sym seen ∙ is))

pub begin_literal-requires : goal.begin_literal-requires
begin_literal-requires g c = sym c.expr_kind.ensures.view ∙ ap kind_view c.in-Lit.is ∙ levels.kind_view-Lit _

pub returns-in-Lit-clause-elements : goal.returns-in-Lit-clause-elements
returns-in-Lit-clause-elements g c = no_set c.args.e.now _ _ (sym c.expr_kind.ensures.view ∙ ap kind_view c.in-Lit.is ∙ levels.kind_view-Lit _) (λ ts is. cc)

pub returns-in-Lit-clause-below : goal.returns-in-Lit-clause-below
returns-in-Lit-clause-below g c = below_any _

pub begin_unknown-requires : goal.begin_unknown-requires
begin_unknown-requires g c = sym c.expr_kind.ensures.view ∙ ap kind_view c.in-Unknown.is ∙ levels.kind_view-Unknown _

pub returns-in-Unknown-clause-elements : goal.returns-in-Unknown-clause-elements
returns-in-Unknown-clause-elements g c = no_set c.args.e.now _ _ (sym c.expr_kind.ensures.view ∙ ap kind_view c.in-Unknown.is ∙ levels.kind_view-Unknown _) (λ ts is. cc)

pub returns-in-Unknown-clause-below : goal.returns-in-Unknown-clause-below
returns-in-Unknown-clause-below g c = below_any _

pub begin_set-requires : goal.begin_set-requires
begin_set-requires g c = sym c.expr_kind.ensures.view ∙ ap kind_view c.in-Set.is ∙ levels.kind_view-Set _

pub returns-in-Set-clause-elements : goal.returns-in-Set-clause-elements
returns-in-Set-clause-elements g c ts is =
    subst (λ l. SetLeads l c.begin_set.result)
    (sym (ap kind_parts (sym c.expr_kind.ensures.node ∙ c.in-Set.is) ∙ ap parts_below (kind_node-Set c.in-Set.parts)))
    c.begin_set.ensures.elements

pub returns-in-Set-clause-below : goal.returns-in-Set-clause-below
returns-in-Set-clause-below g c = below_any _

pub begin_record-requires : goal.begin_record-requires
begin_record-requires g c = sym c.expr_kind.ensures.view ∙ ap kind_view c.in-Record.is ∙ levels.kind_view-Record _ ∙
    ap (λ m. record_of (fields_view m.entries)) (sym c.deref.ensures)

pub returns-in-Record-clause-elements : goal.returns-in-Record-clause-elements
returns-in-Record-clause-elements g c = no_set c.args.e.now _ _ (sym c.expr_kind.ensures.view ∙ ap kind_view c.in-Record.is ∙ levels.kind_view-Record _) (λ ts is. cc)

pub returns-in-Record-clause-below : goal.returns-in-Record-clause-below
returns-in-Record-clause-below g c = below_any _

pub begin_call-requires : goal.begin_call-requires
begin_call-requires g c = sym c.expr_kind.ensures.view ∙ ap kind_view c.in-ExtensionFunctionApp.is ∙ levels.kind_view-ExtensionFunctionApp _ _

pub returns-in-ExtensionFunctionApp-clause-elements : goal.returns-in-ExtensionFunctionApp-clause-elements
returns-in-ExtensionFunctionApp-clause-elements g c = no_set c.args.e.now _ _ (sym c.expr_kind.ensures.view ∙ ap kind_view c.in-ExtensionFunctionApp.is ∙ levels.kind_view-ExtensionFunctionApp _ _) (λ ts is. cc)

pub returns-in-ExtensionFunctionApp-clause-below : goal.returns-in-ExtensionFunctionApp-clause-below
returns-in-ExtensionFunctionApp-clause-below g c = below_any _

pub refuse_kind-requires : goal.refuse_kind-requires
refuse_kind-requires g c = ap is_restricted (sym c.expr_kind.ensures.view ∙ ap kind_view c.in-Var.is ∙ levels.kind_view-Var _)

pub returns-in-Var-clause-elements : goal.returns-in-Var-clause-elements
returns-in-Var-clause-elements g c = no_set c.args.e.now _ _ (sym c.expr_kind.ensures.view ∙ ap kind_view c.in-Var.is ∙ levels.kind_view-Var _) (λ ts is. cc)

pub returns-in-Var-clause-below : goal.returns-in-Var-clause-below
returns-in-Var-clause-below g c = below_any _

pub refuse_kind-requires-in-Slot : goal.refuse_kind-requires-in-Slot
refuse_kind-requires-in-Slot g c = ap is_restricted (sym c.expr_kind.ensures.view ∙ ap kind_view c.in-Slot.is ∙ levels.kind_view-Slot _)

pub returns-in-Slot-clause-elements : goal.returns-in-Slot-clause-elements
returns-in-Slot-clause-elements g c = no_set c.args.e.now _ _ (sym c.expr_kind.ensures.view ∙ ap kind_view c.in-Slot.is ∙ levels.kind_view-Slot _) (λ ts is. cc)

pub returns-in-Slot-clause-below : goal.returns-in-Slot-clause-below
returns-in-Slot-clause-below g c = below_any _

pub refuse_kind-requires-in-If : goal.refuse_kind-requires-in-If
refuse_kind-requires-in-If g c = ap is_restricted (sym c.expr_kind.ensures.view ∙ ap kind_view c.in-If.is ∙ levels.kind_view-If _ _ _)

pub returns-in-If-clause-elements : goal.returns-in-If-clause-elements
returns-in-If-clause-elements g c = no_set c.args.e.now _ _ (sym c.expr_kind.ensures.view ∙ ap kind_view c.in-If.is ∙ levels.kind_view-If _ _ _) (λ ts is. cc)

pub returns-in-If-clause-below : goal.returns-in-If-clause-below
returns-in-If-clause-below g c = below_any _

pub refuse_kind-requires-in-And : goal.refuse_kind-requires-in-And
refuse_kind-requires-in-And g c = ap is_restricted (sym c.expr_kind.ensures.view ∙ ap kind_view c.in-And.is ∙ levels.kind_view-And _ _)

pub returns-in-And-clause-elements : goal.returns-in-And-clause-elements
returns-in-And-clause-elements g c = no_set c.args.e.now _ _ (sym c.expr_kind.ensures.view ∙ ap kind_view c.in-And.is ∙ levels.kind_view-And _ _) (λ ts is. cc)

pub returns-in-And-clause-below : goal.returns-in-And-clause-below
returns-in-And-clause-below g c = below_any _

pub refuse_kind-requires-in-Or : goal.refuse_kind-requires-in-Or
refuse_kind-requires-in-Or g c = ap is_restricted (sym c.expr_kind.ensures.view ∙ ap kind_view c.in-Or.is ∙ levels.kind_view-Or _ _)

pub returns-in-Or-clause-elements : goal.returns-in-Or-clause-elements
returns-in-Or-clause-elements g c = no_set c.args.e.now _ _ (sym c.expr_kind.ensures.view ∙ ap kind_view c.in-Or.is ∙ levels.kind_view-Or _ _) (λ ts is. cc)

pub returns-in-Or-clause-below : goal.returns-in-Or-clause-below
returns-in-Or-clause-below g c = below_any _

pub refuse_kind-requires-in-UnaryApp : goal.refuse_kind-requires-in-UnaryApp
refuse_kind-requires-in-UnaryApp g c = ap is_restricted (sym c.expr_kind.ensures.view ∙ ap kind_view c.in-UnaryApp.is ∙ levels.kind_view-UnaryApp _ _)

pub returns-in-UnaryApp-clause-elements : goal.returns-in-UnaryApp-clause-elements
returns-in-UnaryApp-clause-elements g c = no_set c.args.e.now _ _ (sym c.expr_kind.ensures.view ∙ ap kind_view c.in-UnaryApp.is ∙ levels.kind_view-UnaryApp _ _) (λ ts is. cc)

pub returns-in-UnaryApp-clause-below : goal.returns-in-UnaryApp-clause-below
returns-in-UnaryApp-clause-below g c = below_any _

pub refuse_kind-requires-in-BinaryApp : goal.refuse_kind-requires-in-BinaryApp
refuse_kind-requires-in-BinaryApp g c = ap is_restricted (sym c.expr_kind.ensures.view ∙ ap kind_view c.in-BinaryApp.is ∙ levels.kind_view-BinaryApp _ _ _)

pub returns-in-BinaryApp-clause-elements : goal.returns-in-BinaryApp-clause-elements
returns-in-BinaryApp-clause-elements g c = no_set c.args.e.now _ _ (sym c.expr_kind.ensures.view ∙ ap kind_view c.in-BinaryApp.is ∙ levels.kind_view-BinaryApp _ _ _) (λ ts is. cc)

pub returns-in-BinaryApp-clause-below : goal.returns-in-BinaryApp-clause-below
returns-in-BinaryApp-clause-below g c = below_any _

pub refuse_kind-requires-in-GetAttr : goal.refuse_kind-requires-in-GetAttr
refuse_kind-requires-in-GetAttr g c = ap is_restricted (sym c.expr_kind.ensures.view ∙ ap kind_view c.in-GetAttr.is ∙ levels.kind_view-GetAttr _ _)

pub returns-in-GetAttr-clause-elements : goal.returns-in-GetAttr-clause-elements
returns-in-GetAttr-clause-elements g c = no_set c.args.e.now _ _ (sym c.expr_kind.ensures.view ∙ ap kind_view c.in-GetAttr.is ∙ levels.kind_view-GetAttr _ _) (λ ts is. cc)

pub returns-in-GetAttr-clause-below : goal.returns-in-GetAttr-clause-below
returns-in-GetAttr-clause-below g c = below_any _

pub refuse_kind-requires-in-HasAttr : goal.refuse_kind-requires-in-HasAttr
refuse_kind-requires-in-HasAttr g c = ap is_restricted (sym c.expr_kind.ensures.view ∙ ap kind_view c.in-HasAttr.is ∙ levels.kind_view-HasAttr _ _)

pub returns-in-HasAttr-clause-elements : goal.returns-in-HasAttr-clause-elements
returns-in-HasAttr-clause-elements g c = no_set c.args.e.now _ _ (sym c.expr_kind.ensures.view ∙ ap kind_view c.in-HasAttr.is ∙ levels.kind_view-HasAttr _ _) (λ ts is. cc)

pub returns-in-HasAttr-clause-below : goal.returns-in-HasAttr-clause-below
returns-in-HasAttr-clause-below g c = below_any _

pub refuse_kind-requires-in-ExtHasAttr : goal.refuse_kind-requires-in-ExtHasAttr
refuse_kind-requires-in-ExtHasAttr g c = ap is_restricted (sym c.expr_kind.ensures.view ∙ ap kind_view c.in-ExtHasAttr.is ∙ levels.kind_view-ExtHasAttr _ _)

pub returns-in-ExtHasAttr-clause-elements : goal.returns-in-ExtHasAttr-clause-elements
returns-in-ExtHasAttr-clause-elements g c = no_set c.args.e.now _ _ (sym c.expr_kind.ensures.view ∙ ap kind_view c.in-ExtHasAttr.is ∙ levels.kind_view-ExtHasAttr _ _) (λ ts is. cc)

pub returns-in-ExtHasAttr-clause-below : goal.returns-in-ExtHasAttr-clause-below
returns-in-ExtHasAttr-clause-below g c = below_any _

pub refuse_kind-requires-in-Like : goal.refuse_kind-requires-in-Like
refuse_kind-requires-in-Like g c = ap is_restricted (sym c.expr_kind.ensures.view ∙ ap kind_view c.in-Like.is ∙ levels.kind_view-Like _ _)

pub returns-in-Like-clause-elements : goal.returns-in-Like-clause-elements
returns-in-Like-clause-elements g c = no_set c.args.e.now _ _ (sym c.expr_kind.ensures.view ∙ ap kind_view c.in-Like.is ∙ levels.kind_view-Like _ _) (λ ts is. cc)

pub returns-in-Like-clause-below : goal.returns-in-Like-clause-below
returns-in-Like-clause-below g c = below_any _

pub refuse_kind-requires-in-Is : goal.refuse_kind-requires-in-Is
refuse_kind-requires-in-Is g c = ap is_restricted (sym c.expr_kind.ensures.view ∙ ap kind_view c.in-Is.is ∙ levels.kind_view-Is _ _)

pub returns-in-Is-clause-elements : goal.returns-in-Is-clause-elements
returns-in-Is-clause-elements g c = no_set c.args.e.now _ _ (sym c.expr_kind.ensures.view ∙ ap kind_view c.in-Is.is ∙ levels.kind_view-Is _ _) (λ ts is. cc)

pub returns-in-Is-clause-below : goal.returns-in-Is-clause-below
returns-in-Is-clause-below g c = below_any _
