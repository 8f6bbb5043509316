-- An expression's term is that of its kind.
use Rattle.std.proofs.Common.{ap, sym, ◌∙◌}
use Rattle.cedar_layers.specs.Kinds.{type_test_parts}
use Rattle.cedar_expressions.specs.View.{kind_view}
use Rattle.cedar_expressions.proofs.Levels.{kind_view-Lit, kind_view-Var, kind_view-Slot, kind_view-Unknown, kind_view-If, kind_view-And, kind_view-Or, kind_view-UnaryApp, kind_view-BinaryApp, kind_view-ExtensionFunctionApp, kind_view-GetAttr, kind_view-HasAttr, kind_view-ExtHasAttr, kind_view-Like, kind_view-Set, kind_view-Record}
use Rattle.cedar_layers.proofs.policies.kinds.as_is.Goals as goal

pub returns-in-Lit : goal.returns-in-Lit
returns-in-Lit c =
    sym (ap type_test_parts (sym c.expr_kind.ensures.view ∙ ap kind_view c.in-Lit.is ∙ kind_view-Lit _))

pub returns-in-Var : goal.returns-in-Var
returns-in-Var c =
    sym (ap type_test_parts (sym c.expr_kind.ensures.view ∙ ap kind_view c.in-Var.is ∙ kind_view-Var _))

pub returns-in-Slot : goal.returns-in-Slot
returns-in-Slot c =
    sym (ap type_test_parts (sym c.expr_kind.ensures.view ∙ ap kind_view c.in-Slot.is ∙ kind_view-Slot _))

pub returns-in-Unknown : goal.returns-in-Unknown
returns-in-Unknown c =
    sym (ap type_test_parts (sym c.expr_kind.ensures.view ∙ ap kind_view c.in-Unknown.is ∙ kind_view-Unknown _))

pub returns-in-If : goal.returns-in-If
returns-in-If c =
    sym (ap type_test_parts (sym c.expr_kind.ensures.view ∙ ap kind_view c.in-If.is ∙ kind_view-If _ _ _))

pub returns-in-And : goal.returns-in-And
returns-in-And c =
    sym (ap type_test_parts (sym c.expr_kind.ensures.view ∙ ap kind_view c.in-And.is ∙ kind_view-And _ _))

pub returns-in-Or : goal.returns-in-Or
returns-in-Or c =
    sym (ap type_test_parts (sym c.expr_kind.ensures.view ∙ ap kind_view c.in-Or.is ∙ kind_view-Or _ _))

pub returns-in-UnaryApp : goal.returns-in-UnaryApp
returns-in-UnaryApp c =
    sym (ap type_test_parts (sym c.expr_kind.ensures.view ∙ ap kind_view c.in-UnaryApp.is ∙ kind_view-UnaryApp _ _))

pub returns-in-BinaryApp : goal.returns-in-BinaryApp
returns-in-BinaryApp c =
    sym (ap type_test_parts (sym c.expr_kind.ensures.view ∙ ap kind_view c.in-BinaryApp.is ∙ kind_view-BinaryApp _ _ _))

pub returns-in-ExtensionFunctionApp : goal.returns-in-ExtensionFunctionApp
returns-in-ExtensionFunctionApp c =
    sym (ap type_test_parts (sym c.expr_kind.ensures.view ∙ ap kind_view c.in-ExtensionFunctionApp.is ∙ kind_view-ExtensionFunctionApp _ _))

pub returns-in-GetAttr : goal.returns-in-GetAttr
returns-in-GetAttr c =
    sym (ap type_test_parts (sym c.expr_kind.ensures.view ∙ ap kind_view c.in-GetAttr.is ∙ kind_view-GetAttr _ _))

pub returns-in-HasAttr : goal.returns-in-HasAttr
returns-in-HasAttr c =
    sym (ap type_test_parts (sym c.expr_kind.ensures.view ∙ ap kind_view c.in-HasAttr.is ∙ kind_view-HasAttr _ _))

pub returns-in-ExtHasAttr : goal.returns-in-ExtHasAttr
returns-in-ExtHasAttr c =
    sym (ap type_test_parts (sym c.expr_kind.ensures.view ∙ ap kind_view c.in-ExtHasAttr.is ∙ kind_view-ExtHasAttr _ _))

pub returns-in-Like : goal.returns-in-Like
returns-in-Like c =
    sym (ap type_test_parts (sym c.expr_kind.ensures.view ∙ ap kind_view c.in-Like.is ∙ kind_view-Like _ _))

pub returns-in-Set : goal.returns-in-Set
returns-in-Set c =
    sym (ap type_test_parts (sym c.expr_kind.ensures.view ∙ ap kind_view c.in-Set.is ∙ kind_view-Set _))

pub returns-in-Record : goal.returns-in-Record
returns-in-Record c =
    sym (ap type_test_parts (sym c.expr_kind.ensures.view ∙ ap kind_view c.in-Record.is ∙ kind_view-Record _))
