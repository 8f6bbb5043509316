-- An expression's node is that of its kind.
use Rattle.std.proofs.Common.{ap, sym, ◌∙◌}
use Rattle.cedar_expressions.specs.Nodes.{kind_node, literal_at}
use Rattle.cedar_expressions.proofs.NodeLevels.{kind_node-Var, kind_node-Slot, kind_node-Unknown, kind_node-If, kind_node-And, kind_node-Or, kind_node-UnaryApp, kind_node-BinaryApp, kind_node-ExtensionFunctionApp, kind_node-GetAttr, kind_node-HasAttr, kind_node-ExtHasAttr, kind_node-Like, kind_node-Is, kind_node-Set, kind_node-Record}
use Rattle.cedar_lints.proofs.mentions.literal_in.Goals as goal

pub returns-in-Var : goal.returns-in-Var
returns-in-Var c =
    sym (ap literal_at (sym (ap kind_node c.expr_kind.ensures.node) ∙ ap kind_node c.in-Var.is ∙ kind_node-Var _))

pub returns-in-Slot : goal.returns-in-Slot
returns-in-Slot c =
    sym (ap literal_at (sym (ap kind_node c.expr_kind.ensures.node) ∙ ap kind_node c.in-Slot.is ∙ kind_node-Slot _))

pub returns-in-Unknown : goal.returns-in-Unknown
returns-in-Unknown c =
    sym (ap literal_at
    (sym (ap kind_node c.expr_kind.ensures.node) ∙ ap kind_node c.in-Unknown.is ∙ kind_node-Unknown _))

pub returns-in-If : goal.returns-in-If
returns-in-If c =
    sym (ap literal_at (sym (ap kind_node c.expr_kind.ensures.node) ∙ ap kind_node c.in-If.is ∙ kind_node-If _ _ _))

pub returns-in-And : goal.returns-in-And
returns-in-And c =
    sym (ap literal_at (sym (ap kind_node c.expr_kind.ensures.node) ∙ ap kind_node c.in-And.is ∙ kind_node-And _ _))

pub returns-in-Or : goal.returns-in-Or
returns-in-Or c =
    sym (ap literal_at (sym (ap kind_node c.expr_kind.ensures.node) ∙ ap kind_node c.in-Or.is ∙ kind_node-Or _ _))

pub returns-in-UnaryApp : goal.returns-in-UnaryApp
returns-in-UnaryApp c =
    sym (ap literal_at
    (sym (ap kind_node c.expr_kind.ensures.node) ∙ ap kind_node c.in-UnaryApp.is ∙ kind_node-UnaryApp _ _))

pub returns-in-BinaryApp : goal.returns-in-BinaryApp
returns-in-BinaryApp c =
    sym (ap literal_at
    (sym (ap kind_node c.expr_kind.ensures.node) ∙ ap kind_node c.in-BinaryApp.is ∙ kind_node-BinaryApp _ _ _))

pub returns-in-ExtensionFunctionApp : goal.returns-in-ExtensionFunctionApp
returns-in-ExtensionFunctionApp c =
    sym (ap literal_at
    (sym (ap kind_node c.expr_kind.ensures.node) ∙ ap kind_node c.in-ExtensionFunctionApp.is
    ∙ kind_node-ExtensionFunctionApp _ _))

pub returns-in-GetAttr : goal.returns-in-GetAttr
returns-in-GetAttr c =
    sym (ap literal_at
    (sym (ap kind_node c.expr_kind.ensures.node) ∙ ap kind_node c.in-GetAttr.is ∙ kind_node-GetAttr _ _))

pub returns-in-HasAttr : goal.returns-in-HasAttr
returns-in-HasAttr c =
    sym (ap literal_at
    (sym (ap kind_node c.expr_kind.ensures.node) ∙ ap kind_node c.in-HasAttr.is ∙ kind_node-HasAttr _ _))

pub returns-in-ExtHasAttr : goal.returns-in-ExtHasAttr
returns-in-ExtHasAttr c =
    sym (ap literal_at
    (sym (ap kind_node c.expr_kind.ensures.node) ∙ ap kind_node c.in-ExtHasAttr.is ∙ kind_node-ExtHasAttr _ _))

pub returns-in-Like : goal.returns-in-Like
returns-in-Like c =
    sym (ap literal_at (sym (ap kind_node c.expr_kind.ensures.node) ∙ ap kind_node c.in-Like.is ∙ kind_node-Like _ _))

pub returns-in-Is : goal.returns-in-Is
returns-in-Is c =
    sym (ap literal_at (sym (ap kind_node c.expr_kind.ensures.node) ∙ ap kind_node c.in-Is.is ∙ kind_node-Is _ _))

pub returns-in-Set : goal.returns-in-Set
returns-in-Set c =
    sym (ap literal_at (sym (ap kind_node c.expr_kind.ensures.node) ∙ ap kind_node c.in-Set.is ∙ kind_node-Set _))

pub returns-in-Record : goal.returns-in-Record
returns-in-Record c =
    sym (ap literal_at (sym (ap kind_node c.expr_kind.ensures.node) ∙ ap kind_node c.in-Record.is ∙ kind_node-Record _))
