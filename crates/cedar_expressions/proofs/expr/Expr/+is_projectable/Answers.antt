-- An expression's term is that of its kind.
use Rattle.std.proofs.Common.{ap, sym, ◌∙◌, arith}
use Rattle.cedar_model.specs.Shapes.{is_projectable}
use Rattle.cedar_expressions.specs.View.{kind_view}
use Rattle.cedar_expressions.proofs.Levels.{view_by_kind, kind_view-Lit, kind_view-Var, kind_view-Slot, kind_view-Unknown, kind_view-If, kind_view-And, kind_view-Or, kind_view-UnaryApp, kind_view-BinaryApp, kind_view-ExtensionFunctionApp, kind_view-GetAttr, kind_view-HasAttr, kind_view-ExtHasAttr, kind_view-Like, kind_view-Is, kind_view-Set, kind_view-Record}
use Rattle.cedar_expressions.proofs.expr.Expr.+is_projectable.Goals as goal

pub is_projectable-returns-in-Lit : goal.is_projectable-returns-in-Lit
is_projectable-returns-in-Lit t c =
    sym (ap is_projectable (view_by_kind c.args.self.now ∙ ap kind_view c.in-Lit.is ∙ kind_view-Lit _))

pub is_projectable-returns-in-Var : goal.is_projectable-returns-in-Var
is_projectable-returns-in-Var t c =
    sym (ap is_projectable (view_by_kind c.args.self.now ∙ ap kind_view c.in-Var.is ∙ kind_view-Var _))

pub is_projectable-returns-in-Slot : goal.is_projectable-returns-in-Slot
is_projectable-returns-in-Slot t c =
    sym (ap is_projectable (view_by_kind c.args.self.now ∙ ap kind_view c.in-Slot.is ∙ kind_view-Slot _))

pub is_projectable-returns-in-Unknown : goal.is_projectable-returns-in-Unknown
is_projectable-returns-in-Unknown t c =
    sym (ap is_projectable (view_by_kind c.args.self.now ∙ ap kind_view c.in-Unknown.is ∙ kind_view-Unknown _))

pub is_projectable-returns-in-If : goal.is_projectable-returns-in-If
is_projectable-returns-in-If t c =
    sym (ap is_projectable (view_by_kind c.args.self.now ∙ ap kind_view c.in-If.is ∙ kind_view-If _ _ _))

pub is_projectable-returns-in-And : goal.is_projectable-returns-in-And
is_projectable-returns-in-And t c =
    sym (ap is_projectable (view_by_kind c.args.self.now ∙ ap kind_view c.in-And.is ∙ kind_view-And _ _))

pub is_projectable-returns-in-Or : goal.is_projectable-returns-in-Or
is_projectable-returns-in-Or t c =
    sym (ap is_projectable (view_by_kind c.args.self.now ∙ ap kind_view c.in-Or.is ∙ kind_view-Or _ _))

pub is_projectable-returns-in-UnaryApp : goal.is_projectable-returns-in-UnaryApp
is_projectable-returns-in-UnaryApp t c =
    sym (ap is_projectable (view_by_kind c.args.self.now ∙ ap kind_view c.in-UnaryApp.is ∙ kind_view-UnaryApp _ _))

pub is_projectable-returns-in-BinaryApp : goal.is_projectable-returns-in-BinaryApp
is_projectable-returns-in-BinaryApp t c =
    sym (ap is_projectable (view_by_kind c.args.self.now ∙ ap kind_view c.in-BinaryApp.is ∙ kind_view-BinaryApp _ _ _))

pub is_projectable-returns-in-ExtensionFunctionApp : goal.is_projectable-returns-in-ExtensionFunctionApp
is_projectable-returns-in-ExtensionFunctionApp t c =
    sym (ap is_projectable (view_by_kind c.args.self.now ∙ ap kind_view c.in-ExtensionFunctionApp.is ∙ kind_view-ExtensionFunctionApp _ _))

pub is_projectable-returns-in-GetAttr : goal.is_projectable-returns-in-GetAttr
is_projectable-returns-in-GetAttr t c =
    sym (ap is_projectable (view_by_kind c.args.self.now ∙ ap kind_view c.in-GetAttr.is ∙ kind_view-GetAttr _ _))

pub is_projectable-returns-in-HasAttr : goal.is_projectable-returns-in-HasAttr
is_projectable-returns-in-HasAttr t c =
    sym (ap is_projectable (view_by_kind c.args.self.now ∙ ap kind_view c.in-HasAttr.is ∙ kind_view-HasAttr _ _))

pub is_projectable-returns-in-ExtHasAttr : goal.is_projectable-returns-in-ExtHasAttr
is_projectable-returns-in-ExtHasAttr t c =
    sym (ap is_projectable (view_by_kind c.args.self.now ∙ ap kind_view c.in-ExtHasAttr.is ∙ kind_view-ExtHasAttr _ _))

pub is_projectable-returns-in-Like : goal.is_projectable-returns-in-Like
is_projectable-returns-in-Like t c =
    sym (ap is_projectable (view_by_kind c.args.self.now ∙ ap kind_view c.in-Like.is ∙ kind_view-Like _ _))

pub is_projectable-returns-in-Is : goal.is_projectable-returns-in-Is
is_projectable-returns-in-Is t c =
    sym (ap is_projectable (view_by_kind c.args.self.now ∙ ap kind_view c.in-Is.is ∙ kind_view-Is _ _))

pub is_projectable-returns-in-Set : goal.is_projectable-returns-in-Set
is_projectable-returns-in-Set t c = grind (arith, view_by_kind, kind_view-Set)

pub is_projectable-returns-in-Record : goal.is_projectable-returns-in-Record
is_projectable-returns-in-Record t c = grind (arith, view_by_kind, kind_view-Record)
