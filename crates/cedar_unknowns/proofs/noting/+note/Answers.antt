-- An expression's term is that of its kind.
use Rattle.std.proofs.Common.{arith}
use Rattle.cedar_expressions.proofs.Loops.{terms_view-drop}
use Rattle.cedar_unknowns.proofs.Noted.{one_noted}
use Rattle.cedar_expressions.proofs.Levels.{kind_view-Lit, kind_view-Var, kind_view-Slot, kind_view-Unknown, kind_view-If, kind_view-And, kind_view-Or, kind_view-UnaryApp, kind_view-BinaryApp, kind_view-ExtensionFunctionApp, kind_view-GetAttr, kind_view-HasAttr, kind_view-ExtHasAttr, kind_view-Like, kind_view-Is, kind_view-Set, kind_view-Record}
use Rattle.cedar_unknowns.proofs.Noted.{noted_each-append}
use Rattle.cedar_unknowns.proofs.noting.+note.Goals as goal

pub note_unknowns-returns-in-Lit : goal.note_unknowns-returns-in-Lit
note_unknowns-returns-in-Lit c = grind (arith, kind_view-Lit)

pub note_unknowns-returns-in-Var : goal.note_unknowns-returns-in-Var
note_unknowns-returns-in-Var c = grind (arith, kind_view-Var)

pub note_unknowns-returns-in-Slot : goal.note_unknowns-returns-in-Slot
note_unknowns-returns-in-Slot c = grind (arith, kind_view-Slot)

pub note_unknowns-returns-in-Unknown : goal.note_unknowns-returns-in-Unknown
note_unknowns-returns-in-Unknown c = grind (arith, kind_view-Unknown)

pub note_unknowns-returns-in-If : goal.note_unknowns-returns-in-If
note_unknowns-returns-in-If c = grind (arith, kind_view-If, noted_each-append)

pub note_unknowns-returns-in-And : goal.note_unknowns-returns-in-And
note_unknowns-returns-in-And c = grind (arith, kind_view-And, noted_each-append)

pub note_unknowns-returns-in-Or : goal.note_unknowns-returns-in-Or
note_unknowns-returns-in-Or c = grind (arith, kind_view-Or, noted_each-append)

pub note_unknowns-returns-in-UnaryApp : goal.note_unknowns-returns-in-UnaryApp
note_unknowns-returns-in-UnaryApp c = grind (arith, kind_view-UnaryApp)

pub note_unknowns-returns-in-BinaryApp : goal.note_unknowns-returns-in-BinaryApp
note_unknowns-returns-in-BinaryApp c = grind (arith, kind_view-BinaryApp, noted_each-append)

pub note_unknowns-returns-in-ExtensionFunctionApp : goal.note_unknowns-returns-in-ExtensionFunctionApp
note_unknowns-returns-in-ExtensionFunctionApp c = grind (arith, kind_view-ExtensionFunctionApp)

pub note_unknowns-returns-in-GetAttr : goal.note_unknowns-returns-in-GetAttr
note_unknowns-returns-in-GetAttr c = grind (arith, kind_view-GetAttr)

pub note_unknowns-returns-in-HasAttr : goal.note_unknowns-returns-in-HasAttr
note_unknowns-returns-in-HasAttr c = grind (arith, kind_view-HasAttr)

pub note_unknowns-returns-in-ExtHasAttr : goal.note_unknowns-returns-in-ExtHasAttr
note_unknowns-returns-in-ExtHasAttr c = grind (arith, kind_view-ExtHasAttr)

pub note_unknowns-returns-in-Like : goal.note_unknowns-returns-in-Like
note_unknowns-returns-in-Like c = grind (arith, kind_view-Like)

pub note_unknowns-returns-in-Is : goal.note_unknowns-returns-in-Is
note_unknowns-returns-in-Is c = grind (arith, kind_view-Is)

pub note_unknowns-returns-in-Set : goal.note_unknowns-returns-in-Set
note_unknowns-returns-in-Set c = grind (arith, kind_view-Set)

pub note_unknowns-returns-in-Record : goal.note_unknowns-returns-in-Record
note_unknowns-returns-in-Record c = grind (arith, kind_view-Record)

pub note_each-parts-preserved : goal.note_each-parts-preserved
note_each-parts-preserved t c =
    one_noted _ _ _ _ _ _ (terms_view-drop c.deref-part-items.result.now c.parts.part-index c.part-item.result c.parts-test.true c.part-item.is) c.in_ok-note_unknowns.ensures c.parts.invariant
