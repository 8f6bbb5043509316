use Rattle.std.proofs.Common.{arith, ◌≡◌, [], ◌∷◌, ◌++◌, sym, ap, ◌∙◌, subst, append_assoc}
use Rattle.std.specs.List.Sorted.{IsStrictlySortedBy}
use Rattle.std.specs.Map.{keys_of}
use Rattle.cedar_expressions.specs.Mappings.{mapping_of}
use Rattle.cedar_expressions.specs.View.{fields_view}
use Rattle.cedar_expressions.proofs.Records.{order}
use Rattle.cedar_expressions.proofs.Levels.{kind_view-Lit, kind_view-Var, kind_view-Slot, kind_view-Unknown, kind_view-If, kind_view-And, kind_view-Or, kind_view-UnaryApp, kind_view-BinaryApp, kind_view-ExtensionFunctionApp, kind_view-GetAttr, kind_view-HasAttr, kind_view-ExtHasAttr, kind_view-Like, kind_view-Is, kind_view-Set, kind_view-Record}
use Rattle.cedar_expressions.proofs.Substitution.{substituted-literal, substituted-variable, substituted-slot, substituted-unknown, substituted-set, substituted-record, substituted_at-none, replaced_all, put_step}
use Rattle.cedar_expressions.proofs.expr.+substitute.Goals as goal

pub Expr::substitute_each-returns : goal.Expr::substitute_each-returns
Expr::substitute_each-returns g t c =
    replaced_all (mapping_of g.V.AsExpression.represents c.args.map.now.entries) c.args.parts.now.items c.deref-part-items.result.now c.parts.part-index _ c.deref-part-items.ensures.value c.parts-test.false c.parts.invariant

pub Expr::substitute_at-pairs-init : goal.Expr::substitute_at-pairs-init
Expr::substitute_at-pairs-init g t c =
    let m = mapping_of g.V.AsExpression.represents c.args.map.now.entries in
    ([], cc, ap fields_view c.new-new_pairs.ensures.empty ∙ sym (substituted_at-none m))

pub Expr::substitute_at-pairs-preserved : goal.Expr::substitute_at-pairs-preserved
Expr::substitute_at-pairs-preserved g t c =
    let m = mapping_of g.V.AsExpression.represents c.args.map.now.entries in
    let l = c.pairs in
    let done = l.invariant.0 in
    let key = c.in-Some.key.now in
    let part = c.in-Some.part.now in
    let left = c.next.new.self in
    let all : c.args.pairs.now.entries ≡ done ++ (key, part) ∷ left = l.invariant.1 ∙ ap (λ es. done ++ es) c.in-Some.ensures.steps in
    let sorted = subst (λ es. IsStrictlySortedBy order (keys_of es)) all c.iter-key-items.ensures.ordered in (
      done ++ (key, part) ∷ [],
      all ∙ sym (append_assoc done ((key, part) ∷ []) left),
      put_step m l.new_pairs.entries c.insert.new.self.entries done left c.in_ok-name.name key c.in_ok-substitute.field-0 part sorted c.in_ok-insert.ensures.entries c.in_ok-name.ensures.cases c.in_ok-substitute.ensures.view l.invariant.2,
    )

pub ExprKind::substitute-returns-in_ok-clone-in-Lit : goal.ExprKind::substitute-returns-in_ok-clone-in-Lit
ExprKind::substitute-returns-in_ok-clone-in-Lit g t c = grind (arith, kind_view-Lit, substituted-literal)

pub ExprKind::substitute-returns-in-Var : goal.ExprKind::substitute-returns-in-Var
ExprKind::substitute-returns-in-Var g t c = grind (arith, kind_view-Var, substituted-variable)

pub ExprKind::substitute-returns-in-Slot : goal.ExprKind::substitute-returns-in-Slot
ExprKind::substitute-returns-in-Slot g t c = grind (arith, kind_view-Slot, substituted-slot)

pub ExprKind::substitute-returns-in-Unknown : goal.ExprKind::substitute-returns-in-Unknown
ExprKind::substitute-returns-in-Unknown g t c = grind (arith, kind_view-Unknown, substituted-unknown)

pub ExprKind::substitute-returns-in-If : goal.ExprKind::substitute-returns-in-If
ExprKind::substitute-returns-in-If g t c = grind (arith, kind_view-If)

pub ExprKind::substitute-returns-in-And : goal.ExprKind::substitute-returns-in-And
ExprKind::substitute-returns-in-And g t c = grind (arith, kind_view-And)

pub ExprKind::substitute-returns-in-Or : goal.ExprKind::substitute-returns-in-Or
ExprKind::substitute-returns-in-Or g t c = grind (arith, kind_view-Or)

pub ExprKind::substitute-returns-in-UnaryApp : goal.ExprKind::substitute-returns-in-UnaryApp
ExprKind::substitute-returns-in-UnaryApp g t c = grind (arith, kind_view-UnaryApp)

pub ExprKind::substitute-returns-in-BinaryApp : goal.ExprKind::substitute-returns-in-BinaryApp
ExprKind::substitute-returns-in-BinaryApp g t c = grind (arith, kind_view-BinaryApp)

pub ExprKind::substitute-returns-in-ExtensionFunctionApp : goal.ExprKind::substitute-returns-in-ExtensionFunctionApp
ExprKind::substitute-returns-in-ExtensionFunctionApp g t c = grind (arith, kind_view-ExtensionFunctionApp)

pub ExprKind::substitute-returns-in-GetAttr : goal.ExprKind::substitute-returns-in-GetAttr
ExprKind::substitute-returns-in-GetAttr g t c = grind (arith, kind_view-GetAttr)

pub ExprKind::substitute-returns-in-HasAttr : goal.ExprKind::substitute-returns-in-HasAttr
ExprKind::substitute-returns-in-HasAttr g t c = grind (arith, kind_view-HasAttr)

pub ExprKind::substitute-returns-in-ExtHasAttr : goal.ExprKind::substitute-returns-in-ExtHasAttr
ExprKind::substitute-returns-in-ExtHasAttr g t c = grind (arith, kind_view-ExtHasAttr)

pub ExprKind::substitute-returns-in-Like : goal.ExprKind::substitute-returns-in-Like
ExprKind::substitute-returns-in-Like g t c = grind (arith, kind_view-Like)

pub ExprKind::substitute-returns-in-Is : goal.ExprKind::substitute-returns-in-Is
ExprKind::substitute-returns-in-Is g t c = grind (arith, kind_view-Is)

pub ExprKind::substitute-returns-in_ok-substitute_each-in-Set : goal.ExprKind::substitute-returns-in_ok-substitute_each-in-Set
ExprKind::substitute-returns-in_ok-substitute_each-in-Set g t c = grind (arith, kind_view-Set, substituted-set)

pub ExprKind::substitute-returns-in_ok-substitute_at-in-Record : goal.ExprKind::substitute-returns-in_ok-substitute_at-in-Record
ExprKind::substitute-returns-in_ok-substitute_at-in-Record g t c = grind (arith, kind_view-Record, substituted-record)
