-- An expression names what its kind does.
use Rattle.std.proofs.Common.{◌+◌, ap, drop, arith}
use Rattle.std.proofs.lemmas.List.{append-nil, drop_all}
use Rattle.cedar_lints.specs.Mentions.{mentions, mentions_at, mentions_each}
use Rattle.cedar_lints.proofs.Passing.{drop_next, pushed_more, pushed_all, two_parts}
use Rattle.cedar_lints.proofs.Levels.{mentions_by_kind, kind_mentions-Lit, kind_mentions-Var, kind_mentions-Slot, kind_mentions-Unknown, kind_mentions-If, kind_mentions-And, kind_mentions-Or, kind_mentions-UnaryApp, kind_mentions-BinaryApp, kind_mentions-ExtensionFunctionApp, kind_mentions-GetAttr, kind_mentions-HasAttr, kind_mentions-ExtHasAttr, kind_mentions-Like, kind_mentions-Is, kind_mentions-Set, kind_mentions-Record}
use Rattle.cedar_lints.proofs.mentions.+mention.Goals as goal

pub push_mentions-returns-in-Lit : goal.push_mentions-returns-in-Lit
push_mentions-returns-in-Lit c = grind (arith, mentions_by_kind, kind_mentions-Lit)

pub push_mentions-returns-in-Var : goal.push_mentions-returns-in-Var
push_mentions-returns-in-Var c = grind (arith, mentions_by_kind, kind_mentions-Var, append-nil)

pub push_mentions-returns-in-Slot : goal.push_mentions-returns-in-Slot
push_mentions-returns-in-Slot c = grind (arith, mentions_by_kind, kind_mentions-Slot, append-nil)

pub push_mentions-returns-in-Unknown : goal.push_mentions-returns-in-Unknown
push_mentions-returns-in-Unknown c = grind (arith, mentions_by_kind, kind_mentions-Unknown, append-nil)

pub push_mentions-returns-in-If : goal.push_mentions-returns-in-If
push_mentions-returns-in-If c = grind (arith, mentions_by_kind, kind_mentions-If)

pub push_mentions-returns-in-And : goal.push_mentions-returns-in-And
push_mentions-returns-in-And c = grind (arith, mentions_by_kind, kind_mentions-And)

pub push_mentions-returns-in-Or : goal.push_mentions-returns-in-Or
push_mentions-returns-in-Or c = grind (arith, mentions_by_kind, kind_mentions-Or)

pub push_mentions-returns-in-UnaryApp : goal.push_mentions-returns-in-UnaryApp
push_mentions-returns-in-UnaryApp c = grind (arith, mentions_by_kind, kind_mentions-UnaryApp)

pub push_mentions-returns-in-BinaryApp : goal.push_mentions-returns-in-BinaryApp
push_mentions-returns-in-BinaryApp c = grind (arith, mentions_by_kind, kind_mentions-BinaryApp)

pub push_mentions-returns-in-ExtensionFunctionApp : goal.push_mentions-returns-in-ExtensionFunctionApp
push_mentions-returns-in-ExtensionFunctionApp c = grind (arith, mentions_by_kind, kind_mentions-ExtensionFunctionApp)

pub push_mentions-returns-in-GetAttr : goal.push_mentions-returns-in-GetAttr
push_mentions-returns-in-GetAttr c = grind (arith, mentions_by_kind, kind_mentions-GetAttr)

pub push_mentions-returns-in-HasAttr : goal.push_mentions-returns-in-HasAttr
push_mentions-returns-in-HasAttr c = grind (arith, mentions_by_kind, kind_mentions-HasAttr)

pub push_mentions-returns-in-ExtHasAttr : goal.push_mentions-returns-in-ExtHasAttr
push_mentions-returns-in-ExtHasAttr c = grind (arith, mentions_by_kind, kind_mentions-ExtHasAttr)

pub push_mentions-returns-in-Like : goal.push_mentions-returns-in-Like
push_mentions-returns-in-Like c = grind (arith, mentions_by_kind, kind_mentions-Like)

pub push_mentions-returns-in-Is : goal.push_mentions-returns-in-Is
push_mentions-returns-in-Is c = grind (arith, mentions_by_kind, kind_mentions-Is)

pub push_mentions-returns-in-Set : goal.push_mentions-returns-in-Set
push_mentions-returns-in-Set c = grind (arith, mentions_by_kind, kind_mentions-Set)

pub push_mentions-returns-in-Record : goal.push_mentions-returns-in-Record
push_mentions-returns-in-Record c = grind (arith, mentions_by_kind, kind_mentions-Record)

pub push_two-returns : goal.push_two-returns
push_two-returns t c = two_parts _ _ _ _ _ c.in_ok-push_mentions.ensures c.in_ok-push_mentions-2.ensures

pub push_three-returns : goal.push_three-returns
push_three-returns t c = two_parts _ _ _ _ _ c.in_ok-push_mentions.ensures c.in_ok-push_two.ensures

pub push_test-returns : goal.push_test-returns
push_test-returns t c = two_parts _ _ _ _ _ c.in_ok-push_mentions.ensures c.in_ok-put.ensures

pub push_each-parts-preserved : goal.push_each-parts-preserved
push_each-parts-preserved t c =
    let xs = c.deref-part-items.result.now in
    let i = c.parts.part-index in
    let x = c.part-item.result in
    pushed_more _ _ _ (mentions x) (mentions_each (drop (i + 1) xs)) (mentions_each (drop i xs))
    (ap mentions_each (drop_next xs i x c.parts-test.true c.part-item.is)) c.in_ok-push_mentions.ensures
    c.parts.invariant

pub push_each-returns : goal.push_each-returns
push_each-returns t c = pushed_all _ _ _
    (ap mentions_each (drop_all c.parts.part-index c.deref-part-items.result.now c.parts-test.false)) c.parts.invariant

pub push_at-parts-preserved : goal.push_at-parts-preserved
push_at-parts-preserved t c =
    pushed_more _ _ _ (mentions c.in-Some.part.now) (mentions_at c.next.new.self) (mentions_at c.parts.part-iterator)
    (ap mentions_at c.in-Some.ensures.steps) c.in_ok-push_mentions.ensures c.parts.invariant

pub push_at-returns : goal.push_at-returns
push_at-returns t c = pushed_all _ _ _ (ap mentions_at c.in-None.ensures.steps.0) c.parts.invariant
