use Rattle.std.proofs.Common.{◌≡◌, ◌+◌, ◌∷◌, drop, ap, arith}
use Rattle.std.proofs.lemmas.Grind.{common_steps}
use Rattle.cedar_expressions.specs.View.{view}
use Rattle.cedar_restricted.specs.Refusals.{entry_parts}
use Rattle.cedar_restricted.proofs.MadeParts.{none_named, none_found}
use Rattle.cedar_restricted.proofs.FirstParts.{found_in_call, found_in_set, found_in_record, left_is}
use Rattle.cedar_restricted.proofs.FirstParts.{behind, next_found, seen_of, seen_at}
use Rattle.cedar_restricted.proofs.restricted_expr.disallowed.+found.Goals as goal

pub first_found-returns-in-ExtensionFunctionApp-clause-whole :
    goal.first_found-returns-in-ExtensionFunctionApp-clause-whole
first_found-returns-in-ExtensionFunctionApp-clause-whole t c =
    found_in_call c.args.expr.now c.expr_kind.result.now c.in-ExtensionFunctionApp.fn_name
    c.in-ExtensionFunctionApp.args c.deref.result.now c.first_found_of.result c.expr_kind.ensures.node
    c.in-ExtensionFunctionApp.is c.deref.ensures c.first_found_of.ensures.whole

pub first_found-returns-in-Set-clause-whole : goal.first_found-returns-in-Set-clause-whole
first_found-returns-in-Set-clause-whole t c =
    found_in_set c.args.expr.now c.expr_kind.result.now c.in-Set.parts c.deref-in-Set.result.now
    c.first_found_of-in-Set.result c.expr_kind.ensures.node c.in-Set.is c.deref-in-Set.ensures
    c.first_found_of-in-Set.ensures.whole

pub first_found-returns-in-Record-clause-whole : goal.first_found-returns-in-Record-clause-whole
first_found-returns-in-Record-clause-whole t c =
    found_in_record c.args.expr.now c.expr_kind.result.now c.in-Record.pairs c.deref-in-Record.result.now
    c.first_found_at.result c.expr_kind.ensures.node c.in-Record.is c.deref-in-Record.ensures
    c.first_found_at.ensures.whole

pub first_found_of-returns-in-Some-clause-whole : goal.first_found_of-returns-in-Some-clause-whole
first_found_of-returns-in-Some-clause-whole t c =
    next_found c.args.parts.now.items (drop c.parts.part-index c.args.parts.now.items) c.part-item.result
    (drop (c.parts.part-index + 1) c.args.parts.now.items) c.in-Some.found.part.now
    (left_is c.deref-part-items.result.now c.args.parts.now.items c.parts.part-index c.part-item.result
    c.deref-part-items.ensures.value c.parts-test.true c.part-item.is)
    c.parts.invariant.whole c.in-Some.ensures.whole

pub first_found_of-parts-preserved : goal.first_found_of-parts-preserved
first_found_of-parts-preserved t c =
    let left = left_is c.deref-part-items.result.now c.args.parts.now.items c.parts.part-index c.part-item.result
    c.deref-part-items.ensures.value c.parts-test.true c.part-item.is in
    record {
      seen = seen_of _ c.part-item.result _ _ left (none_named _ c.in_default.ensures.view) c.parts.invariant.seen;
      whole = behind _ _ c.part-item.result _ left (none_found (view c.part-item.result) c.in_default.ensures.view)
          c.parts.invariant.whole;
    }

pub first_found_at-returns-in-Some-first_found-clause-whole :
    goal.first_found_at-returns-in-Some-first_found-clause-whole
first_found_at-returns-in-Some-first_found-clause-whole t c =
    let next : c.pairs.part-iterator ≡ (c.in-Some.field-0-0.now, c.in-Some.part.now) ∷ c.next.new.self =
    grind (arith, common_steps) in
    next_found (entry_parts c.args.pairs.now.entries) (entry_parts c.pairs.part-iterator) c.in-Some.part.now
    (entry_parts c.next.new.self) c.in-Some-first_found.first.part.now (ap entry_parts next)
    c.pairs.invariant.whole c.in-Some-first_found.ensures.whole

pub first_found_at-pairs-preserved : goal.first_found_at-pairs-preserved
first_found_at-pairs-preserved t c =
    let next : c.pairs.part-iterator ≡ (c.in-Some.field-0-0.now, c.in-Some.part.now) ∷ c.next.new.self =
    grind (arith, common_steps) in
    record {
      seen = seen_at _ c.in-Some.field-0-0.now c.in-Some.part.now _ _ next
          (none_named _ c.in_default.ensures.view) c.pairs.invariant.seen;
      whole = behind (entry_parts c.args.pairs.now.entries) (entry_parts c.pairs.part-iterator) c.in-Some.part.now
          (entry_parts c.next.new.self) (ap entry_parts next)
          (none_found (view c.in-Some.part.now) c.in_default.ensures.view) c.pairs.invariant.whole;
    }
