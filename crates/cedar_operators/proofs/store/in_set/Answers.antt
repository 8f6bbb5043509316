use Rattle.std.proofs.Common.{◌≡◌, suc, ◌+◌, ◌∷◌, drop, ap, sym, refl, ◌∙◌, arith}
use Rattle.std.proofs.Math.Seq.{drop-cons}
use Rattle.std.proofs.lemmas.List.{drop_all}
use Rattle.cedar_model.specs.Failures.{answers_value}
use Rattle.cedar_operators.proofs.Elements.{elements_in, next_tested, next_refused, all_tested}
use Rattle.cedar_operators.proofs.store.in_set.Goals.{then-is_found, else-is_found}
use Rattle.cedar_operators.proofs.store.in_set.Goals as goal

pub elements-init : goal.elements-init
elements-init c = rw c.as_slice-element-items.ensures.all refl

pub elements-preserved : goal.elements-preserved
elements-preserved c =
    let items = c.as_slice-element-items.result.now in
    let i = c.elements.element-index in
    let item = c.element-item.result in
    let more : suc i ≡ i + 1 = omega arith in
    let next : drop i items ≡ item ∷ drop (i + 1) items = drop-cons items i item c.elements-test.true ∙ ap (λ p. p ∷ drop (suc i) items) (sym c.element-item.is) ∙ ap (λ j. item ∷ drop j items) more in
    let tested = next_tested _ _ c.elements.is_found (drop i items) (drop (i + 1) items) item _ _ c.elements.invariant next c.in-Ok.ensures.ok in
    elim c.if-is_found.branch [ then-is_found w ↦ rw (w.is_found-is, w.if-is_found.true) (rw w.if-is_found.true at tested) | else-is_found w ↦ rw (w.is_found-is, w.is_in_one-is_found.ensures, w.deref.ensures) (rw w.if-is_found.false at tested) ]

pub returns-in-Err : goal.returns-in-Err
returns-in-Err c =
    let items = c.as_slice-element-items.result.now in
    let i = c.elements.element-index in
    let item = c.element-item.result in
    let more : suc i ≡ i + 1 = omega arith in
    let next : drop i items ≡ item ∷ drop (i + 1) items = drop-cons items i item c.elements-test.true ∙ ap (λ p. p ∷ drop (suc i) items) (sym c.element-item.is) ∙ ap (λ j. item ∷ drop j items) more in
    next_refused _ _ c.elements.is_found (drop i items) (drop (i + 1) items) item _ _ c.elements.invariant next c.in-Err.ensures.no_entity c.in-Err.ensures.error

pub returns : goal.returns
returns c =
    let none = drop_all c.elements.element-index c.as_slice-element-items.result.now c.elements-test.false in
    λ ok. ap answers_value c.bool_value.ensures ∙ sym (all_tested _ _ c.elements.is_found _ (ap elements_in none)) ∙ c.elements.invariant
