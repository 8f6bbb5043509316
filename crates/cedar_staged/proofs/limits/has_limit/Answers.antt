use Rattle.std.proofs.Common.{◌≡◌, suc, ◌+◌, ◌∷◌, drop, ap, sym, ◌∙◌, arith}
use Rattle.std.proofs.Math.Seq.{drop-cons}
use Rattle.std.proofs.lemmas.List.{drop_all}
use Rattle.cedar_authorizer.proofs.Limits.{is_here, not_here, nowhere}
use Rattle.cedar_staged.proofs.limits.has_limit.Goals as goal

pub returns-then-is_recursion_limit : goal.returns-then-is_recursion_limit
returns-then-is_recursion_limit c =
    let items = c.args.errors.now in
    let i = c.errors.error-index in
    let item = c.error-item.result in
    let next : drop i items ≡ item ∷ drop (suc i) items = drop-cons items i item c.errors-test.true ∙ ap (λ p. p ∷ drop (suc i) items) (sym c.error-item.is) in
    sym (is_here (drop i items) (drop (suc i) items) item next (sym c.is_recursion_limit.ensures ∙ c.if-is_recursion_limit.true)) ∙ c.errors.invariant

pub errors-preserved : goal.errors-preserved
errors-preserved c =
    let items = c.args.errors.now in
    let i = c.errors.error-index in
    let item = c.error-item.result in
    let more : suc i ≡ i + 1 = omega arith in
    let next : drop i items ≡ item ∷ drop (i + 1) items = drop-cons items i item c.errors-test.true ∙ ap (λ p. p ∷ drop (suc i) items) (sym c.error-item.is) ∙ ap (λ j. item ∷ drop j items) more in
    sym (not_here (drop i items) (drop (i + 1) items) item next (sym c.is_recursion_limit.ensures ∙ c.if-is_recursion_limit.false)) ∙ c.errors.invariant

pub returns : goal.returns
returns c =
    let none = drop_all c.errors.error-index c.args.errors.now c.errors-test.false in
    sym (nowhere (drop c.errors.error-index c.args.errors.now) none) ∙ c.errors.invariant
