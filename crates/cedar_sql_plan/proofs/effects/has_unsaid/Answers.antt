use Rattle.std.proofs.Common.{◌≡◌, suc, ◌+◌, ◌∷◌, drop, ap, sym, ◌∙◌, arith}
use Rattle.std.proofs.Math.Seq.{drop-cons}
use Rattle.std.proofs.lemmas.List.{drop_all}
use Rattle.cedar_sql_plan.proofs.Adding.{unsaid_here, said_here, none_unsaid}
use Rattle.cedar_sql_plan.proofs.effects.has_unsaid.Goals as goal

pub returns-then-is_unsaid : goal.returns-then-is_unsaid
returns-then-is_unsaid c =
    let items = c.args.policies.now in
    let i = c.policies.policy-index in
    let item = c.policy-item.result in
    let next : drop i items ≡ item ∷ drop (suc i) items = drop-cons items i item c.policies-test.true ∙ ap (λ p. p ∷ drop (suc i) items) (sym c.policy-item.is) in
    unsaid_here c.args.columns.now (drop i items) (drop (suc i) items) item next c.is_unsaid.result c.is_unsaid.ensures c.if-is_unsaid.true
    ∙ c.policies.invariant

pub policies-preserved : goal.policies-preserved
policies-preserved c =
    let items = c.args.policies.now in
    let i = c.policies.policy-index in
    let item = c.policy-item.result in
    let more : suc i ≡ i + 1 = omega arith in
    let next : drop i items ≡ item ∷ drop (i + 1) items = drop-cons items i item c.policies-test.true ∙ ap (λ p. p ∷ drop (suc i) items) (sym c.policy-item.is) ∙ ap (λ j. item ∷ drop j items) more in
    said_here c.args.columns.now (drop i items) (drop (i + 1) items) item next c.is_unsaid.result c.is_unsaid.ensures c.if-is_unsaid.false
    ∙ c.policies.invariant

pub returns : goal.returns
returns c =
    sym (none_unsaid c.args.columns.now (drop c.policies.policy-index c.args.policies.now)
    (drop_all c.policies.policy-index c.args.policies.now c.policies-test.false)) ∙ c.policies.invariant
