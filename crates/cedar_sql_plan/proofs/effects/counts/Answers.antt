use Rattle.std.proofs.Common.{◌≡◌, suc, ◌+◌, ◌∷◌, drop, refl, ap, sym, ◌∙◌, arith}
use Rattle.std.proofs.Math.Seq.{drop-cons}
use Rattle.std.proofs.lemmas.List.{drop_all}
use Rattle.cedar_sql.specs.Terms.{sql_term}
use Rattle.cedar_sql_plan.proofs.Adding.{chain_begins, chain_next, chain_stops}
use Rattle.cedar_sql_plan.proofs.effects.counts.Goals as goal

pub policies-init : goal.policies-init
policies-init c = chain_begins c.args.columns.now c.args.errs_count c.args.policies.now _ (λ parameters row later. refl)

pub policies-preserved : goal.policies-preserved
policies-preserved c =
    let items = c.args.policies.now in
    let i = c.policies.policy-index in
    let item = c.policy-item.result in
    let more : suc i ≡ i + 1 = omega arith in
    let next : drop i items ≡ item ∷ drop (i + 1) items = drop-cons items i item c.policies-test.true ∙ ap (λ p. p ∷ drop (suc i) items) (sym c.policy-item.is) ∙ ap (λ j. item ∷ drop j items) more in
    chain_next c.args.columns.now c.args.errs_count items (drop i items) (drop (i + 1) items) item _ _ next c.policies.invariant c.in_ok-chain.ensures

pub returns : goal.returns
returns c =
    chain_stops c.args.columns.now c.args.errs_count c.args.policies.now _ _
    (drop_all c.policies.policy-index c.args.policies.now c.policies-test.false) c.policies.invariant
