use Rattle.std.proofs.Common.{◌≡◌, suc, ◌+◌, ◌∷◌, drop, ap, sym, ◌∙◌, arith}
use Rattle.std.proofs.Math.Seq.{drop-cons}
use Rattle.std.proofs.lemmas.List.{drop_all}
use Rattle.cedar_layers.specs.Stores.{entity_name, entity_view}
use Rattle.cedar_plan.proofs.Walked.{one_counts, one_untold, all_counted, all_told}
use Rattle.cedar_plan.proofs.policies.standing_of.Goals as goal

pub policies-preserved : goal.policies-preserved
policies-preserved c =
    let items = c.args.policies.now in
    let i = c.policies.policy-index in
    let item = c.policy-item.result in
    let more : suc i ≡ i + 1 = omega arith in
    let next : drop i items ≡ item ∷ drop (i + 1) items = drop-cons items i item c.policies-test.true ∙ ap (λ p. p ∷ drop (suc i) items) (sym c.policy-item.is) ∙ ap (λ j. item ∷ drop j items) more in
    let errs = c.args.errs_count in
    let e = entity_name c.args.entity.now in
    let x = entity_view c.args.entity.now in (
      one_counts errs e x _ _ (drop i items) (drop (i + 1) items) item next _ c.counts_at.ensures _ c.joined-standing.ensures.counts c.policies.invariant.0,
      one_untold errs e x _ _ (drop i items) (drop (i + 1) items) item next _ c.counts_at.ensures _ c.joined-standing.ensures.untold c.policies.invariant.1,
    )

pub returns-clause-counts : goal.returns-clause-counts
returns-clause-counts c =
    all_counted c.args.errs_count (entity_name c.args.entity.now) (entity_view c.args.entity.now) _ _ _
    (drop_all c.policies.policy-index c.args.policies.now c.policies-test.false) c.policies.invariant.0

pub returns-clause-untold : goal.returns-clause-untold
returns-clause-untold c =
    all_told c.args.errs_count (entity_name c.args.entity.now) (entity_view c.args.entity.now) _ _ _
    (drop_all c.policies.policy-index c.args.policies.now c.policies-test.false) c.policies.invariant.1
