use Rattle.std.proofs.Common.{◌≡◌, sym, ap, ◌∙◌, ◌+◌, subst, arith, map, Some}
use Rattle.std.specs.Prelude.{slice_get}
use Rattle.std.proofs.lemmas.List.{map-append, nil_from_length}
use Rattle.std.specs.Map.{values_of}
use Rattle.std.specs.Vec.Iter.{into_iter_items}
use Rattle.cedar_layers.proofs.Filing.{AreTakenSoFar, taken_again, taken_more}
use Rattle.cedar_layers.proofs.Picking.{ArePickedSoFar, picked_again, picked_more, picked_all}
use Rattle.cedar_layers.proofs.Placing.{get_value}
use Rattle.cedar_layers.proofs.policies.policy_set.pick_policies.Goals as goal

pub positions-preserved-else-next-at-gt1 : goal.positions-preserved-else-next-at-gt1
positions-preserved-else-next-at-gt1 c = (
  picked_again _ _ _ _ _ _ c.in-Some.at c.in-Some.ensures.steps.0 c.positions.invariant.0 (omega (arith, c.if-at-next.true, c.if-next-at-gt1.false)),
  taken_again _ _ _ _ _ c.in-Some.at c.in-Some.ensures.steps.0 c.positions.invariant.1,
)

pub positions-preserved : goal.positions-preserved
positions-preserved c =
    let there : slice_get (values_of c.args.policies.now.entries) c.in-Some.at ≡ Some c.in-Some-get_index.policy.now =
    get_value c.args.policies.now.entries c.in-Some.at _ _ (sym c.in-Some-get_index.ensures.entry) in
    let more = picked_more _ _ _ _ _ _ c.in-Some.at c.in-Some.ensures.steps.0 c.positions.invariant.0 c.in-Some-get_index.policy.now (omega (arith, c.if-at-next.false)) there in
    let taken = taken_more _ _ _ _ _ c.in-Some.at c.in-Some.ensures.steps.0 c.positions.invariant.1 c.in-Some-get_index.policy.now there in (
      subst (λ ps. ArePickedSoFar c.args.positions.items (values_of c.args.policies.now.entries) ps (c.in-Some.at + 1) (into_iter_items c.next.new.self)) (sym (ap (map (λ p. p.now)) c.in_ok-push-in-Some-get_index.ensures.items ∙ map-append (λ p. p.now) _ _)) more,
      subst (λ ps. AreTakenSoFar c.args.positions.items (values_of c.args.policies.now.entries) ps (into_iter_items c.next.new.self)) (sym (ap (map (λ p. p.now)) c.in_ok-push-in-Some-get_index.ensures.items ∙ map-append (λ p. p.now) _ _)) taken,
    )

pub returns-clause-others : goal.returns-clause-others
returns-clause-others c =
    picked_all _ _ _ _ _ (nil_from_length _ (sym c.positions.at-iterator.rest.ok.0 ∙ c.in-None.ensures.steps.0)) c.positions.invariant.0

pub returns-clause-picked : goal.returns-clause-picked
returns-clause-picked c = c.positions.invariant.1.of_positions
