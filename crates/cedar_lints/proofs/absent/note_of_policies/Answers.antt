use Rattle.std.proofs.Common.{ap, ◌∙◌}
use Rattle.cedar_layers.specs.PolicySets.{policies_left}
use Rattle.cedar_lints.specs.Absent.{absent_each, absent_in, extent_view, mention_key, sheet_view}
use Rattle.cedar_lints.specs.Keys.{noted_each}
use Rattle.cedar_lints.specs.Knowing.{known_view}
use Rattle.cedar_lints.proofs.Passing.{noted_more, noted_all}
use Rattle.cedar_lints.proofs.absent.note_of_policies.Goals as goal

pub policies-init : goal.policies-init
policies-init c =
    ap (λ it. noted_each mention_key (sheet_view c.args.sheet.now)
    (absent_each (extent_view c.args.extent) (known_view c.args.known.now) (policies_left it)))
    c.into_iter-policy-iterator.ensures.into_iter_gives
    ∙ ap (λ ps. noted_each mention_key (sheet_view c.args.sheet.now)
    (absent_each (extent_view c.args.extent) (known_view c.args.known.now) ps))
    c.policies-policy-items.ensures.whole

pub policies-preserved : goal.policies-preserved
policies-preserved c =
    let e = extent_view c.args.extent in
    let k = known_view c.args.known.now in
    noted_more mention_key _ _ _ (absent_in e k c.in-Some.policy.now)
    (absent_each e k (policies_left c.next.new.self)) (absent_each e k (policies_left c.policies.policy-iterator))
    (ap (absent_each e k) c.in-Some.ensures.steps) c.in_ok-note_of_policy.ensures c.policies.invariant

pub returns : goal.returns
returns c =
    noted_all mention_key _ _ _
    (ap (absent_each (extent_view c.args.extent) (known_view c.args.known.now)) c.in-None.ensures.steps.0)
    c.policies.invariant
