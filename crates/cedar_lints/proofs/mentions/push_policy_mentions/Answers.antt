use Rattle.std.proofs.Common.{◌++◌, ◌∙◌}
use Rattle.cedar_lints.specs.Mentions.{action_mentions, mentions, mentions_seen}
use Rattle.cedar_lints.proofs.Passing.{three_parts}
use Rattle.cedar_lints.proofs.mentions.push_policy_mentions.Goals as goal

pub returns : goal.returns
returns c =
    let old = mentions_seen c.args.found.now.items in
    three_parts _ _ _ _ _ _ _ c.in_ok-push_mentions.ensures c.in_ok-push_action_mentions.ensures
    c.in_ok-push_two.ensures
    ∙ (λ i. old ++
    (mentions (c.principal_constraint.ensures.whole i) ++
    (action_mentions (c.action_constraint.ensures.whole i) ++
    (mentions (c.resource_constraint.ensures.whole i) ++ mentions (c.when_clause.ensures.whole i)))))
