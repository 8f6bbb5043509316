use Rattle.std.proofs.Common.{◌≡◌, ◌++◌, List, ap, subst}
use Rattle.std.specs.Prelude.{OnOk}
use Rattle.cedar_lints.specs.Mentions.{Mention, membership_mentions, mentions_seen}
use Rattle.cedar_lints.proofs.mentions.push_action_mentions.Goals as goal

pub returns-in-Some : goal.returns-in-Some
returns-in-Some c =
    let old = mentions_seen c.args.found.now.items in
    subst (λ (ms : List Mention). OnOk c.push_membership.result
    (mentions_seen c.push_membership.new.found.items ≡ old ++ ms))
    (ap (membership_mentions c.args.action.now) c.in-Some.ensures) c.push_membership.ensures

pub returns-in-None : goal.returns-in-None
returns-in-None c =
    let old = mentions_seen c.args.found.now.items in
    subst (λ (ms : List Mention). OnOk c.push_mentions.result
    (mentions_seen c.push_mentions.new.found.items ≡ old ++ ms))
    (ap (membership_mentions c.args.action.now) c.in-None.ensures) c.push_mentions.ensures
