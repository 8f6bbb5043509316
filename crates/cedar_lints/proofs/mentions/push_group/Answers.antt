use Rattle.std.proofs.Common.{◌≡◌, ◌++◌, ◌∷◌, [], List, Option, ap, ◌∙◌, subst}
use Rattle.std.specs.Prelude.{OnOk}
use Rattle.cedar_names.specs.declared.names.Loc.{Loc}
use Rattle.cedar_lints.specs.Mentions.{Mention, Named, group, group_or, mentions_seen}
use Rattle.cedar_lints.proofs.mentions.push_group.Goals as goal

-- this alone, named there
abbrev one_at : Named → Option Loc → List Mention
one_at n p = record { named = n; place = p } ∷ []

pub returns-in-Some : goal.returns-in-Some
returns-in-Some c =
    let old = mentions_seen c.args.found.now.items in
    let one = ap (one_at (group c.in-Some.uid.now)) c.place_of.ensures in
    subst (λ (ms : List Mention). OnOk c.put.result (mentions_seen c.put.new.found.items ≡ old ++ ms))
    (one ∙ ap (group_or c.args.expr.now) c.in-Some.ensures) c.put.ensures

pub returns-in-None : goal.returns-in-None
returns-in-None c =
    let old = mentions_seen c.args.found.now.items in
    subst (λ (ms : List Mention). OnOk c.push_mentions.result
    (mentions_seen c.push_mentions.new.found.items ≡ old ++ ms)) (ap (group_or c.args.expr.now) c.in-None.ensures)
    c.push_mentions.ensures
