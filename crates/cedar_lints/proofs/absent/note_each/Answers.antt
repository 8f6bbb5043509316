use Rattle.std.proofs.Common.{◌+◌, ap, drop}
use Rattle.std.proofs.lemmas.List.{drop_all}
use Rattle.cedar_lints.specs.Absent.{absent_of, absent_of_each, extent_view, mention_key, reported}
use Rattle.cedar_lints.specs.Knowing.{known_view}
use Rattle.cedar_lints.specs.Mentions.{mention_view, mentions_seen}
use Rattle.cedar_lints.proofs.Passing.{drop_next, noted_more, noted_all}
use Rattle.cedar_lints.proofs.absent.note_each.Goals as goal

pub mentions-preserved : goal.mentions-preserved
mentions-preserved c =
    let xs = c.args.mentions.now in
    let i = c.mentions.mention-index in
    let x = c.mention-item.result in
    let e = extent_view c.args.extent in
    let k = known_view c.args.known.now in
    noted_more mention_key _ _ _ (reported e (absent_of k (mention_view x)))
    (absent_of_each e k (mentions_seen (drop (i + 1) xs))) (absent_of_each e k (mentions_seen (drop i xs)))
    (ap (λ ys. absent_of_each e k (mentions_seen ys)) (drop_next xs i x c.mentions-test.true c.mention-item.is))
    c.in_ok-note_if_absent.ensures c.mentions.invariant

pub returns : goal.returns
returns c =
    noted_all mention_key _ _ _
    (ap (λ ys. absent_of_each (extent_view c.args.extent) (known_view c.args.known.now) (mentions_seen ys))
    (drop_all c.mentions.mention-index c.args.mentions.now c.mentions-test.false)) c.mentions.invariant
