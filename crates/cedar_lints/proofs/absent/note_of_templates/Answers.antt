use Rattle.std.proofs.Common.{◌+◌, ap, drop}
use Rattle.std.proofs.lemmas.List.{drop_all}
use Rattle.cedar_lints.specs.Absent.{absent_each, absent_in, extent_view, mention_key}
use Rattle.cedar_lints.specs.Knowing.{known_view}
use Rattle.cedar_lints.proofs.Passing.{drop_next, noted_more, noted_all}
use Rattle.cedar_lints.proofs.absent.note_of_templates.Goals as goal

pub templates-preserved : goal.templates-preserved
templates-preserved c =
    let xs = c.args.templates.now in
    let i = c.templates.template-index in
    let x = c.template-item.result in
    let e = extent_view c.args.extent in
    let k = known_view c.args.known.now in
    noted_more mention_key _ _ _ (absent_in e k x) (absent_each e k (drop (i + 1) xs)) (absent_each e k (drop i xs))
    (ap (absent_each e k) (drop_next xs i x c.templates-test.true c.template-item.is))
    c.in_ok-note_of_policy.ensures c.templates.invariant

pub returns : goal.returns
returns c =
    noted_all mention_key _ _ _
    (ap (absent_each (extent_view c.args.extent) (known_view c.args.known.now))
    (drop_all c.templates.template-index c.args.templates.now c.templates-test.false)) c.templates.invariant
