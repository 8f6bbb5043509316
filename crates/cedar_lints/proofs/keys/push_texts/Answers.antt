use Rattle.std.proofs.Common.{◌+◌, [], ◌∷◌, ap, drop}
use Rattle.std.proofs.lemmas.List.{drop_all}
use Rattle.std.specs.Rc.{rc_str_bytes}
use Rattle.cedar_names.specs.Leaves.{texts_view}
use Rattle.cedar_lints.proofs.Passing.{drop_next, pushed_more, pushed_all}
use Rattle.cedar_lints.proofs.keys.push_texts.Goals as goal

pub texts-preserved : goal.texts-preserved
texts-preserved c =
    let xs = c.args.more.now in
    let i = c.texts.text-index in
    let x = c.text-item.result in
    pushed_more _ _ _ (rc_str_bytes x ∷ []) (texts_view (drop (i + 1) xs)) (texts_view (drop i xs))
    (ap texts_view (drop_next xs i x c.texts-test.true c.text-item.is)) c.in_ok-put_text.ensures c.texts.invariant

pub returns : goal.returns
returns c = pushed_all _ _ _ (ap texts_view (drop_all c.texts.text-index c.args.more.now c.texts-test.false))
    c.texts.invariant
