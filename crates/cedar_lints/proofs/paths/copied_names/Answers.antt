use Rattle.std.proofs.Common.{◌+◌, [], ◌∷◌, ap, drop}
use Rattle.std.proofs.lemmas.List.{drop_all}
use Rattle.std.specs.Rc.{rc_str_bytes}
use Rattle.cedar_lints.specs.Paths.{names_seen}
use Rattle.cedar_lints.proofs.Passing.{drop_next, pushed_more, pushed_all}
use Rattle.cedar_lints.proofs.paths.copied_names.Goals as goal

pub names-preserved : goal.names-preserved
names-preserved c =
    let xs = c.args.names.now in
    let i = c.names.name-index in
    let x = c.name-item.result in
    pushed_more _ _ _ (rc_str_bytes x.now ∷ []) (names_seen (drop (i + 1) xs)) (names_seen (drop i xs))
    (ap names_seen (drop_next xs i x c.names-test.true c.name-item.is)) c.in_ok-put_text.ensures c.names.invariant

pub returns : goal.returns
returns c = pushed_all _ _ _ (ap names_seen (drop_all c.names.name-index c.args.names.now c.names-test.false))
    c.names.invariant
