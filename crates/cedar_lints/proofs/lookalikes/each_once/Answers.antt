use Rattle.std.proofs.Common.{◌+◌, [], ◌∷◌, ap, drop}
use Rattle.std.proofs.lemmas.List.{drop_all}
use Rattle.cedar_names.specs.Leaves.{texts_view}
use Rattle.cedar_lints.specs.Keys.{Sheet}
use Rattle.cedar_lints.specs.Lookalikes.{path_key}
use Rattle.cedar_lints.specs.Paths.{Path, paths_view}
use Rattle.cedar_lints.proofs.Passing.{drop_next, noted_more, noted_all}
use Rattle.cedar_lints.proofs.lookalikes.each_once.Goals as goal

pub paths-preserved : goal.paths-preserved
paths-preserved c =
    let xs = c.args.paths.now in
    let i = c.paths.path-index in
    let x = c.path-item.result in
    noted_more path_key _ _ _ (texts_view x.items ∷ []) (paths_view (drop (i + 1) xs)) (paths_view (drop i xs))
    (ap paths_view (drop_next xs i x c.paths-test.true c.path-item.is)) c.in_ok-note_path.ensures c.paths.invariant

pub returns : goal.returns
returns c =
    let all = noted_all path_key _ _ _
    (ap paths_view (drop_all c.paths.path-index c.args.paths.now c.paths-test.false)) c.paths.invariant in
    ap (λ (s : Sheet Path). s.items) all
