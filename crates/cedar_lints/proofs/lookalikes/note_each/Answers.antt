use Rattle.std.proofs.Common.{◌+◌, ◌∙◌, [], ◌∷◌, ap, drop}
use Rattle.std.proofs.lemmas.List.{drop_all}
use Rattle.cedar_names.specs.Leaves.{texts_view}
use Rattle.cedar_names.specs.Names.{uid_name}
use Rattle.cedar_model.specs.Terms.{EntityName}
use Rattle.cedar_lints.specs.Keys.{noted}
use Rattle.cedar_lints.specs.Lookalikes.{Lookalike, each_of, lookalike_key, sheet_view}
use Rattle.cedar_lints.specs.Paths.{Path, paths_view}
use Rattle.cedar_lints.proofs.Passing.{drop_next, noted_more, noted_all}
use Rattle.cedar_lints.proofs.lookalikes.note_each.Goals as goal

-- the path of this entity
abbrev of_path : EntityName → Path → Lookalike
of_path e p = record { entity = e; names = p }

pub paths-preserved : goal.paths-preserved
paths-preserved c =
    let xs = c.args.paths.now in
    let i = c.paths.names-index in
    let x = c.names-item.result in
    let e = uid_name c.args.uid.now in
    let one : Lookalike = of_path e (texts_view x.items) in
    noted_more lookalike_key _ _ _ (one ∷ []) (each_of e (paths_view (drop (i + 1) xs)))
    (each_of e (paths_view (drop i xs)))
    (ap (λ ys. each_of e (paths_view ys)) (drop_next xs i x c.paths-test.true c.names-item.is))
    (c.in_ok-note.ensures ∙ ap (λ ns. noted lookalike_key (sheet_view c.paths.sheet) (of_path e (texts_view ns)))
    c.deref.ensures.value) c.paths.invariant

pub returns : goal.returns
returns c =
    noted_all lookalike_key _ _ _
    (ap (λ ys. each_of (uid_name c.args.uid.now) (paths_view ys))
    (drop_all c.paths.names-index c.args.paths.now c.paths-test.false)) c.paths.invariant
