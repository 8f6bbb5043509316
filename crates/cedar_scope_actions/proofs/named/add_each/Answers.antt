use Rattle.std.proofs.Common.{◌≡◌, ◌||◌, suc, ◌+◌, ◌∷◌, sym, ap, ◌∙◌, arith, map, drop}
use Rattle.std.proofs.Math.Seq.{drop-cons}
use Rattle.std.proofs.lemmas.List.{drop_all}
use Rattle.cedar_model.specs.Settings.{is_among}
use Rattle.cedar_names.specs.Names.{uid_name}
use Rattle.cedar_layers.specs.Scopes.{names_at}
use Rattle.cedar_scope_actions.proofs.Naming.{passes_one, passed_all}
use Rattle.cedar_scope_actions.proofs.named.add_each.Goals as goal

pub uids-preserved : goal.uids-preserved
uids-preserved c =
    let uids = c.args.uids.now in
    let i = c.uids.uid-index in
    let item = c.uid-item.result in
    let more : suc i ≡ i + 1 = omega arith in
    let next : drop i uids ≡ item ∷ drop (i + 1) uids = drop-cons uids i item c.uids-test.true ∙ ap (λ u. u ∷ drop (suc i) uids) (sym c.uid-item.is) ∙ ap (λ j. item ∷ drop j uids) more in
    λ n. passes_one n (is_among n (map uid_name c.uids.actions.keys)) (is_among n (map uid_name c.add.new.actions.keys)) (is_among n (map uid_name c.args.actions.now.keys) || is_among n (names_at uids)) item (drop i uids) (drop (i + 1) uids) next (c.in_ok-add.ensures n) (c.uids.invariant n)

pub returns : goal.returns
returns c =
    let uids = c.args.uids.now in
    λ n. passed_all n (is_among n (map uid_name c.uids.actions.keys)) (is_among n (map uid_name c.args.actions.now.keys) || is_among n (names_at uids)) (drop c.uids.uid-index uids) (drop_all c.uids.uid-index uids c.uids-test.false) (c.uids.invariant n)
