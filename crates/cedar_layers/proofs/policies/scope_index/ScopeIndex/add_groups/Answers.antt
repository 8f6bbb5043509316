use Rattle.std.proofs.Common.{◌≡◌, suc, ◌+◌, ◌∷◌, drop, ap, sym, ◌∙◌, arith}
use Rattle.std.proofs.Math.Seq.{drop-cons}
use Rattle.std.proofs.lemmas.List.{drop_all}
use Rattle.cedar_names.specs.Names.{uid_name}
use Rattle.cedar_layers.specs.Scopes.{names_at, under_entity}
use Rattle.cedar_layers.proofs.Placing.{added_none, added_more, added_all}
use Rattle.cedar_layers.proofs.policies.scope_index.ScopeIndex.add_groups.Goals as goal

pub uids-init : goal.uids-init
uids-init c = added_none _ _ _

pub uids-preserved : goal.uids-preserved
uids-preserved c =
    let uids = c.args.uids.now in
    let i = c.uids.uid-index in
    let item = c.uid-item.result in
    let more : suc i ≡ i + 1 = omega arith in
    let next : drop i uids ≡ item ∷ drop (i + 1) uids = drop-cons uids i item c.uids-test.true ∙ ap (λ p. p ∷ drop (suc i) uids) (sym c.uid-item.is) ∙ ap (λ j. item ∷ drop j uids) more in
    added_more (under_entity c.args.self.now) (names_at uids) (names_at (drop i uids)) (names_at (drop (i + 1) uids)) _ _ (uid_name item.now) (ap names_at next) c.uids.invariant _ c.in_ok-add_group.ensures

pub returns : goal.returns
returns c =
    added_all (under_entity c.args.self.now) (names_at c.args.uids.now) (names_at (drop c.uids.uid-index c.args.uids.now)) _ _ (ap names_at (drop_all c.uids.uid-index c.args.uids.now c.uids-test.false)) c.uids.invariant
