use Rattle.std.proofs.Common.{◌≡◌, suc, ◌+◌, ◌∷◌, drop, ap, sym, ◌∙◌, arith}
use Rattle.std.proofs.Math.Seq.{drop-cons}
use Rattle.std.proofs.lemmas.List.{drop_all}
use Rattle.cedar_names.specs.Names.{uid_name}
use Rattle.cedar_layers.specs.Scopes.{names_at}
use Rattle.cedar_layers.proofs.Placing.{one_less, none_left}
use Rattle.cedar_layers.proofs.policies.scope_index.put_under_each.Goals as goal

pub uids-preserved : goal.uids-preserved
uids-preserved c =
    let uids = c.args.uids.now in
    let i = c.uids.uid-index in
    let item = c.uid-item.result in
    let more : suc i ≡ i + 1 = omega arith in
    let next : drop i uids ≡ item ∷ drop (i + 1) uids = drop-cons uids i item c.uids-test.true ∙ ap (λ p. p ∷ drop (suc i) uids) (sym c.uid-item.is) ∙ ap (λ j. item ∷ drop j uids) more in
    one_less c.args.groups.now.entries c.uids.groups.entries c.put.new.groups.entries (names_at uids) (names_at (drop i uids)) (names_at (drop (i + 1) uids)) (uid_name item.now) c.args.at (ap names_at next) c.in_ok-put.ensures c.uids.invariant

pub returns : goal.returns
returns c =
    none_left c.args.groups.now.entries c.uids.groups.entries (names_at c.args.uids.now) (names_at (drop c.uids.uid-index c.args.uids.now)) c.args.at (ap names_at (drop_all c.uids.uid-index c.args.uids.now c.uids-test.false)) c.uids.invariant
