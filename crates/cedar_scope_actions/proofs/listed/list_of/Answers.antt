use Rattle.std.proofs.Common.{◌∙◌, ◌++◌, List, map, ap, sym, append-nil}
use Rattle.std.proofs.lemmas.Map.Keys.{IsDistinct-from_sorted}
use Rattle.cedar_names.specs.declared.names.EntityUID.{EntityUID}
use Rattle.cedar_names.specs.contracts.names.EntityUIDOrd.TheImpl.{cmp-value}
use Rattle.cedar_names.specs.Names.{uid_name}
use Rattle.cedar_scope_actions.proofs.Listing.{item_left}
use Rattle.cedar_scope_actions.proofs.listed.list_of.Goals as goal

pub uids-preserved : goal.uids-preserved
uids-preserved c =
    item_left c.uids.list.items c.add_last.new.items.items c.in-Some.uid c.uids.uid-iterator c.next.new.self (map uid_name c.args.uids.keys) c.in-Some.ensures.steps c.in_ok-add_last.ensures.ok c.uids.invariant

pub returns-clause-names : goal.returns-clause-names
returns-clause-names c =
    let listed = map uid_name c.uids.list.items in
    sym (append-nil listed)
    ∙ ap (λ (us : List EntityUID). listed ++ map uid_name us) (sym c.in-None.ensures.steps.0) ∙ c.uids.invariant

pub returns-clause-tied : goal.returns-clause-tied
returns-clause-tied c = IsDistinct-from_sorted cmp-value.it c.args.uids.keys c.into_iter-uid-iterator.ensures.into_iter_gives.4
