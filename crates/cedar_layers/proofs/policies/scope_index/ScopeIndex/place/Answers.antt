use Rattle.std.proofs.Common.{◌≡◌, true, refl, sym, subst}
use Rattle.std.specs.Prelude.{MatchOption}
use Rattle.cedar_layers.specs.Policies.{policy_view}
use Rattle.cedar_layers.specs.Scopes.{IsBoundTo, asks_for_no_entity, names_at}
use Rattle.cedar_layers.proofs.Placing.{on_ok_then, places_under}
use Rattle.cedar_layers.proofs.policies.scope_index.ScopeIndex.place.Goals as goal

pub returns-in-Some : goal.returns-in-Some
returns-in-Some c =
    let p = policy_view c.args.policy.now in
    let bound : IsBoundTo p (names_at c.in-Some.uids.items) = subst (λ o. MatchOption o (asks_for_no_entity p ≡ true) (λ v. IsBoundTo p (names_at v.items))) c.in-Some.is c.in_ok-found.ensures in
    on_ok_then c.put_under_each.result (λ h. places_under _ _ _ _ (names_at c.deref.result.now) refl refl h (subst (λ us. IsBoundTo p (names_at us)) (sym c.deref.ensures.value) bound)) c.put_under_each.ensures
