use Rattle.std.proofs.Common.{◌≡◌, true, refl, sym, subst}
use Rattle.std.specs.Prelude.{MatchOption}
use Rattle.cedar_names.specs.Names.{type_text}
use Rattle.cedar_layers.specs.Policies.{policy_view}
use Rattle.cedar_layers.specs.Scopes.{IsBoundToType, asks_for_no_type}
use Rattle.cedar_layers.proofs.Placing.{on_ok_then, places_under_type, places_in_rest}
use Rattle.cedar_layers.proofs.policies.scope_index.ScopeIndex.place_by_type.Goals as goal

pub returns-in-Some : goal.returns-in-Some
returns-in-Some c =
    let p = policy_view c.args.policy.now in
    let bound : IsBoundToType p (type_text c.in-Some.ty.now) = subst (λ o. MatchOption o (asks_for_no_type p ≡ true) (λ t. IsBoundToType p (type_text t.now))) c.in-Some.is c.bound_type.ensures in
    on_ok_then c.put_under_type.result (λ h. places_under_type _ _ _ _ (type_text c.in-Some.ty.now) refl refl h bound) c.put_under_type.ensures
