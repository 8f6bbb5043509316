use Rattle.std.proofs.Common.{sym, subst, arith, map}
use Rattle.std.specs.Option.{IfSome}
use Rattle.std.proofs.lemmas.Option.{IfSome_then}
use Rattle.std.proofs.lemmas.Result.{IfOk-weaker}
use Rattle.cedar_names.specs.Names.{uid_name}
use Rattle.cedar_layers.specs.PolicySets.{stored_policies}
use Rattle.cedar_layers.specs.Stores.{store_view}
use Rattle.cedar_requests.specs.Requests.{request_view}
use Rattle.cedar_authorizer.specs.Configured.{configuration, asked}
use Rattle.cedar_authorizer.specs.Reaching.{AreCovered}
use Rattle.cedar_authorizer.proofs.Reaching.{others_false}
use Rattle.cedar_authorizer.proofs.authorizer.reaching.policies_within_reach.Goals as goal

pub returns-in-Some : goal.returns-in-Some
returns-in-Some g c =
    let a = c.args.authorizer.now in
    let r = request_view c.args.request.now in
    let store = store_view c.args.entities.now in
    let of_uids : AreCovered r store (map (λ u. uid_name u.now) c.in-Some.uids.items) = subst (λ o. IfSome o (λ v. AreCovered r store (map (λ u. uid_name u.now) v.items))) c.in-Some.is c.in_ok-uids.ensures in
    let covered : AreCovered r store (map (λ u. uid_name u.now) c.deref.result.now) = subst (λ us. AreCovered r store (map (λ u. uid_name u.now) us)) (sym c.deref.ensures.value) of_uids in
    IfOk-weaker c.within_reach.result _ _
    (λ o h. IfSome_then o h (λ v k. others_false (asked a c.args.request.now c.args.entities.now) (configuration a).calls (configuration a).levels
    (map (λ u. uid_name u.now) c.deref.result.now) (omega (arith, c.if-authorizer-lt-SCOPE_LEVELS.false)) covered (stored_policies c.args.policies.now) (map (λ p. p.now) v.items) k))
    c.within_reach.ensures.reach
