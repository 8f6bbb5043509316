use Rattle.std.proofs.Common.{◌≡◌, ◌++◌, map}
use Rattle.cedar_names.specs.Names.{uid_name}
use Rattle.cedar_layers.specs.Stores.{entity_view}
use Rattle.cedar_authorizer.proofs.authorizer.reaching.add_ancestors.Given as goal

abbrev pub invariant-ancestors : goal.invariant-ancestors
invariant-ancestors l =
    map (λ u. uid_name u.now) l.uids.items ++ map uid_name l.ancestor-iterator ≡ map (λ u. uid_name u.now) l.fn.uids.items ++ (entity_view l.fn.entity).ancestors
