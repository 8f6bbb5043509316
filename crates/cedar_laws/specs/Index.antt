-- Which policies an index by scope looks at, and how many they can be.
use Rattle.std.specs.Prelude.{◌≡◌, ◌≤◌, ◌+◌, ℕ, Bool, true, cond, ◌&&◌, List, [], ◌∷◌, length, Option, Some, None, filter, count_by, sum_by}
use Rattle.std.specs.List.{list_any}
use Rattle.cedar_model.specs.Terms.{Text, EntityName}
use Rattle.cedar_model.specs.Outcomes.{text_eq}
use Rattle.cedar_layers.specs.declared.policies.policy.Policy.{Policy}
use Rattle.cedar_layers.specs.Policies.{PolicyView, policy_view}
use Rattle.cedar_layers.specs.Scopes.{principal_bound, action_bound, resource_bound, have_common, asks_for, is_in_rest}
use Rattle.cedar_layers.specs.Scopes.{principal_type_bound, action_type_bound, resource_type_bound, is_type_among}
use Rattle.cedar_layers.specs.Scopes.{asks_for_type}
use Rattle.cedar_layers.specs.Scopes.{AreLookedAt, AreWithinReach}

-- ---- what scopes ask for

-- no entity is asked for, or one of several of which one is among these
abbrev pub is_none_but : List EntityName → Option (List EntityName) → Bool
is_none_but es None = true
is_none_but es (Some ds) = have_common ds es

-- no type is asked for, or that of one of these
abbrev pub is_no_type_but : List EntityName → Option Text → Bool
is_no_type_but es None = true
is_no_type_but es (Some t) = is_type_among t es

-- of principal, action and resource alike it asks so of none but these, and for no type but theirs
abbrev pub asks_only_for : List EntityName → PolicyView → Bool
asks_only_for es p =
    is_none_but es (principal_bound p) && (is_none_but es (action_bound p) && is_none_but es (resource_bound p))

abbrev pub asks_only_for_types : List EntityName → PolicyView → Bool
asks_only_for_types es p =
    is_no_type_but es (principal_type_bound p)
    && (is_no_type_but es (action_type_bound p) && is_no_type_but es (resource_type_bound p))

abbrev pub is_reached : List EntityName → PolicyView → Bool
is_reached es p = asks_only_for es p && asks_only_for_types es p

-- ---- how many they are

-- how many of these policies pass the test
abbrev pub how_many : (PolicyView → Bool) → List Policy → ℕ
how_many test ps = count_by (λ p. test (policy_view p)) ps

-- the types of these entities, each once
abbrev pub types_of : List EntityName → List Text
types_of [] = []
types_of (e ∷ es) = cond (list_any (text_eq e.type_name) (types_of es)) (types_of es) (e.type_name ∷ types_of es)

-- those in the rest, for each of these entities those that ask for it, and for each of their types those that ask for it
abbrev pub most_looked_at : List EntityName → List Policy → ℕ
most_looked_at es ps =
    how_many is_in_rest ps + sum_by (λ e. how_many (asks_for e) ps) es
    + sum_by (λ t. how_many (asks_for_type t) ps) (types_of es)

-- ---- laws

-- the policies of these that pass the test, in order
abbrev pub these_that : (PolicyView → Bool) → List Policy → List Policy
these_that test ps = filter (λ p. test (policy_view p)) ps

-- of policies within reach of entities, those that are reached are those of the whole set that are, in order
abbrev pub ReachedAreWithinReach : Type 0
ReachedAreWithinReach =
    (es : List EntityName) (all some : List Policy) → AreWithinReach es all some →
    these_that (is_reached es) some ≡ these_that (is_reached es) all

-- they are at most as many as are in the rest and, for each of the entities and each of their types, ask for it
abbrev pub ReachedAreBounded : Type 0
ReachedAreBounded = (es : List EntityName) (all : List Policy) → how_many (is_reached es) all ≤ most_looked_at es all

-- so are the policies that an index answers for the entities
abbrev pub LookedAtAreBounded : Type 0
LookedAtAreBounded =
    (es : List EntityName) (all some : List Policy) → AreWithinReach es all some → AreLookedAt es some →
    length some ≤ most_looked_at es all

-- and they are never more than there are, of each kind
abbrev pub WithinReachAreFewer : Type 0
WithinReachAreFewer =
    (es : List EntityName) (all some : List Policy) → AreWithinReach es all some →
    (test : PolicyView → Bool) → how_many test some ≤ how_many test all
