-- What scopes ask of principal, action and resource, and the index of policies by the entities that their scopes name
-- and the types that they test for.
use Rattle.std.specs.Prelude.{◌≡◌, ◌⊎◌, ℕ, map, option_map, ◌/◌, ◌==◌, nat_lt, Bool, true, false, cond, not, ◌&&◌, ◌||◌, List, [], ◌∷◌, ◌++◌, length, Option, None, Some, is_some, slice_get}
use Rattle.std.specs.List.{list_any, list_all}
use Rattle.std.specs.Map.{lookup}
use Rattle.std.specs.declared.alloc.Global.{Global}
use Rattle.std.specs.declared.vec.Vec.{Vec}
use denote.Ref.{Bor}
use Rattle.cedar_model.specs.Terms.{Text, EntityName, bool_literal, entity_literal}
use Rattle.cedar_model.specs.Terms.{principal, action, resource, Term, literal, variable, slot, both, binary}
use Rattle.cedar_model.specs.Terms.{is_of_type, set_of, Terms, no_terms, one_term}
use Rattle.cedar_model.specs.World.{Slots}
use Rattle.cedar_model.specs.Terms.{BinaryOperator, eq_operator, in_operator}
use Rattle.cedar_model.specs.Outcomes.{text_eq, entity_eq}
use Rattle.cedar_model.specs.Settings.{is_among}
use Rattle.cedar_names.specs.declared.names.EntityType.{EntityType}
use Rattle.cedar_names.specs.declared.names.EntityUID.{EntityUID}
use Rattle.cedar_names.specs.Names.{type_text, uid_name}
use Rattle.cedar_layers.specs.declared.policies.policy.Policy.{Policy}
use Rattle.cedar_layers.specs.declared.policies.scope_index.ScopeIndex.{ScopeIndex}
use Rattle.cedar_layers.specs.Policies.{PolicyView, policy_view}
use mathlib.Core.Bool.{Bool-set}

-- ---- scopes

-- `principal`, `action` and `resource`
unfoldable pub is_entity_variable : Term → Bool
is_entity_variable (variable principal) = true
is_entity_variable (variable action) = true
is_entity_variable (variable resource) = true
is_entity_variable t = false

-- the entity that a literal is
unfoldable pub literal_entity : Term → Option EntityName
literal_entity (literal (entity_literal e)) = Some e
literal_entity t = None

-- an entity before others, where all are there
abbrev pub in_front : Option EntityName → Option (List EntityName) → Option (List EntityName)
in_front (Some e) (Some es) = Some (e ∷ es)
in_front (Some e) None = None
in_front None o = None

-- the entities that a set lists, where it lists nothing else
unfoldable pub listed_entities : Terms → Option (List EntityName)
listed_entities no_terms = Some []
listed_entities (one_term t ts) = in_front (literal_entity t) (listed_entities ts)

-- that one alone
abbrev pub only : Option EntityName → Option (List EntityName)
only o = option_map (λ e. e ∷ []) o

-- the entity that a literal is, or that a slot holds
unfoldable pub named_entity : Slots → Term → Option EntityName
named_entity ss (literal (entity_literal e)) = Some e
named_entity ss (slot i) = ss i
named_entity ss t = None

-- what may stand to the right of `in`: such an entity, or a set of entities
unfoldable pub place_entities : Slots → Term → Option (List EntityName)
place_entities ss (set_of ts) = listed_entities ts
place_entities ss t = only (named_entity ss t)

-- the entities of one of which `== t` and `in t` ask
unfoldable pub sought_entities : Slots → BinaryOperator → Term → Option (List EntityName)
sought_entities ss eq_operator t = only (named_entity ss t)
sought_entities ss in_operator t = place_entities ss t
sought_entities ss op t = None

-- the same of `x == t` and `x in t`, where x is principal, action or resource
unfoldable pub compared_entities : Slots → Term → Option (List EntityName)
compared_entities ss (binary op t u) = cond (is_entity_variable t) (sought_entities ss op u) None
compared_entities ss t = None

-- `x is T`, where x is principal, action or resource
unfoldable pub is_type_test : Term → Bool
is_type_test (is_of_type t n) = is_entity_variable t
is_type_test t = false

-- the type T of such a test
unfoldable pub asked_type : Term → Option Text
asked_type (is_of_type t n) = cond (is_entity_variable t) (Some n) None
asked_type t = None

-- the same of a constraint: such a comparison, alone or after such a test
unfoldable pub asked_entities : Slots → Term → Option (List EntityName)
asked_entities ss (both t u) = cond (is_type_test t) (compared_entities ss u) None
asked_entities ss t = compared_entities ss t

-- `true`
unfoldable pub is_truth : Term → Bool
is_truth (literal (bool_literal b)) = b
is_truth t = false

-- a constraint that is a boolean, whatever principal, action and resource are
abbrev pub is_told : Slots → Term → Bool
is_told ss t = is_truth t || (is_type_test t || is_some (asked_entities ss t))

-- the entities, one of which the principal must be or be in; of the action, where the constraint on the principal is a
-- boolean; of the resource, where that on the action is one too
abbrev pub principal_bound : PolicyView → Option (List EntityName)
principal_bound p = asked_entities p.slots p.principal_constraint

abbrev pub action_bound : PolicyView → Option (List EntityName)
action_bound p = cond (is_told p.slots p.principal_constraint) (asked_entities p.slots p.action_constraint) None

abbrev pub resource_bound : PolicyView → Option (List EntityName)
resource_bound p =
    cond (is_told p.slots p.principal_constraint && is_told p.slots p.action_constraint)
    (asked_entities p.slots p.resource_constraint) None

-- the type that the principal must be of, where the constraint on it is a test of the type alone; the same of action and
-- resource, where the constraints before theirs are booleans
abbrev pub principal_type_bound : PolicyView → Option Text
principal_type_bound p = asked_type p.principal_constraint

abbrev pub action_type_bound : PolicyView → Option Text
action_type_bound p = cond (is_told p.slots p.principal_constraint) (asked_type p.action_constraint) None

abbrev pub resource_type_bound : PolicyView → Option Text
resource_type_bound p =
    cond (is_told p.slots p.principal_constraint && is_told p.slots p.action_constraint)
    (asked_type p.resource_constraint) None

-- the scope asks that one of the three is one of these entities or is in one
abbrev pub IsBoundTo : PolicyView → List EntityName → Type 0
IsBoundTo p es = (principal_bound p ≡ Some es) ⊎ ((action_bound p ≡ Some es) ⊎ (resource_bound p ≡ Some es))

-- it asks that one of the three is of this type
abbrev pub IsBoundToType : PolicyView → Text → Type 0
IsBoundToType p t =
    (principal_type_bound p ≡ Some t) ⊎ ((action_type_bound p ≡ Some t) ⊎ (resource_type_bound p ≡ Some t))

-- one of the first is among the second
abbrev pub have_common : List EntityName → List EntityName → Bool
have_common ds es = list_any (λ d. is_among d es) ds

-- one of these entities is of this type
abbrev pub is_type_among : Text → List EntityName → Bool
is_type_among t es = list_any (λ e. text_eq e.type_name t) es

-- it asks so of entities none of which is one of these, or for a type that none of these is of
abbrev pub IsBoundElsewhere : List EntityName → PolicyView → Type 0
IsBoundElsewhere es p =
    ((ds : List EntityName) × IsBoundTo p ds × (have_common ds es ≡ false))
    ⊎ ((t : Text) × IsBoundToType p t × (is_type_among t es ≡ false))

-- entities are asked for, and this is one of them
abbrev pub is_one_of : EntityName → Option (List EntityName) → Bool
is_one_of e None = false
is_one_of e (Some ds) = is_among e ds

-- the scope asks that principal, action or resource is this entity or is in it, or for one of several of which it is one
abbrev pub asks_for : EntityName → PolicyView → Bool
asks_for e p =
    is_one_of e (principal_bound p) || (is_one_of e (action_bound p) || is_one_of e (resource_bound p))

-- a type is asked for, and it is this one
abbrev pub is_this_type : Text → Option Text → Bool
is_this_type t None = false
is_this_type t (Some u) = text_eq t u

-- the scope asks that principal, action or resource is of this type, and of that one for no more
abbrev pub asks_for_type : Text → PolicyView → Bool
asks_for_type t p =
    is_this_type t (principal_type_bound p)
    || (is_this_type t (action_type_bound p) || is_this_type t (resource_type_bound p))

-- it asks so for no entity
abbrev pub asks_for_no_entity : PolicyView → Bool
asks_for_no_entity p = not (is_some (principal_bound p) || (is_some (action_bound p) || is_some (resource_bound p)))

-- it asks so for no type
abbrev pub asks_for_no_type : PolicyView → Bool
asks_for_no_type p =
    not (is_some (principal_type_bound p) || (is_some (action_type_bound p) || is_some (resource_type_bound p)))

-- it asks for neither
abbrev pub is_in_rest : PolicyView → Bool
is_in_rest p = asks_for_no_entity p && asks_for_no_type p

-- it asks for neither, or for one of these entities, or for the type of one
abbrev pub is_looked_at : List EntityName → PolicyView → Bool
is_looked_at es p =
    is_in_rest p || (list_any (λ e. asks_for e p) es || list_any (λ e. asks_for_type e.type_name p) es)

-- so does each of these policies
abbrev pub AreLookedAt : List EntityName → List Policy → Type 0
AreLookedAt es ps = list_all (λ p. is_looked_at es (policy_view p)) ps ≡ true

-- the second are the first, in their order, but for some that are such
abbrev pub AreAllBut : {A : Type 0} → (A → Type 0) → List A → List A → Type 0
AreAllBut Such [] others = others ≡ []
AreAllBut {A = A} Such (x ∷ xs) others =
    (Such x × AreAllBut Such xs others) ⊎ ((rest : List A) × (others ≡ x ∷ rest) × AreAllBut Such xs rest)

-- of policies only those are left out that are bound elsewhere
abbrev pub AreWithinReach : List EntityName → List Policy → List Policy → Type 0
AreWithinReach es all some = AreAllBut (λ p. IsBoundElsewhere es (policy_view p)) all some

-- ---- what is read of a scope

-- the names of these entities
abbrev pub names_at : List (Bor EntityUID) → List EntityName
names_at us = map (λ u. uid_name u.now) us

-- the same of those that were found, if any were
abbrev pub names_found : Option (Vec (Bor EntityUID) Global) → Option (List EntityName)
names_found o = option_map (λ v. names_at v.items) o

-- the text of a type that was found, if one was
abbrev pub type_found : Option (Bor EntityType) → Option Text
type_found o = option_map (λ t. type_text t.now) o

-- the first type, or else the second
abbrev pub first_type : Option Text → Option Text → Option Text
first_type (Some t) o = Some t
first_type None o = o

-- what the resource asks for, or else what the action asks for; nothing, where the action asks for nothing and its
-- constraint is no boolean
abbrev pub resource_or_action :
    Option (List EntityName) → Option (List EntityName) → Bool → Option (List EntityName)
resource_or_action (Some r) (Some a) is_bool = Some r
resource_or_action None (Some a) is_bool = Some a
resource_or_action o None is_bool = cond is_bool o None

-- ---- the index

-- more than half of so many policies are in the rest
abbrev pub is_mostly_rest : ScopeIndex → ℕ → Bool
is_mostly_rest index count = nat_lt (count / 2) (length index.rest.items)

-- positions under the entities that scopes name
abbrev pub Groups : Type 0
Groups = List (EntityUID × Vec ℕ Global)

-- positions under the types that scopes test for
abbrev pub TypeGroups : Type 0
TypeGroups = List (EntityType × Vec ℕ Global)

abbrev pub items_or_none : Option (Vec ℕ Global) → List ℕ
items_or_none None = []
items_or_none (Some v) = v.items

-- those under an entity
abbrev pub standing_under : Groups → EntityName → List ℕ
standing_under es n = items_or_none (lookup (λ (u : EntityUID). entity_eq n (uid_name u)) es)

-- those under a type
abbrev pub standing_under_type : TypeGroups → Text → List ℕ
standing_under_type ts t = items_or_none (lookup (λ (u : EntityType). text_eq t (type_text u)) ts)

-- those under the entity, and those under its type
abbrev pub under_entity : ScopeIndex → EntityName → List ℕ
under_entity index e = standing_under index.groups.entries e

abbrev pub under_type : ScopeIndex → Text → List ℕ
under_type index t = standing_under_type index.types.entries t

abbrev pub has_position : ℕ → List ℕ → Bool
has_position i ns = list_any (λ j. i == j) ns

-- it is under each of these entities, if there are some
abbrev pub stands_under_each : Groups → ℕ → Option (List EntityName) → Bool
stands_under_each es i None = false
stands_under_each es i (Some ns) = list_all (λ n. has_position i (standing_under es n)) ns

-- it is under this type, if there is one
abbrev pub stands_under_type : TypeGroups → ℕ → Option Text → Bool
stands_under_type ts i None = false
stands_under_type ts i (Some t) = has_position i (standing_under_type ts t)

-- the position stands under each of the entities that the policy is bound to
abbrev pub is_under_entities : ScopeIndex → ℕ → PolicyView → Bool
is_under_entities index i p =
    stands_under_each index.groups.entries i (principal_bound p)
    || (stands_under_each index.groups.entries i (action_bound p)
    || stands_under_each index.groups.entries i (resource_bound p))

-- it stands under a type that the policy is bound to
abbrev pub is_under_type : ScopeIndex → ℕ → PolicyView → Bool
is_under_type index i p =
    stands_under_type index.types.entries i (principal_type_bound p)
    || (stands_under_type index.types.entries i (action_type_bound p)
    || stands_under_type index.types.entries i (resource_type_bound p))

-- the policy at this position is in the rest, or stands under each of the entities that it is bound to, or under a type
abbrev pub is_placed : ScopeIndex → ℕ → PolicyView → Bool
is_placed index i p = has_position i index.rest.items || (is_under_entities index i p || is_under_type index i p)

-- so is each of these policies
abbrev pub ArePlaced : ScopeIndex → List Policy → Type 0
ArePlaced index ps = (i : ℕ) (p : Policy) → slice_get ps i ≡ Some p → is_placed index i (policy_view p) ≡ true

pub ArePlaced-prop : (index : ScopeIndex) (ps : List Policy) (x y : ArePlaced index ps) → x ≡ y
ArePlaced-prop index ps x y = λ j i p e. Bool-set _ _ (x i p e) (y i p e) j

-- the position is in the rest, or stands under one of these entities or under the type of one
abbrev pub is_looked_up : ScopeIndex → List EntityName → ℕ → Bool
is_looked_up index es i =
    has_position i index.rest.items
    || (list_any (λ e. has_position i (under_entity index e)) es
    || list_any (λ e. has_position i (under_type index e.type_name)) es)

-- these are the positions that are looked up for these entities
abbrev pub AreLookedUp : ScopeIndex → List EntityName → List ℕ → Type 0
AreLookedUp index es ns = (i : ℕ) → has_position i ns ≡ is_looked_up index es i

-- there is a policy, and it passes the test
abbrev pub passes : (Policy → Bool) → Option Policy → Bool
passes test None = false
passes test (Some p) = test p

-- each position is in the rest, or under an entity or a type, only where one of these policies stands that is looked at for that
abbrev pub AreFiledRight : ScopeIndex → List Policy → Type 0
AreFiledRight index ps =
    (es : List EntityName) (i : ℕ) → is_looked_up index es i ≡ true
    → passes (λ p. is_looked_at es (policy_view p)) (slice_get ps i) ≡ true

pub AreFiledRight-prop : (index : ScopeIndex) (ps : List Policy) (x y : AreFiledRight index ps) → x ≡ y
AreFiledRight-prop index ps x y = λ j es i e. Bool-set _ _ (x es i e) (y es i e) j

-- what was placed stays, and this policy is placed at this position; no other position is looked up than was, and this
-- one only for what the policy is looked at for
pub record Places (old new : ScopeIndex) (i : ℕ) (p : PolicyView) : Type 0 where
  pub stay : (j : ℕ) (q : PolicyView) → is_placed old j q ≡ true → is_placed new j q ≡ true
  pub placed : is_placed new i p ≡ true
  pub only : (es : List EntityName) (j : ℕ) → is_looked_up new es j ≡ true
      → (is_looked_up old es j || (j == i && is_looked_at es p)) ≡ true

-- what stands under entities is what did, and this position under these
abbrev pub Extends : Groups → Groups → List EntityName → ℕ → Type 0
Extends old new ns i =
    (j : ℕ) (m : EntityName) → has_position j (standing_under new m)
    ≡ (has_position j (standing_under old m) || (j == i && is_among m ns))

-- what stands under types is what did, and this position under this one
abbrev pub ExtendsType : TypeGroups → TypeGroups → Text → ℕ → Type 0
ExtendsType old new t i =
    (j : ℕ) (u : Text) → has_position j (standing_under_type new u)
    ≡ (has_position j (standing_under_type old u) || (j == i && text_eq u t))

-- to the first positions those are added that stand under each of these entities
abbrev pub AddsEach : (EntityName → List ℕ) → List EntityName → List ℕ → List ℕ → Type 0
AddsEach under es old new =
    (j : ℕ) → has_position j new ≡ (has_position j old || list_any (λ e. has_position j (under e)) es)

-- a type that was looked at, if one was, is this one
abbrev pub is_last_type : Text → Option (Bor EntityType) → Bool
is_last_type t o = is_this_type t (type_found o)

-- those under a type, unless it was looked at last
abbrev pub under_other_type : ScopeIndex → Option (Bor EntityType) → Text → List ℕ
under_other_type index last t = cond (is_last_type t last) [] (under_type index t)

-- each position that is not among these is that of a policy that is bound elsewhere than to these entities
abbrev pub ReachesAll : ScopeIndex → List EntityName → List ℕ → Type 0
ReachesAll index es ns =
    (i : ℕ) (p : PolicyView) → is_placed index i p ≡ true → has_position i ns ≡ false → IsBoundElsewhere es p

-- where these are the positions for some entities, and an index has all, only policies are left out that are bound elsewhere
abbrev pub ArePicked : List ℕ → List Policy → List Policy → Type 0
ArePicked ns all some =
    (index : ScopeIndex) (es : List EntityName) → ArePlaced index all → ReachesAll index es ns
    → AreWithinReach es all some

-- where at each of these positions a policy stands that passes a test, so do all of some
abbrev pub AreOfPositions : List ℕ → List Policy → List Policy → Type 0
AreOfPositions ns all some =
    (test : Policy → Bool) → ((i : ℕ) → has_position i ns ≡ true → passes test (slice_get all i) ≡ true)
    → list_all test some ≡ true
