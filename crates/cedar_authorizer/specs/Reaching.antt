-- Entities that a request asks about, with all that they are in, and the policies that they reach.
use Rattle.std.specs.Prelude.{◌≡◌, ℕ, Bool, true, false, List, Option, None, Some}
use Rattle.cedar_model.specs.Terms.{Text, EntityName}
use Rattle.cedar_model.specs.Outcomes.{text_eq}
use Rattle.cedar_model.specs.Settings.{Entry, known_entry, unknown_entry, RequestPart, Store, Setting, Found, found, not_there}
use Rattle.cedar_model.specs.Settings.{not_known, look_up, is_among}
use Rattle.cedar_model.specs.Rules.{StoredCalls}
use Rattle.cedar_model.specs.Configurations.{Configuration}
use Rattle.cedar_layers.specs.declared.policies.policy.Policy.{Policy}
use Rattle.cedar_layers.specs.Policies.{policy_view}
use Rattle.cedar_layers.specs.Scopes.{AreAllBut}
use Rattle.cedar_authorizer.specs.Telling.{IsFalse, deciding_these}

-- what a found entity is in is among these; an entity that a store lacks is in nothing, if the store is concrete
abbrev pub IsFoundCovered : List EntityName → Found → Type 0
IsFoundCovered es (found d) = (e : EntityName) → is_among e d.ancestors ≡ true → is_among e es ≡ true
IsFoundCovered es not_there = Unit {0}
IsFoundCovered es not_known = ⊥

-- an entity is among these, and all that it is in
pub record IsEntityCovered (store : Store) (es : List EntityName) (u : EntityName) : Type 0 where
  pub own : is_among u es ≡ true
  pub above : IsFoundCovered es (look_up store u)

abbrev pub IsEntryCovered : Store → List EntityName → Entry → Type 0
IsEntryCovered store es (known_entry u) = IsEntityCovered store es u
IsEntryCovered store es (unknown_entry t) = ⊥

-- so are principal, action and resource
pub record AreCovered (r : RequestPart) (store : Store) (es : List EntityName) : Type 0 where
  pub of_principal : IsEntryCovered store es r.principal_entry
  pub of_action : IsEntryCovered store es r.action_entry
  pub of_resource : IsEntryCovered store es r.resource_entry

-- none is lost
abbrev pub Grows : List EntityName → List EntityName → Type 0
Grows old new = (e : EntityName) → is_among e old ≡ true → is_among e new ≡ true

-- where it is known, the entity is covered, and what was there is kept
abbrev pub IsCoveredBy : EntityName → Store → List EntityName → List EntityName → Bool → Type 0
IsCoveredBy u store old new b = Grows old new × (b ≡ true → IsEntityCovered store new u)

abbrev pub Covers : Entry → Store → List EntityName → List EntityName → Bool → Type 0
Covers entry store old new b = Grows old new × (b ≡ true → IsEntryCovered store new entry)

-- of all policies these are left, and the others are false
abbrev pub AreFalseBut : Setting → StoredCalls → ℕ → List Policy → List Policy → Type 0
AreFalseBut s calls levels all some = AreAllBut (IsFalse s calls levels) (deciding_these all) (deciding_these some)

-- by an authorizer that is configured so
abbrev pub OthersAreFalse : Configuration → Setting → List Policy → List Policy → Type 0
OthersAreFalse c s all some = AreFalseBut s c.calls c.levels all some

-- whether it is a policy of this id
abbrev pub is_of_id : Text → Option Policy → Bool
is_of_id t None = false
is_of_id t (Some p) = text_eq t (policy_view p).id
