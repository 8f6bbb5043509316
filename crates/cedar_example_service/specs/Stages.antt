-- A decision in two stages: what is asked before it is known who asks, and what is decided then.
use Rattle.std.specs.Prelude.{◌≡◌, ◌↔◌, cond, List, [], ◌∷◌, Some, None, codes}
use Rattle.cedar_policy_core.specs.Model.Terms.{Text, EntityName, entity_literal, principal, eq_operator, Term, literal, variable}
use Rattle.cedar_policy_core.specs.Model.Terms.{binary}
use Rattle.cedar_policy_core.specs.Model.Values.{Represented, plain_represented, no_represented_at}
use Rattle.cedar_policy_core.specs.Model.Outcomes.{text_eq}
use Rattle.cedar_policy_core.specs.Model.World.{World, Functions}
use Rattle.cedar_policy_core.specs.Model.Settings.{known_entry, unknown_entry, known_context, RequestPart, Setting}
use Rattle.cedar_policy_core.specs.Model.Agreement.{no_slots}
use Rattle.cedar_policy_core.specs.Model.Policies.{permit, Policy, Decision, allow, decision, counted_each}
use Rattle.cedar_policy_core.specs.Model.Configurations.{Configuration}
use Rattle.cedar_policy_core.specs.Model.Responses.{truth}
use Rattle.cedar_policy_core.specs.Model.Chains.{Mapping, ChainStep}
use Rattle.cedar_policy_core.specs.Model.Headline.{Premises}
use Rattle.cedar_policy_core.specs.Ast.Policies.{PolicyView}

-- `principal == UID`
abbrev pub principal_is : EntityName → Term
principal_is uid = binary eq_operator (variable principal) (literal (entity_literal uid))

-- `permit(principal == OWNER, action, resource)`
abbrev pub owner_may : EntityName → PolicyView
owner_may owner = record {
  effect = permit;
  id = codes "owner";
  annotations = [];
  principal_constraint = principal_is owner;
  action_constraint = truth;
  resource_constraint = truth;
  when_clause = truth;
  slots = no_slots;
}

-- someone asks to do this with that, in a context with no attribute
abbrev pub from_someone : EntityName → EntityName → RequestPart
from_someone action resource = record {
  principal_entry = unknown_entry None;
  action_entry = known_entry action;
  resource_entry = known_entry resource;
  context_part = known_context no_represented_at;
}

-- a value for the unknown of this name, and for no other
abbrev pub one_value : Text → Represented → Mapping
one_value name v n = cond (text_eq n name) (Some v) None

-- the principal is this user
abbrev pub values_of : EntityName → Mapping
values_of user = one_value (codes "principal") (plain_represented (entity_literal user))

-- in each world that meets the premises of the headline, where no error is recorded, the policies decide so
abbrev pub IsDecidedIn : Configuration → Setting → List Policy → List ChainStep → Decision → Type 0
IsDecidedIn c s ps steps d =
    (ans : Functions) (w : World) → Premises c s.request s.store ps steps ans w []
    → decision (counted_each c.mode s.extensions ans w ps) ≡ d

-- of the owner's policy: it allows exactly the owner
abbrev pub IsForOwner : List PolicyView → EntityName → Decision → Type 0
IsForOwner ps user d = (owner : EntityName) → ps ≡ owner_may owner ∷ [] → (d ≡ allow) ↔ (user ≡ owner)

-- so it is where the values say who asks
abbrev pub IsDecidedFor : List PolicyView → Mapping → Decision → Type 0
IsDecidedFor ps values d = (user : EntityName) → values ≡ values_of user → IsForOwner ps user d
