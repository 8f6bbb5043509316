-- What policies name, and nothing has.
use Rattle.std.specs.Prelude.{Bool, true, false, cond, not, ◌||◌, List, [], ◌∷◌, ◌++◌, Option, None, Some, codes}
use Rattle.std.specs.List.{ends_with}
use Rattle.std.specs.Bool.{nat_eq}
use Rattle.cedar_model.specs.Terms.{Text, EntityName}
use Rattle.cedar_model.specs.Outcomes.{text_eq}
use Rattle.cedar_model.specs.Policies as model
use Rattle.cedar_names.specs.declared.names.EntityUID.{EntityUID}
use Rattle.cedar_names.specs.Names.{type_text, uid_name, uid_type}
use Rattle.cedar_layers.specs.declared.policies.policy.Policy.{Policy}
use Rattle.cedar_layers.specs.Policies.{policy_parts, policy_view}
use Rattle.cedar_lints.specs.declared.absent.Extent as extents
use Rattle.cedar_lints.specs.declared.absent.Extent.TheVariants as extent_kinds
use Rattle.cedar_lints.specs.declared.absent.Sheet as sheets
use Rattle.cedar_lints.specs.Keys.{Key, Sheet, has_key, once}
use Rattle.cedar_lints.specs.Knowing.{Known}
use Rattle.cedar_lints.specs.Mentions.{Mention, Named, entity, of_type, group, policy_mentions, mentions_seen}

-- which policies are looked at, and what is reported of them: of those that forbid no action by itself
pub data Extent : Type 0 where
  all : Extent
  those_that_forbid : Extent

abbrev pub forbids : model.Effect → Bool
forbids model.permit = false
forbids model.forbid = true

abbrev pub is_looked_at : Extent → model.Effect → Bool
is_looked_at all e = true
is_looked_at those_that_forbid e = forbids e

-- entities of the type are actions: the last part of its name is `Action`
abbrev pub is_action_type : Text → Bool
is_action_type t = text_eq t (codes "Action") || ends_with nat_eq t (codes "::Action")

-- an action by itself
abbrev pub is_action : Named → Bool
is_action (entity u) = is_action_type (uid_name u).type_name
is_action (of_type t) = false
is_action (group u) = false

abbrev pub is_reported : Extent → Named → Bool
is_reported all n = true
is_reported those_that_forbid n = not (is_action n)

-- the type, unless it is known
abbrev pub absent_type : Known → Mention → Text → Option Mention
absent_type k m t = cond (k.types t) None (Some m)

-- the entity, unless it is known; where its type is not known, the type
abbrev pub absent_entity : Known → Mention → EntityUID → Option Mention
absent_entity k m u =
    cond (k.types (uid_name u).type_name) (cond (k.entities (uid_name u)) None (Some m))
    (Some (record { named = of_type (uid_type u); place = m.place }))

-- the group, unless something known is in it, or is it
abbrev pub absent_group : Known → Mention → EntityName → Option Mention
absent_group k m n = cond (k.entities n) None (Some m)

abbrev pub absent_named : Known → Mention → Named → Option Mention
absent_named k m (entity u) = absent_entity k m u
absent_named k m (of_type t) = absent_type k m (type_text t)
absent_named k m (group u) = absent_group k m (uid_name u)

-- what is named, if it is not known
abbrev pub absent_of : Known → Mention → Option Mention
absent_of k m = absent_named k m m.named

abbrev pub reported_of : Extent → Mention → List Mention
reported_of x m = cond (is_reported x m.named) (m ∷ []) []

abbrev pub reported : Extent → Option Mention → List Mention
reported x None = []
reported x (Some m) = reported_of x m

-- those of mentions, in order
abbrev pub absent_of_each : Extent → Known → List Mention → List Mention
absent_of_each x k [] = []
absent_of_each x k (m ∷ ms) = reported x (absent_of k m) ++ absent_of_each x k ms

-- those of a policy
abbrev pub absent_of_policy : Extent → Known → Policy → List Mention
absent_of_policy x k p = absent_of_each x k (policy_mentions (policy_parts p))

-- the same, if it is looked at
abbrev pub absent_in : Extent → Known → Policy → List Mention
absent_in x k p = cond (is_looked_at x (policy_view p).effect) (absent_of_policy x k p) []

abbrev pub absent_each : Extent → Known → List Policy → List Mention
absent_each x k [] = []
absent_each x k (p ∷ ps) = absent_in x k p ++ absent_each x k ps

-- what it is named as, and its name
abbrev pub named_key : Named → Key
named_key (entity u) = codes "entity" ∷ (uid_name u).type_name ∷ (uid_name u).id ∷ []
named_key (of_type t) = codes "type" ∷ type_text t ∷ []
named_key (group u) = codes "group" ∷ (uid_name u).type_name ∷ (uid_name u).id ∷ []

abbrev pub mention_key : Mention → Key
mention_key m = named_key m.named

-- what these policies name and is not known: each once, where it is named first
abbrev pub absent_names : Extent → Known → List Policy → List Mention
absent_names x k ps = once mention_key (absent_each x k ps)

-- ---- for private clauses

abbrev pub extent_view : extents.Extent → Extent
extent_view extent_kinds.All = all
extent_view extent_kinds.Forbids = those_that_forbid

abbrev pub sheet_view : sheets.Sheet → Sheet Mention
sheet_view s = record { has = has_key s.keys.keys; items = mentions_seen s.items.items }
