-- What the texts of a step say: values for unknowns, and the store from then on.
use Rattle.std.specs.Prelude.{◌≡◌, ◌++◌, ◌||◌, Bool, true, false, cond, List, [], ◌∷◌, map}
use Rattle.std.specs.Prelude.{Option, Some, None, is_some, bytes_eq, codes}
use Rattle.std.specs.Rc.{rc_str_bytes}
use Rattle.std.specs.declared.alloc.Global.{Global}
use Rattle.std.specs.declared.rc.RcStr.{RcStr}
use Rattle.cedar_model.specs.Terms.{Text, EntityName}
use Rattle.cedar_model.specs.Values.{Represented}
use Rattle.cedar_model.specs.World as world
use Rattle.cedar_model.specs.Rules.{StoredCalls}
use Rattle.cedar_model.specs.Outcomes.{text_eq, has_text}
use Rattle.cedar_model.specs.Settings.{printed_entity}
use Rattle.cedar_model.specs.Chains.{Mapping}
use Rattle.cedar_values.specs.Sound.{Placed}
use Rattle.cedar_layers.specs.declared.policies.entities.Entities.{Entities}
use Rattle.cedar_requests.specs.declared.context.Context.{Context}
use Rattle.cedar_requests.specs.Contexts.{ValueMap, context_values}
use Rattle.cedar_requests.specs.Requests.{request_view}
use Rattle.cedar_authorizer.specs.declared.responses.partial_response.PartialResponse.{PartialResponse}
use Rattle.cedar_authorizer.specs.responses.Rows.{rows_view}
use Rattle.cedar_authorizer.specs.Running.{request_of}
use Rattle.cedar_unknowns.specs.Occurrences.{Asked, each_once, request_occurrences, row_occurrences}
use Rattle.cedar_unknowns.specs.Entities.{entities_asked, others_asked}
use Rattle.cedar_unknowns.specs.Themselves.{entity_values}
use Rattle.cedar_json_reader.specs.JsonTexts.{SaysSo}
use Rattle.cedar_json_reader.specs.SaidContexts.{context_said, IsContextOf}
use Rattle.cedar_cli.specs.declared.asked.Source.{Source}
use Rattle.cedar_cli.specs.declared.asked.Step.{Step}
use Rattle.cedar_cli.specs.Questions.{levels, IsStoreSaid}

-- ---- what a response leaves open

-- its unknowns, each once: those of its request and of what is left of its policies
abbrev pub unknowns_in : PartialResponse → List Asked
unknowns_in r = each_once (request_occurrences (request_view (request_of r)) ++ row_occurrences (rows_view r))

-- the entities that stores lacked before it
abbrev pub entities_lacked : PartialResponse → List EntityName
entities_lacked r = entities_asked (unknowns_in r)

abbrev pub names_asked : List Asked → List Text
names_asked us = map (λ u. u.0) us

-- the names of its unknowns that stand for no entity, and the texts of those entities
abbrev pub open_names : PartialResponse → List Text
open_names r = names_asked (others_asked (unknowns_in r)) ++ map printed_entity (entities_lacked r)

-- the name of a part of a request
abbrev pub is_part : Text → Bool
is_part n =
    bytes_eq n (codes "principal") || (bytes_eq n (codes "action") || (bytes_eq n (codes "resource")
    || bytes_eq n (codes "context")))

-- one of these names, or that of a part
abbrev pub is_open : List Text → Text → Bool
is_open names n = has_text n names || is_part n

-- ---- values

abbrev pub pairs_in : Option ValueMap → List (RcStr Global × Placed)
pairs_in None = []
pairs_in (Some m) = m.entries

-- the values of a context under their names
abbrev pub values_in : Context → List (RcStr Global × Placed)
values_in c = pairs_in (context_values c)

-- the map with this value under this name
abbrev pub with_value : Text × Represented → Mapping → Mapping
with_value e m n = cond (text_eq n e.0) (Some e.1) (m n)

-- with each of these values under its name
abbrev pub with_values : List (RcStr Global × Placed) → Mapping → Mapping
with_values [] m = m
with_values (e ∷ es) m = with_values es (with_value (rc_str_bytes e.0, e.1.what) m)

-- the map of a step from a response: the values that are given and, beside them, each entity that stores lacked as
-- itself
abbrev pub step_map : Context → PartialResponse → Mapping
step_map c r = with_values (values_in c) (entity_values (entities_lacked r))

-- the values that the JSON says, of which none holds an unknown
pub record AreValuesSaid (X : world.Extensions) (calls : StoredCalls) (text : Text) (c : Context) : Type 0 where
  pub said : SaysSo text (λ j. IsContextOf X calls levels (context_said j) c)
  pub known : is_some (context_values c) ≡ true

-- whether one of these values is under a name that is open
abbrev pub some_open : List Text → List (RcStr Global × Placed) → Bool
some_open names [] = false
some_open names (e ∷ es) = is_open names (rc_str_bytes e.0) || some_open names es

-- ---- stores

-- from the step on: its own, which the JSON says, or else the one before
abbrev pub IsStoreAfterOr : world.Extensions → StoredCalls → Option Source → Bool → Entities → Entities → Type 0
IsStoreAfterOr X calls None is_partial before s = s ≡ before
IsStoreAfterOr X calls (Some t) is_partial before s = IsStoreSaid X calls t.text.now is_partial s

abbrev pub IsStoreAfter : world.Extensions → StoredCalls → Step → Entities → Entities → Type 0
IsStoreAfter X calls step before s = IsStoreAfterOr X calls step.entities step.is_partial before s
