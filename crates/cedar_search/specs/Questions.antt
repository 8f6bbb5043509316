-- What is searched for, as plain data.
use Rattle.std.specs.Prelude.{Bool, true, List, map, Some, None}
use Rattle.cedar_model.specs.Terms.{EntityName}
use Rattle.cedar_model.specs.Outcomes.{text_eq, entity_eq}
use Rattle.cedar_model.specs.Policies as model
use Rattle.cedar_model.specs.Settings.{Entry, known_entry, unknown_entry, RequestPart, Store, Setting}
use Rattle.cedar_model.specs.Configurations.{Configuration}
use Rattle.cedar_names.specs.declared.names.EntityUID.{EntityUID}
use Rattle.cedar_names.specs.Names.{uid_name}
use Rattle.cedar_layers.specs.Stores.{store_view}
use Rattle.cedar_requests.specs.Requests.{request_view}
use Rattle.cedar_authorizer.specs.declared.authorizer.Authorizer.{Authorizer}
use Rattle.cedar_authorizer.specs.Configured.{configuration, asked_of}
use Rattle.cedar_authorizer.specs.Responding.{considered}
use Rattle.cedar_search.specs.declared.searches.Part.{Part}
use Rattle.cedar_search.specs.declared.searches.Part.TheVariants as parts
use Rattle.cedar_search.specs.declared.searches.Search.{Search}

-- how an authorizer is configured, which part of which request is sought, over which store, and by which policies
pub record Question : Type 1 where
  pub configuration : Configuration
  pub part : Part
  pub request : RequestPart
  pub store : Store
  pub policies : List model.Policy

-- ---- the part that is sought

-- its entry
abbrev pub sought : Part → RequestPart → Entry
sought parts.Principal r = r.principal_entry
sought parts.Action r = r.action_entry
sought parts.Resource r = r.resource_entry

-- the request with this entity as the part
abbrev pub with_entity : Part → EntityName → RequestPart → RequestPart
with_entity parts.Principal e r = record r { principal_entry = known_entry e }
with_entity parts.Action e r = record r { action_entry = known_entry e }
with_entity parts.Resource e r = record r { resource_entry = known_entry e }

-- whether an entry can be the entity: a known one that alone, an unknown each of its type, where that is known
abbrev pub can_be : Entry → EntityName → Bool
can_be (known_entry d) e = entity_eq d e
can_be (unknown_entry None) e = true
can_be (unknown_entry (Some t)) e = text_eq t e.type_name

-- ---- questions

-- whether the part can be the entity
abbrev pub can_ask : Question → EntityName → Bool
can_ask q e = can_be (sought q.part q.request) e

-- what is asked of a candidate: the whole request with it
abbrev pub asked_with : Question → EntityName → Setting
asked_with q e = asked_of q.configuration (with_entity q.part e q.request) q.store

-- ---- how a search is seen

abbrev pub names_of : List EntityUID → List EntityName
names_of us = map uid_name us

abbrev pub candidates_of : Search → List EntityName
candidates_of s = names_of s.candidates.now

-- what a search asks an authorizer
abbrev pub question : {X : Type 0} {F : X → Type 0} {g : _} → Authorizer X F g → Search → Question
question a s = record {
  configuration = configuration a;
  part = s.part;
  request = request_view s.request.now;
  store = store_view s.entities.now;
  policies = considered s.policies.now;
}
