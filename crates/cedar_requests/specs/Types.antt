-- The types of a request.
use Rattle.std.specs.Prelude.{◌≡◌, Option, Some, None, option_map}
use Rattle.cedar_model.specs.Terms.{Text, EntityName}
use Rattle.cedar_model.specs.Settings.{RequestPart}
use Rattle.cedar_names.specs.declared.names.EntityType.{EntityType}
use Rattle.cedar_names.specs.declared.names.EntityUID.{EntityUID}
use Rattle.cedar_names.specs.declared.names.Loc.{Loc}
use Rattle.cedar_names.specs.Names.{type_text, type_loc, uid_name, uid_type, uid_loc}
use Rattle.cedar_requests.specs.declared.entry.EntityUIDEntry.{EntityUIDEntry}
use Rattle.cedar_requests.specs.declared.request.types.RequestType.{RequestType}
use Rattle.cedar_requests.specs.Requests.{entry_uid, entry_name}

-- the type of who asks, what is to be done, and the type of what with
pub record RequestTypes : Type 0 where
  pub principal_type : Text
  pub action_name : EntityName
  pub resource_type : Text

abbrev pub request_type_view : RequestType → RequestTypes
request_type_view t = record {
  principal_type = type_text t.principal;
  action_name = uid_name t.action;
  resource_type = type_text t.resource;
}

-- of three entities that are all known
abbrev pub request_types_of : Option EntityName → Option EntityName → Option EntityName → Option RequestTypes
request_types_of None a r = None
request_types_of (Some p) None r = None
request_types_of (Some p) (Some a) None = None
request_types_of (Some p) (Some a) (Some r) =
    Some (record { principal_type = p.type_name; action_name = a; resource_type = r.type_name })

-- the types of a request whose entities are all known
abbrev pub request_type : RequestPart → Option RequestTypes
request_type r =
    request_types_of (entry_name r.principal_entry) (entry_name r.action_entry) (entry_name r.resource_entry)

-- ---- with their locations

-- a type: its text, and where it is named
abbrev pub placed_type : EntityType → Text × Option Loc
placed_type t = (type_text t, type_loc t)

-- an entity: its name, where it is named, and where its type is
abbrev pub placed_uid : EntityUID → EntityName × Option Loc × Option Loc
placed_uid u = (uid_name u, uid_loc u, type_loc (uid_type u))

-- the type of the entry's entity, which is known, with its location
abbrev pub IsTypeOf : EntityUIDEntry → EntityType → Type 0
IsTypeOf e t = option_map (λ u. placed_type (uid_type u)) (entry_uid e) ≡ Some (placed_type t)

-- the entry's entity, which is known, with its location and that of its type
abbrev pub IsEntityOf : EntityUIDEntry → EntityUID → Type 0
IsEntityOf e u = option_map placed_uid (entry_uid e) ≡ Some (placed_uid u)
