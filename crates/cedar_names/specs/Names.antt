-- Names as plain data.
use Rattle.std.specs.Prelude.{Option}
use Rattle.std.specs.Rc.{rc_str_bytes}
use Rattle.cedar_model.specs.Terms.{Text, EntityName}
use Rattle.cedar_names.specs.declared.names.Loc.{Loc}
use Rattle.cedar_names.specs.declared.names.Name.{Name}
use Rattle.cedar_names.specs.declared.names.EntityType.{EntityType}
use Rattle.cedar_names.specs.declared.names.EntityUID.{EntityUID}

-- the text of a name
abbrev pub name_text : Name → Text
name_text n = rc_str_bytes n.text

-- where a name stands
abbrev pub name_loc : Name → Option Loc
name_loc n = n.loc

-- the text of an entity type
abbrev pub type_text : EntityType → Text
type_text t = name_text t.0

-- the name of an entity type, whole: its location included
abbrev pub type_name_of : EntityType → Name
type_name_of t = t.0

-- where an entity type is named
abbrev pub type_loc : EntityType → Option Loc
type_loc t = name_loc t.0

-- the name of an entity
abbrev pub uid_name : EntityUID → EntityName
uid_name u = record { type_name = type_text u.ty; id = rc_str_bytes u.eid }

-- the type of an entity, whole: the location of its name included
abbrev pub uid_type : EntityUID → EntityType
uid_type u = u.ty

-- where an entity is named
abbrev pub uid_loc : EntityUID → Option Loc
uid_loc u = u.loc
