-- The name of an entity, as contracts see it: its fields, as one value.
use Rattle.std.specs.Prelude.{Option}
use Rattle.std.specs.declared.alloc.Global.{Global}
use Rattle.std.specs.declared.rc.RcStr.{RcStr}
use Rattle.cedar_names.specs.declared.names.EntityType.{EntityType}
use Rattle.cedar_names.specs.declared.names.Loc.{Loc}

pub record EntityFields : Type 0 where
  pub ty : EntityType
  pub eid : RcStr Global
  pub loc : Option Loc
