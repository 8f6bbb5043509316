-- An unknown, as contracts see it: its fields, as one value.
use Rattle.std.specs.Prelude.{Option}
use Rattle.std.specs.declared.alloc.Global.{Global}
use Rattle.std.specs.declared.rc.RcStr.{RcStr}
use Rattle.cedar_names.specs.declared.types.Type as types

pub record UnknownFields : Type 0 where
  pub name : RcStr Global
  pub type_annotation : Option types.Type
