-- A name, as contracts see it: its fields, as one value.
use Rattle.std.specs.Prelude.{Option}
use Rattle.std.specs.declared.alloc.Global.{Global}
use Rattle.std.specs.declared.rc.RcStr.{RcStr}
use Rattle.cedar_names.specs.declared.names.Loc.{Loc}

pub record NameFields : Type 0 where
  pub text : RcStr Global
  pub loc : Option Loc
