-- What each error says: its fields, as contracts see them. The struct of an error is seen as one value, so that whoever holds an error doesn't hold its parts one by one.
use Rattle.std.specs.Prelude.{ℕ, Bool, Option}
use Rattle.std.specs.declared.alloc.Global.{Global}
use Rattle.std.specs.declared.rc.Rc.{Rc}
use Rattle.std.specs.declared.rc.RcStr.{RcStr}
use Rattle.std.specs.declared.string.String.{String}
use Rattle.std.specs.declared.vec.Vec.{Vec}
use Rattle.cedar_names.specs.declared.names.EntityUID.{EntityUID}
use Rattle.cedar_names.specs.declared.names.Loc.{Loc}
use Rattle.cedar_names.specs.declared.names.Name.{Name}
use Rattle.cedar_names.specs.declared.operators.BinaryOp.{BinaryOp}
use Rattle.cedar_names.specs.declared.operators.UnaryOp.{UnaryOp}
use Rattle.cedar_names.specs.declared.types.FirstRest.{FirstRest}
use Rattle.cedar_names.specs.declared.names.SlotId.{SlotId}
use Rattle.cedar_names.specs.declared.types.Type as types
use Rattle.cedar_expressions.specs.declared.expr.Expr.{Expr}
use Rattle.cedar_values.specs.Sound.{Placed}

pub record MissingEntity : Type 0 where
  pub uid : Rc EntityUID Global
  pub source_loc : Option Loc

pub record MissingEntityAttribute : Type 0 where
  pub entity : Rc EntityUID Global
  pub attr_or_tag : RcStr Global
  pub was_attr : Bool
  pub exists_the_other_kind : Bool
  pub available_attrs_or_tags : Vec (RcStr Global) Global
  pub total_attrs_or_tags : ℕ
  pub source_loc : Option Loc

pub record MissingRecordAttribute : Type 0 where
  pub attr : RcStr Global
  pub available_attrs : Vec (RcStr Global) Global
  pub total_attrs : ℕ
  pub source_loc : Option Loc

pub record WrongType : Type 0 where
  pub expected : FirstRest types.Type
  pub actual : types.Type
  pub source_loc : Option Loc

pub record MiscountedArguments : Type 0 where
  pub function_name : Name
  pub expected : ℕ
  pub actual : ℕ
  pub source_loc : Option Loc

pub record BinaryOverflow : Type 0 where
  pub op : BinaryOp
  pub arg1 : Placed
  pub arg2 : Placed
  pub source_loc : Option Loc

pub record UnaryOverflow : Type 0 where
  pub op : UnaryOp
  pub arg : Placed
  pub source_loc : Option Loc

pub record UnlinkedSlot : Type 0 where
  pub slot : SlotId
  pub source_loc : Option Loc

pub record FailedFunction : Type 0 where
  pub extension_name : Name
  pub msg : String Global
  pub source_loc : Option Loc

pub record Residual : Type 0 where
  pub expr : Expr
  pub source_loc : Option Loc

pub record MissingFunction : Type 0 where
  pub name : Name
  pub source_loc : Option Loc
