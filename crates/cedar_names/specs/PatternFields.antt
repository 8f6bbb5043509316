-- A pattern, as contracts see it: its fields, as one value.
use Rattle.std.specs.declared.alloc.Global.{Global}
use Rattle.std.specs.declared.vec.Vec.{Vec}
use Rattle.cedar_names.specs.declared.pattern.PatternElem.{PatternElem}

pub record PatternFields : Type 0 where
  pub elems : Vec PatternElem Global
