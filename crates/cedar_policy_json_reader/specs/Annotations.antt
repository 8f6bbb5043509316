-- Maps of annotations, for private clauses.
use Rattle.std.specs.Prelude.{List, map}
use Rattle.std.specs.Rc.{rc_str_bytes}
use Rattle.std.specs.declared.alloc.Global.{Global}
use Rattle.std.specs.declared.rc.RcStr.{RcStr}
use Rattle.cedar_model.specs.Terms.{Text}

-- the texts of a map under their keys
abbrev pub texts_under : List (RcStr Global × RcStr Global) → List (Text × Text)
texts_under es = map (λ e. (rc_str_bytes e.0, rc_str_bytes e.1)) es
