-- The values that a map has for unknowns.
use Rattle.std.specs.Prelude.{List, option_map}
use Rattle.std.specs.Map.{lookup}
use Rattle.std.specs.Rc.{rc_str_bytes}
use Rattle.std.specs.declared.alloc.Global.{Global}
use Rattle.std.specs.declared.rc.RcStr.{RcStr}
use Rattle.cedar_model.specs.Terms.{Term}
use Rattle.cedar_model.specs.Values.{Represented}
use Rattle.cedar_model.specs.Outcomes.{text_eq}
use Rattle.cedar_model.specs.Chains.{Mapping, substituted}

-- the value that is stored under a name, where `represents` tells what is stored
abbrev pub mapping_of : {V : Type 0} → (V → Represented) → List (RcStr Global × V) → Mapping
mapping_of represents es n = option_map represents (lookup (λ (k : RcStr Global). text_eq n (rc_str_bytes k)) es)

-- the term with these values for the unknowns that it names
abbrev pub with_values : {V : Type 0} → (V → Represented) → List (RcStr Global × V) → Term → Term
with_values represents es t = substituted (mapping_of represents es) t
