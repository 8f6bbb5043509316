-- The values of a context, as contracts see them: one map, whether the context has it alone or shares it.
use Rattle.std.specs.Prelude.{List, map, Option}
use Rattle.std.specs.declared.alloc.Global.{Global}
use Rattle.std.specs.declared.rc.RcStr.{RcStr}
use Rattle.std.specs.declared.collections.BTreeMap.{BTreeMap}
use Rattle.cedar_names.specs.declared.names.Loc.{Loc}
use Rattle.cedar_values.specs.Sound.{Placed}
use Rattle.cedar_requests.specs.declared.context.values.HeldValues.{HeldValues}
use Rattle.cedar_requests.specs.declared.context.values.HeldValues.TheVariants as held

abbrev pub ValueMap : Type 0
ValueMap = BTreeMap (RcStr Global) Placed Global

-- the values that are held
abbrev pub held_values : HeldValues → ValueMap
held_values (held.Own m) = m
held_values (held.Shared m) = m.value

-- where they stand
abbrev pub value_locs : ValueMap → List (Option Loc)
value_locs m = map (λ p. p.1.loc) m.entries
