-- Each value inside a value is smaller.
use Rattle.std.specs.Prelude.{◌≡◌, ◌+◌, ◌≤◌, max, List, [], ◌∷◌}
use Rattle.std.specs.declared.alloc.Global.{Global}
use Rattle.std.specs.declared.rc.RcStr.{RcStr}
use Rattle.std.proofs.Common.{arith}
use Rattle.std.specs.Map.{values_of}
use denote.Param.Weighed.{most}
use Rattle.cedar_model.specs.Sets.{represented_size, represented_values_size, represented_fields_size, represented_values_of, canonical_set}
use Rattle.cedar_values.specs.declared.value.ValueKind.{ValueKind}
use Rattle.cedar_values.specs.declared.value.ValueKind.TheVariants as kinds
use Rattle.cedar_values.specs.declared.value.Set.TheDeep.{deep-ValueKind}
use Rattle.cedar_values.specs.Sound.{Placed, whats, whats_at}
use Rattle.cedar_values.specs.Kinds.{kind_what}

most_listed : (ps : List Placed) → most (λ p. represented_size p.what + 1) ps ≤ represented_values_size (represented_values_of (whats ps))
most_listed [] = omega arith
most_listed (p ∷ ps) = omega (arith, most_listed ps)

pub elements_fall : (ps : List Placed) → canonical_set (whats ps) ≡ represented_values_of (whats ps) → max (most (λ p. represented_size p.what + 1) ps) 0 ≤ represented_values_size (canonical_set (whats ps))
elements_fall ps h = rw h (omega (arith, most_listed ps))

most_listed_at : (fs : List (RcStr Global × Placed)) → most (λ p. represented_size p.what + 1) (values_of fs) ≤ represented_fields_size (whats_at fs)
most_listed_at [] = omega arith
most_listed_at (f ∷ fs) = omega (arith, most_listed_at fs)

pub kind_falls : (k : ValueKind) → max (deep-ValueKind k) 0 ≤ represented_size (kind_what k)
kind_falls (kinds.Lit l) = omega arith
kind_falls (kinds.Set s) = omega arith
kind_falls (kinds.Record m) = omega (arith, most_listed_at m.value.entries)
kind_falls (kinds.ExtensionValue e) = omega arith
