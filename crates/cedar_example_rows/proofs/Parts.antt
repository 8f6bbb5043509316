-- One stored part.
use Rattle.std.proofs.Common.{◌≡◌, true, false, Bool, ◌&&◌, []}
use Rattle.std.specs.BTreeMap.{insert_entry}
use Rattle.std.specs.declared.alloc.Global.{Global}
use Rattle.std.specs.declared.cmp.Ordering.{Ordering}
use Rattle.std.specs.declared.rc.RcStr.{RcStr}
use Rattle.cedar_values.specs.declared.partial_value.PartialValue.{PartialValue}
use Rattle.cedar_values.specs.Residuals.{partial_view}
use Rattle.cedar_layers.specs.Parts.{parts_view, is_restricted_part, are_restricted_parts}

alone : (a : Bool) → a ≡ true → (a && true) ≡ true
alone true h = h
alone false h = cc

-- a restricted part that is put where there was none
pub one_restricted : (cmp : RcStr Global → RcStr Global → Ordering) (k : RcStr Global) (p : PartialValue)
    → is_restricted_part (partial_view p) ≡ true → are_restricted_parts (parts_view (insert_entry cmp [] k p)) ≡ true
one_restricted cmp k p h = alone (is_restricted_part (partial_view p)) h
