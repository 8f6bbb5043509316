use Rattle.std.proofs.Common.{◌+◌, ◌-◌, ◌≤◌, ◌∷◌}
use Rattle.std.specs.Rc.{rc_str_bytes}
use Rattle.std.specs.declared.alloc.Global.{Global}
use Rattle.std.specs.declared.rc.RcStr.{RcStr}
use Rattle.cedar_text_parser.specs.Wording.{IsKeyAt, AreKeysAt}
use Rattle.cedar_text_parser.proofs.leaves.further_keys.Given as goal

abbrev pub invariant-loop-at : goal.invariant-loop-at
invariant-loop-at l = record {
  bound : l.at ≤ l.to + 1;
  named : (w : RcStr Global) → IsKeyAt l.source l.from (rc_str_bytes w) →
      AreKeysAt l.source l.from l.at (w ∷ l.rest.items);
}

abbrev pub decreases-loop-at : goal.decreases-loop-at
decreases-loop-at l = l.to - l.at
