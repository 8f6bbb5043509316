-- What is found in a map of such values is such a value.
use Rattle.std.specs.Prelude.{◌≡◌, Bool, true, false, cond, List, [], ◌∷◌, Option, Some, option_map}
use Rattle.std.specs.Map.{lookup}
use Rattle.std.specs.Rc.{rc_str_bytes}
use Rattle.std.specs.declared.alloc.Global.{Global}
use Rattle.std.specs.declared.rc.RcStr.{RcStr}
use Rattle.std.proofs.Common.{subst}
use Rattle.cedar_model.specs.Terms.{Text}
use Rattle.cedar_model.specs.Values.{Represented}
use Rattle.cedar_model.specs.Outcomes.{text_eq}
use Rattle.cedar_model.proofs.Injections.{none_is_not_some, some_inj}
use Rattle.cedar_values.specs.Sound.{Placed}
use Rattle.cedar_requests.specs.Substitutions.{values_for}
use Rattle.cedar_faithful.specs.Held.{MapsEachTo}

module _ (P : Represented → Type 0) where
  -- the value that is found, if one is
  abbrev IsFound : Option Placed → Type 0
  IsFound o = (v : Represented) → option_map (λ (p : Placed). p.what) o ≡ Some v → P v

  found_by : (b : Bool) (p : Placed) (o : Option Placed) → P p.what → IsFound o → IsFound (cond b (Some p) o)
  found_by true p o h k v e = subst P (some_inj e) h
  found_by false p o h k v e = k v e

  found_such : (test : RcStr Global → Bool) (es : List (RcStr Global × Placed)) → MapsEachTo P es
      → IsFound (lookup test es)
  found_such test [] h = λ v e. absurd (none_is_not_some e)
  found_such test (p ∷ es) h = found_by (test p.0) p.1 (lookup test es) h.0 (found_such test es h.1)

  pub mapped_such : (es : List (RcStr Global × Placed)) → MapsEachTo P es → (n : Text) (v : Represented)
      → values_for es n ≡ Some v → P v
  mapped_such es h n = found_such (λ (k : RcStr Global). text_eq n (rc_str_bytes k)) es h
