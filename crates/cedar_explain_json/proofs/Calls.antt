-- Names by the texts of keys.
use Rattle.std.proofs.Common.{◌≡◌, refl, ap, ◌∙◌, Bool, true, false, cond, List, [], ◌∷◌, map, Option, Some, None, option_map}
use Rattle.std.specs.Cmp.Lexicographic.{slice_cmp}
use Rattle.std.specs.Map.{lookup}
use Rattle.std.specs.Ordering.{is_eq, nat_cmp}
use Rattle.std.specs.Rc.{rc_str_bytes}
use Rattle.std.specs.declared.alloc.Global.{Global}
use Rattle.std.specs.declared.rc.RcStr.{RcStr}
use Rattle.cedar_model.specs.Terms.{Text}
use Rattle.cedar_model.specs.Outcomes.{text_eq}
use Rattle.cedar_expressions.proofs.Records.{text_eq-order}

at_text : (key : Text) (es : List (RcStr Global × RcStr Global))
    → option_map rc_str_bytes (lookup (λ k. text_eq key (rc_str_bytes k)) es)
    ≡ lookup (text_eq key) (map (λ e. (rc_str_bytes e.0, rc_str_bytes e.1)) es)
at_text key [] = refl
at_text key (e ∷ es) = by (text_eq key (rc_str_bytes e.0)) _ _ (at_text key es)
  where
    by : (b : Bool) (o : Option (RcStr Global)) (p : Option Text) → option_map rc_str_bytes o ≡ p
        → option_map rc_str_bytes (cond b (Some e.1) o) ≡ cond b (Some (rc_str_bytes e.1)) p
    by true o p h = refl
    by false o p h = h

-- what stands under a key is found by its text
pub found_at : (key : Text) (es : List (RcStr Global × RcStr Global))
    → option_map rc_str_bytes (lookup (λ k. is_eq (slice_cmp nat_cmp key (rc_str_bytes k))) es)
    ≡ lookup (text_eq key) (map (λ e. (rc_str_bytes e.0, rc_str_bytes e.1)) es)
found_at key es =
    ap (λ (test : RcStr Global → Bool). option_map rc_str_bytes (lookup test es)) (λ i k. text_eq-order key (rc_str_bytes k) i)
    ∙ at_text key es
