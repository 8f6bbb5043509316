-- Names that are open, one by one.
use Rattle.std.proofs.Common.{◌≡◌, refl, ap, ◌∙◌, Bool, true, false, List, [], ◌∷◌, map}
use Rattle.std.specs.Prelude.{◌||◌}
use Rattle.std.specs.Rc.{rc_str_bytes}
use Rattle.std.specs.declared.alloc.Global.{Global}
use Rattle.std.specs.declared.rc.RcStr.{RcStr}
use Rattle.std.proofs.lemmas.Bool.{or_left}
use Rattle.cedar_model.specs.Terms.{Text}
use Rattle.cedar_model.specs.Outcomes.{text_eq, has_text}
use Rattle.cedar_values.specs.Sound.{Placed}
use Rattle.cedar_cli.specs.Steps.{is_open, some_open}

or_false : (b c : Bool) → b ≡ false → (b || c) ≡ c
or_false true c h = absurd (cc)
or_false false c h = refl

module _ (names : List Text) where
  pub open_here : (left rest : List (RcStr Global × Placed)) (e : RcStr Global × Placed) → left ≡ e ∷ rest
      → is_open names (rc_str_bytes e.0) ≡ true → some_open names left ≡ true
  open_here left rest e same met =
      ap (some_open names) same ∙ or_left (is_open names (rc_str_bytes e.0)) (some_open names rest) met

  pub not_open_here : (left rest : List (RcStr Global × Placed)) (e : RcStr Global × Placed) → left ≡ e ∷ rest
      → is_open names (rc_str_bytes e.0) ≡ false → some_open names left ≡ some_open names rest
  not_open_here left rest e same met =
      ap (some_open names) same ∙ or_false (is_open names (rc_str_bytes e.0)) (some_open names rest) met

module _ (n : Text) where
  abbrev has : List (RcStr Global) → Bool
  has ks = has_text n (map rc_str_bytes ks)

  pub text_here : (left rest : List (RcStr Global)) (k : RcStr Global) → left ≡ k ∷ rest
      → text_eq n (rc_str_bytes k) ≡ true → has_text n (map rc_str_bytes left) ≡ true
  unfolding has_text
  text_here left rest k same met = ap has same ∙ or_left (text_eq n (rc_str_bytes k)) (has rest) met

  pub text_not_here : (left rest : List (RcStr Global)) (k : RcStr Global) → left ≡ k ∷ rest
      → text_eq n (rc_str_bytes k) ≡ false → has_text n (map rc_str_bytes left) ≡ has_text n (map rc_str_bytes rest)
  unfolding has_text
  text_not_here left rest k same met = ap has same ∙ or_false (text_eq n (rc_str_bytes k)) (has rest) met

  pub text_nowhere : (left : List (RcStr Global)) → left ≡ [] → has_text n (map rc_str_bytes left) ≡ false
  unfolding has_text
  text_nowhere left none = ap has none
