-- A map's look-up and its keys beside the fields that its values are seen as.
use Rattle.std.proofs.Math.Seq.{take-append_seam}
use Rattle.std.proofs.lemmas.List.{take_all, length-map, map-append, append-nil}
use Rattle.std.proofs.Common.{◌≡◌, ◌≤◌, ℕ, List, [], ◌∷◌, ◌++◌, length, take, map, append_assoc, Option, Some, None, option_map, option_copied, is_some, Bor, cond, Bool, true, false, refl, sym, ap, ◌∙◌}
use Rattle.std.proofs.lemmas.Map.Text.{is_eq-slice_cmp}
use Rattle.std.specs.Ordering.{nat_cmp}
use Rattle.std.specs.Cmp.Lexicographic.{slice_cmp}
use Rattle.std.specs.Map.{lookup, keys_of}
use Rattle.std.specs.BTreeMap.{is_at}
use Rattle.std.specs.Rc.{rc_str_bytes}
use Rattle.std.specs.declared.alloc.Global.{Global}
use Rattle.std.specs.declared.rc.RcStr.{RcStr}
use Rattle.cedar_model.specs.Terms.{Text}
use Rattle.cedar_model.specs.Values.{Represented}
use Rattle.cedar_model.specs.Failures.{Failure, answers_value, fails}
use Rattle.cedar_model.specs.Operators.{represented_at, represented_names, shown_names, value_or_failure}
use Rattle.cedar_names.specs.Leaves.{texts_view}
use Rattle.cedar_values.specs.Sound.{Placed, whats_at}

found_or : (b : Bool) (v : Placed) (rest : Option Placed) (more : Option Represented) → option_map (λ (p : Placed). p.what) rest ≡ more → option_map (λ (p : Placed). p.what) (cond b (Some v) rest) ≡ cond b (Some v.what) more
found_or true v rest more e = refl
found_or false v rest more e = e

-- what a look-up by bytes finds
pub whats-lookup : (name : Text) (es : List (RcStr Global × Placed)) → option_map (λ (p : Placed). p.what) (lookup (is_at (λ k. slice_cmp nat_cmp name (rc_str_bytes k))) es) ≡ represented_at name (whats_at es)
unfolding represented_at
whats-lookup name [] = refl
whats-lookup name (e ∷ es) =
    found_or _ e.1 _ _ (whats-lookup name es) ∙ ap (λ b. cond b (Some e.1.what) (represented_at name (whats_at es))) (is_eq-slice_cmp name (rc_str_bytes e.0))

-- the keys of a map
pub names-whats : (es : List (RcStr Global × Placed)) → map (λ k. rc_str_bytes k) (keys_of es) ≡ represented_names (whats_at es)
unfolding represented_names
names-whats [] = refl
names-whats (e ∷ es) = ap (λ l. rc_str_bytes e.0 ∷ l) (names-whats es)

-- the first of a list, where they are as many as are wanted, or all
pub take-all_of : (n : ℕ) (a b : List Text) → length a ≡ n → take n (a ++ b) ≡ a
take-all_of n a b is = rw (← is) (take-append_seam a b)

pub take-no_more : (n : ℕ) (a : List Text) → length a ≤ n → take n a ≡ a
take-no_more n a few = take_all n a few

-- a copy of the next key, put behind the keys so far
pub push_key : (ks it rest : List (RcStr Global)) (k copy : RcStr Global) (names : List Text) → texts_view ks ++ map rc_str_bytes it ≡ names → it ≡ k ∷ rest → rc_str_bytes copy ≡ rc_str_bytes k → texts_view (ks ++ copy ∷ []) ++ map rc_str_bytes rest ≡ names
push_key ks it rest k copy names sofar next same =
    simp (map-append, append_assoc) (rw same (rw next at sofar))

pub first_five : (ks it : List (RcStr Global)) (names : List Text) → texts_view ks ++ map rc_str_bytes it ≡ names → length ks ≡ 5 → texts_view ks ≡ shown_names names
first_five ks it names all is =
    sym (ap shown_names (sym all) ∙ take-all_of 5 (texts_view ks) (map rc_str_bytes it) (rw length-map is))

pub all_shown : (ks it : List (RcStr Global)) (names : List Text) → texts_view ks ++ map rc_str_bytes it ≡ names → it ≡ [] → length ks ≤ 5 → texts_view ks ≡ shown_names names
all_shown ks it names all none few =
    let e : texts_view ks ≡ names = sym (append-nil (texts_view ks)) ∙ rw none at all in
    sym (take-no_more 5 (texts_view ks) (rw length-map few)) ∙ ap shown_names e

-- an attribute that is found
pub found_value : (name : Text) (es : List (RcStr Global × Placed)) (o : Option Placed) (v : Placed) (failure : Failure) → o ≡ lookup (is_at (λ k. slice_cmp nat_cmp name (rc_str_bytes k))) es → o ≡ Some v → value_or_failure (represented_at name (whats_at es)) failure ≡ answers_value v.what
unfolding value_or_failure
found_value name es o v failure is some =
    let e : represented_at name (whats_at es) ≡ Some v.what = sym (whats-lookup name es) ∙ ap (option_map (λ (p : Placed). p.what)) (sym is ∙ some) in
    ap (λ r. value_or_failure r failure) e

-- an attribute that is missing
pub missing_value : (name : Text) (es : List (RcStr Global × Placed)) (o : Option Placed) (failure : Failure) → o ≡ lookup (is_at (λ k. slice_cmp nat_cmp name (rc_str_bytes k))) es → o ≡ None → value_or_failure (represented_at name (whats_at es)) failure ≡ fails failure
unfolding value_or_failure
missing_value name es o failure is none =
    let e : represented_at name (whats_at es) ≡ None = sym (whats-lookup name es) ∙ ap (option_map (λ (p : Placed). p.what)) (sym is ∙ none) in
    ap (λ r. value_or_failure r failure) e

module _ {A B : Type 0} (f : A → B) where
  is_some-map : (o : Option A) → is_some (option_map f o) ≡ is_some o
  is_some-map None = refl
  is_some-map (Some x) = refl

module _ {A B : Type 0} (f : A → B) where
  -- whether a look-up finds something
  pub is_some-found : (r : Option (Bor A)) (o : Option B) → option_map f (option_copied r) ≡ o → is_some r ≡ is_some o
  is_some-found r o is =
      sym (is_some-map (λ (x : Bor A). x.now) r) ∙ sym (is_some-map f (option_copied r)) ∙ ap is_some is
