-- Pairs that are put into a map one by one.
use Rattle.std.proofs.Common.{◌≡◌, refl, sym, ap, subst, ◌∙◌, Bool, true, false, true≢false, cond, List, [], ◌∷◌, ◌++◌}
use Rattle.std.proofs.Common.{Option, Some, None, is_some, MatchOption}
use Rattle.std.proofs.lemmas.List.{map-append}
use Rattle.std.proofs.lemmas.List.Elements.{All-from_recursion, recursion_from_All}
use Rattle.std.proofs.lemmas.List.Sorted.{All-permutation, IsPermutation-map, IsPermutation-push_more}
use Rattle.std.proofs.lemmas.List.Sorted.{IsPermutation-refl, list_any-IsPermutation}
use Rattle.std.proofs.lemmas.Map.Made.{is_some-lookup}
use Rattle.std.proofs.lemmas.Map.Keys.{IsDistinct-push, IsDistinct-head, IsDistinct-tail}
use Rattle.std.specs.Cmp.{IsEquivalence}
use Rattle.std.specs.Iterator.{Yields}
use Rattle.std.specs.List.{AllByRecursion, find, list_any, IsDistinct}
use Rattle.std.specs.List.Sorted.{IsPermutation}
use Rattle.std.specs.Map.{keys_of, lookup, lookup_key, set_value}
use Rattle.cedar_extensions.specs.Collected.{AreAll, ComesAgain}

-- ---- which key is found

module _ {K : Type 0} {eq : K → K → Bool} (laws : IsEquivalence eq) (q : K) where
  -- the keys that are equal to q are found in this list
  abbrev FoundIn : List K → K → Type 0
  FoundIn ks x = eq q x ≡ true → find (eq q) ks ≡ Some x

  found_later : (y : K) (ys xs : List K) → AllByRecursion (λ x. eq y x ≡ false) xs → AllByRecursion (FoundIn ys) xs
      → AllByRecursion (FoundIn (y ∷ ys)) xs
  found_later y ys [] h k = tt
  found_later y ys (x ∷ xs) h k = (by (eq q y) refl, found_later y ys xs h.1 k.1)
    where
      by : (b : Bool) → eq q y ≡ b → FoundIn (y ∷ ys) x
      by true e is = absurd (true≢false (sym is ∙ laws.congr q y x e ∙ h.0))
      by false e is = ap (λ (b : Bool). cond b (Some y) (find (eq q) ys)) e ∙ k.0 is

  all_found : (ks : List K) → IsDistinct eq ks → AllByRecursion (FoundIn ks) ks
  all_found [] h = tt
  all_found (y ∷ ys) h = (
    λ is. ap (λ (b : Bool). cond b (Some y) (find (eq q) ys)) is,
    found_later y ys ys (IsDistinct-head eq y ys h)
        (all_found ys (IsDistinct-tail eq y ys h)),
  )

  found_at : (ks es : List K) (x k : K) (b : Bool) → eq q x ≡ b → FoundIn ks x
      → (find (eq q) es ≡ Some k → find (eq q) ks ≡ Some k)
      → find (eq q) (x ∷ es) ≡ Some k → find (eq q) ks ≡ Some k
  found_at ks es x k true is here later e = here is ∙ sym (ap (λ (b : Bool). cond b (Some x) (find (eq q) es)) is) ∙ e
  found_at ks es x k false is here later e = later (sym (ap (λ (b : Bool). cond b (Some x) (find (eq q) es)) is) ∙ e)

  found_among : (ks es : List K) (k : K) → AllByRecursion (FoundIn ks) es → find (eq q) es ≡ Some k → find (eq q) ks
      ≡ Some k
  found_among ks [] k h e = absurd (true≢false (sym (ap is_some e)))
  found_among ks (x ∷ es) k h e = found_at ks es x k (eq q x) refl h.0 (found_among ks es k h.1) e

  -- what is found in a list is found in another order of it, where no two are equal
  pub find-IsPermutation : (ks es : List K) (k : K) → IsPermutation ks es → IsDistinct eq ks → find (eq q) es ≡ Some k
      → find (eq q) ks ≡ Some k
  find-IsPermutation ks es k p d e =
      found_among ks es k (recursion_from_All (FoundIn ks) es
      (All-permutation (FoundIn ks) ks es p (All-from_recursion (FoundIn ks) ks (all_found ks d)))) e

find_of_lookup : {K V : Type 0} (test : K → Bool) (es : List (K × V)) → lookup_key test es ≡ find test (keys_of es)
find_of_lookup test [] = refl
find_of_lookup test (e ∷ es) = ap (λ (o : Option _). cond (test e.0) (Some e.0) o) (find_of_lookup test es)

-- ---- the loop

module _ {K V I : Type 0} (eq : K → K → Bool) (steps : I → Option (K × V) → I → Type 0) (from : I) where
  -- the pairs so far have distinct keys, and the map has them
  pub record Collects (at : I) (entries : List (K × V)) : Type 0 where
    pub pairs : List (K × V)
    pub given : Yields steps from pairs at
    pub distinct : IsDistinct eq (keys_of pairs)
    pub kept : IsPermutation pairs entries

  pub collects_none : (es : List (K × V)) → es ≡ [] → Collects from es
  unfolding IsDistinct
  collects_none es e =
      record {
        pairs = [];
        given = refl;
        distinct = tt;
        kept =
            subst (λ xs. IsPermutation [] xs) (sym e) (IsPermutation-refl []);
      }

  pub collects_all : (t u : I) (es : List (K × V)) → Collects t es → steps t None u → AreAll eq steps from es
  collects_all t u es c s =
      record { pairs = c.pairs; given = (u, (t, c.given, s)); distinct = c.distinct; kept = c.kept }

module _ {K V I : Type 0} {eq : K → K → Bool} (laws : IsEquivalence eq) (steps : I → Option (K × V) → I → Type 0)
    (from : I) where
  one_more : (ps : List (K × V)) (x : K × V) (s t u : I) → Yields steps s ps t → steps t (Some x) u
      → Yields steps s (ps ++ x ∷ []) u
  one_more [] x s t u h k = (u, subst (λ r. steps r (Some x) u) (sym h) k, refl)
  one_more (p ∷ ps) x s t u h k = (h.0, h.1, one_more ps x h.0 t u h.2 k)

  keys_kept : (ps es : List (K × V)) → IsPermutation ps es → IsPermutation (keys_of ps) (keys_of es)
  keys_kept ps es h = IsPermutation-map (λ e. e.0) ps es h

  pub collects_more : (t u : I) (es new : List (K × V)) (k : K) (v : V) → Collects eq steps from t es
      → steps t (Some (k, v)) u
      → lookup (eq k) es ≡ None → IsPermutation ((k, v) ∷ es) new → Collects eq steps from u new
  collects_more t u es new k v c s none put =
      let fresh : list_any (eq k) (keys_of c.pairs) ≡ false =
      list_any-IsPermutation (eq k) (keys_of c.pairs) (keys_of es) (keys_kept c.pairs es c.kept)
      ∙ sym (is_some-lookup (eq k) es) ∙ ap is_some none in
      record {
        pairs = c.pairs ++ (k, v) ∷ [];
        given = one_more c.pairs (k, v) from t u c.given s;
        distinct = subst (IsDistinct eq) (sym (map-append (λ (e : K × V). e.0) c.pairs ((k, v) ∷ [])))
            (IsDistinct-push laws (keys_of c.pairs) k c.distinct fresh);
        kept = IsPermutation-push_more c.pairs es new (k, v) c.kept put;
      }

  put_fresh : (old : Option V) (es new : List (K × V)) (k : K) (v : V) → old ≡ None
      → MatchOption old (IsPermutation ((k, v) ∷ es) new) (λ _. new ≡ set_value (eq k) es v)
      → IsPermutation ((k, v) ∷ es) new
  put_fresh None es new k v e h = h
  put_fresh (Some w) es new k v e h = absurd (true≢false (ap is_some e))

  -- `mid` is the map as the look-up left it, and `old` what the new pair took the place of
  pub collects_put : (t u : I) (es mid new : List (K × V)) (k : K) (v : V) (old : Option V)
      → Collects eq steps from t es
      → steps t (Some (k, v)) u → None ≡ lookup (eq k) es → mid ≡ es → old ≡ lookup (eq k) mid
      → MatchOption old (IsPermutation ((k, v) ∷ mid) new) (λ _. new ≡ set_value (eq k) mid v)
      → Collects eq steps from u new
  collects_put t u es mid new k v old c s none same was put =
      let fresh : old ≡ None = was ∙ ap (lookup (eq k)) same ∙ sym none in
      collects_more t u es new k v c s (sym none)
      (subst (λ xs. IsPermutation ((k, v) ∷ xs) new) same (put_fresh old mid new k v fresh put))

  pub comes_again : (t u : I) (es : List (K × V)) (k : K) (v : V) (first : K) → Collects eq steps from t es
      → steps t (Some (k, v)) u
      → lookup_key (eq k) es ≡ Some first → ComesAgain eq steps from first
  comes_again t u es k v first c s e =
      record {
        pairs = c.pairs;
        again = (k, v);
        rest = u;
        given = (t, c.given, s);
        distinct = c.distinct;
        first = find-IsPermutation laws k (keys_of c.pairs) (keys_of es) first (keys_kept c.pairs es c.kept) c.distinct
            (sym (find_of_lookup (eq k) es) ∙ e);
      }
