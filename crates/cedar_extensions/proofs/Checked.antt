-- Duplicate names, as they are collected.
use Rattle.std.proofs.Common.{◌≡◌, refl, sym, ap, subst, ◌∙◌, Bool, true, false, ◌||◌, true≢false, cond, List, [], ◌∷◌}
use Rattle.std.proofs.Common.{◌++◌, map, Option, Some, None, is_some, IfSome, if◌then◌else◌}
use Rattle.std.specs.Borrow.{Bor}
use Rattle.std.specs.Cmp.{IsEquivalence}
use Rattle.std.proofs.lemmas.Cmp.{on_equiv, nat_list_eq_equiv}
use Rattle.std.specs.Iterator.{Yields, YieldsFirstBy}
use Rattle.std.specs.List.{AllByRecursion, find, list_any, IsDistinct}
use Rattle.std.specs.Map.{keys_of}
use Rattle.std.specs.Option.{option_or}
use Rattle.std.proofs.lemmas.List.{map-append, append-nil, append_assoc}
use Rattle.std.proofs.lemmas.Map.Keys.{IsDistinct-head, IsDistinct-tail}
use Rattle.std.proofs.lemmas.List.Folds.{list_any-append}
use Rattle.std.proofs.lemmas.Slice.Eq.{bytes_eq-Decides}
use Rattle.cedar_model.specs.Terms.{Text}
use Rattle.cedar_names.specs.declared.names.Name.{Name}
use Rattle.cedar_names.specs.Names.{name_text}
use Rattle.cedar_model.specs.Outcomes.{text_eq}
use Rattle.cedar_model.specs.Refusals.{first_repeated, first_repeated_after}
use Rattle.cedar_extensions.specs.Iterators.{key_name}
use Rattle.cedar_extensions.specs.Collected.{AreAll, ComesAgain, duplicate}
use Rattle.cedar_extensions.specs.Refused.{repeated_text, IsNameRefused, IsTypeRefused}
use Rattle.cedar_extensions.specs.declared.util.CollectError.{CollectError}
use Rattle.cedar_extensions.specs.declared.util.CollectError.TheVariants.{Duplicate, Memory}
use Rattle.cedar_extensions.specs.declared.errors.ExtensionInitializationError.{ExtensionInitializationError}
use Rattle.cedar_extensions.specs.declared.errors.ExtensionInitializationError.TheVariants as errors

first_repeated-append : (seen xs ys : List Text) → first_repeated_after seen (xs ++ ys)
    ≡ option_or (first_repeated_after seen xs) (first_repeated_after (seen ++ xs) ys)
first_repeated-append seen [] ys = ap (λ (s : List Text). first_repeated_after s ys) (sym (append-nil seen))
first_repeated-append seen (x ∷ xs) ys = by (list_any (text_eq x) seen) (first_repeated-append (seen ++ x ∷ []) xs ys)
  where
    by : (b : Bool) → first_repeated_after (seen ++ x ∷ []) (xs ++ ys)
        ≡ option_or (first_repeated_after (seen ++ x ∷ []) xs) (first_repeated_after ((seen ++ x ∷ []) ++ xs) ys)
        → (if b then Some x else first_repeated_after (seen ++ x ∷ []) (xs ++ ys))
        ≡ option_or (if b then Some x else first_repeated_after (seen ++ x ∷ []) xs)
        (first_repeated_after (seen ++ (x ∷ xs)) ys)
    by true e = refl
    by false e = e ∙ ap (λ (s : List Text). option_or (first_repeated_after (seen ++ x ∷ []) xs)
        (first_repeated_after s ys)) (append_assoc seen (x ∷ []) xs)

-- ---- keys that are equal by their texts

module _ {K : Type 0} (eq : K → K → Bool) (text : K → Text) (same : (a b : K) → eq a b ≡ text_eq (text a) (text b))
    (laws : IsEquivalence eq) where
  any_same : (k : K) (ks : List K) → list_any (text_eq (text k)) (map text ks) ≡ list_any (eq k) ks
  any_same k [] = refl
  any_same k (x ∷ ks) = λ i. sym (same k x) i || any_same k ks i

  any_more : (k x : K) (ks : List K) → list_any (eq k) ks ≡ false → eq k x ≡ false → list_any (eq k) (ks ++ x ∷ [])
      ≡ false
  any_more k x ks h e = list_any-append (eq k) ks (x ∷ []) ∙ (λ i. h i || (e i || false))

  all_more : (x : K) (seen ks : List K) → AllByRecursion (λ k. list_any (eq k) seen ≡ false) ks
      → AllByRecursion (λ k. eq x k ≡ false) ks
      → AllByRecursion (λ k. list_any (eq k) (seen ++ x ∷ []) ≡ false) ks
  all_more x seen [] h d = tt
  all_more x seen (k ∷ ks) h d = (any_more k x seen h.0 (laws.symm k x ∙ d.0), all_more x seen ks h.1 d.1)

  none_after : (seen ks : List K) → AllByRecursion (λ k. list_any (eq k) seen ≡ false) ks → IsDistinct eq ks
      → first_repeated_after (map text seen) (map text ks) ≡ None
  none_after seen [] h d = refl
  none_after seen (k ∷ ks) h d =
      ap (λ (b : Bool). if b then Some (text k) else first_repeated_after (map text seen ++ text k ∷ []) (map text ks))
      (any_same k seen ∙ h.0)
      ∙ ap (λ (s : List Text). first_repeated_after s (map text ks)) (sym (map-append text seen (k ∷ [])))
      ∙ none_after (seen ++ k ∷ []) ks (all_more k seen ks h.1 (IsDistinct-head eq k ks d)) (IsDistinct-tail eq k ks d)

  nothing_seen : (ks : List K) → AllByRecursion (λ k. list_any (eq k) [] ≡ false) ks
  nothing_seen [] = tt
  nothing_seen (k ∷ ks) = (refl, nothing_seen ks)

  -- distinct keys have no text that is a duplicate
  pub none_again : (ks : List K) → IsDistinct eq ks → first_repeated (map text ks) ≡ None
  none_again ks d = none_after [] ks (nothing_seen ks) d

  found_here : (k x y : K) (ks : List K) (b : Bool) → eq k y ≡ b → find (eq k) (y ∷ ks) ≡ Some x
      → (find (eq k) ks ≡ Some x → (list_any (eq k) ks ≡ true) × (text k ≡ text x))
      → (list_any (eq k) (y ∷ ks) ≡ true) × (text k ≡ text x)
  found_here k x y ks true is e later =
      let here : Some y ≡ Some x = sym (ap (λ (b : Bool). cond b (Some y) (find (eq k) ks)) is) ∙ e in
      let one : y ≡ x = cc here in
      let texts : text k ≡ text y = (bytes_eq-Decides (text k) (text y)).0 (sym (same k y) ∙ is) in
      (ap (λ (b : Bool). b || list_any (eq k) ks) is, texts ∙ ap text one)
  found_here k x y ks false is e later =
      let q : (list_any (eq k) ks ≡ true) × (text k ≡ text x) =
      later (sym (ap (λ (b : Bool). cond b (Some y) (find (eq k) ks)) is) ∙ e) in
      (ap (λ (b : Bool). b || list_any (eq k) ks) is ∙ q.0, q.1)

  found_same : (k x : K) (ks : List K) → find (eq k) ks ≡ Some x → (list_any (eq k) ks ≡ true) × (text k ≡ text x)
  found_same k x [] e = absurd (true≢false (sym (ap is_some e)))
  found_same k x (y ∷ ks) e = found_here k x y ks (eq k y) refl e (found_same k x ks)

  -- and the text of one more that is equal to one of them does
  pub one_again : (ks : List K) (k x : K) (more : List Text) → IsDistinct eq ks → find (eq k) ks ≡ Some x
      → first_repeated (map text ks ++ text k ∷ more) ≡ Some (text x)
  one_again ks k x more d e =
      let f : (list_any (eq k) ks ≡ true) × (text k ≡ text x) = found_same k x ks e in
      first_repeated-append [] (map text ks) (text k ∷ more)
      ∙ ap (λ (o : Option Text). option_or o (first_repeated_after (map text ks) (text k ∷ more))) (none_again ks d)
      ∙ ap (λ (b : Bool). if b then Some (text k) else first_repeated_after (map text ks ++ text k ∷ []) more)
      (any_same k ks ∙ f.0)
      ∙ ap Some f.1

-- ---- names that an iterator gives

abbrev pub text_of : Bor Name → Text
text_of k = name_text k.now

-- equality of names: that of their texts
abbrev pub same_texts : Bor Name → Bor Name → Bool
same_texts a b = text_eq (text_of a) (text_of b)

texts_equivalence : IsEquivalence same_texts
texts_equivalence = on_equiv text_of nat_list_eq_equiv

module _ {I : Type 0} (rest : I → List Name) (from : I) where
  abbrev texts_of : List (Bor Name × Unit {0}) → List Text
  texts_of ps = map text_of (keys_of ps)

  texts_given : (ps : List (Bor Name × Unit {0})) (s t : I) → Yields (YieldsFirstBy key_name rest) s ps t
      → map name_text (rest s) ≡ texts_of ps ++ map name_text (rest t)
  texts_given [] s t h = ap (λ (i : I). map name_text (rest i)) h
  texts_given (p ∷ ps) s t h =
      ap (map name_text) h.1 ∙ ap (λ (ts : List Text). name_text p.0.now ∷ ts) (texts_given ps h.0 t h.2)

  pub none_repeated : (es : List (Bor Name × Unit {0})) → AreAll same_texts (YieldsFirstBy key_name rest) from es
      → first_repeated (map name_text (rest from)) ≡ None
  none_repeated es a =
      let all : map name_text (rest from) ≡ texts_of a.pairs = texts_given a.pairs from a.given.1.0 a.given.1.1
      ∙ ap (λ (ns : List Name). texts_of a.pairs ++ map name_text ns) a.given.1.2.0
      ∙ append-nil (texts_of a.pairs) in
      ap first_repeated all ∙ none_again same_texts text_of (λ a b. refl) texts_equivalence (keys_of a.pairs) a.distinct

  pub name_repeated : (k : Bor Name) → ComesAgain same_texts (YieldsFirstBy key_name rest) from k
      → first_repeated (map name_text (rest from)) ≡ Some (name_text k.now)
  name_repeated k a =
      let all : map name_text (rest from) ≡ texts_of a.pairs ++ (name_text a.again.0.now ∷ map name_text (rest a.rest))
      = texts_given a.pairs from a.given.0 a.given.1
      ∙ ap (λ (ns : List Name). texts_of a.pairs ++ map name_text ns) a.given.2 in
      ap first_repeated all ∙ one_again same_texts text_of (λ a b. refl) texts_equivalence (keys_of a.pairs) a.again.0 k
      (map name_text (rest a.rest)) a.distinct a.first

  -- what is said of the name that an error has is said of the name that is a duplicate
  pub so_of_repeated : (P : Option Text → Type 0) (o : Option Text) (e : CollectError (Bor Name))
      → first_repeated (map name_text (rest from)) ≡ o
      → IfSome (duplicate e) (ComesAgain same_texts (YieldsFirstBy key_name rest) from) → (P None → P o)
      → P (repeated_text e) → P o
  so_of_repeated P o (Duplicate k) is h none p = subst P (sym (name_repeated k h) ∙ is) p
  so_of_repeated P o (Memory e) is h none p = none p

pub no_name : (o : Option Text) (r : ExtensionInitializationError) → IsNameRefused None r → IsNameRefused o r
no_name o (errors.FuncMultiplyDefined e) h = absurd (true≢false (sym (ap is_some h)))
no_name o (errors.MultipleConstructorsSameSignature e) h = h
no_name o (errors.StandardTypeOverloaded e) h = h
no_name o (errors.Memory e) h = h

pub no_type : (o : Option Text) (r : ExtensionInitializationError) → IsTypeRefused None r → IsTypeRefused o r
no_type o (errors.FuncMultiplyDefined e) h = h
no_type o (errors.MultipleConstructorsSameSignature e) h = absurd (true≢false (sym (ap is_some h)))
no_type o (errors.StandardTypeOverloaded e) h = h
no_type o (errors.Memory e) h = h
