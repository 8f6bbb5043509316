-- Keys that come again.
use Rattle.std.proofs.Common.{◌≡◌, ℕ, zero, suc, ◌+◌, ◌<◌, Bool, true, false, true≢false, ◌||◌, List, [], ◌∷◌, ◌++◌, map, length, drop, take, get_or, Option, Some, None, Ok, Err, Bor, refl, sym, ap, ◌∙◌, subst, append_assoc, length-append, drop_of_length-le, ◌≤◌, arith}
use Rattle.std.specs.Prelude.{if◌then◌else◌}
use Rattle.std.specs.List.{list_any}
use Rattle.std.proofs.lemmas.List.{map-append, drop_more, take_more, get_or_append_left}
use Rattle.std.proofs.Math.Seq.{get_or-append_seam}
use Rattle.std.proofs.lemmas.Slice.Eq.{bytes_eq-Decides}
use Rattle.std.proofs.lemmas.List.Folds.{Any-from_list_any, list_any-append}
use Rattle.json.specs.Strict.{keys, AreDistinct, HasUniqueKeys, ItemsHaveUniqueKeys, MembersHaveUniqueKeys}
use Rattle.json.specs.Json.{Json, null, boolean, number, string, array, object, Items, no_items, item, Members, no_members, member}
use Rattle.cedar_model.specs.Terms.{Text}
use Rattle.cedar_model.specs.Outcomes.{text_eq}
use Rattle.cedar_model.specs.Refusals.{first_repeated, first_repeated_after}
use Rattle.cedar_policy_json_reader.specs.declared.errors.PolicyJsonError.{PolicyJsonError}
use Rattle.cedar_policy_json_reader.specs.Paths.{Step, at_key, at_index}
use Rattle.cedar_policy_json_reader.specs.Refusals.{Said, under, and_then, IsRefusal}
use Rattle.cedar_policy_json_reader.specs.Repeats.{key_said, keys_said, items_said, members_said}
use Rattle.cedar_policy_json_reader.proofs.Refused.{refused_then, refused_same}

-- ---- walks

-- what is said of the whole is said of the rest, where the first says nothing
pub passed : (all first : Said (Unit {0})) (f : Unit {0} → Said (Unit {0})) → all ≡ and_then f first → first ≡ Ok tt → all ≡ f tt
passed all first f is h = is ∙ ap (and_then f) h

pub stopped : (all first : Said (Unit {0})) (f : Unit {0} → Said (Unit {0})) (e : PolicyJsonError) → all ≡ and_then f first → IsRefusal first e → IsRefusal all e
stopped all first f e is h = refused_same all (and_then f first) e is (refused_then f first e h)

-- ---- the keys of one object

abbrev pub texts : List (Bor (List ℕ)) → List Text
texts ks = map (λ k. k.now) ks

-- no key of distinct ones is among those before it
not_among : (seen : List Text) (t : Text) (ts : List Text) → AreDistinct (seen ++ t ∷ ts) → (b : Bool) → list_any (text_eq t) seen ≡ b → b ≡ false
not_among seen t ts h false e = refl
not_among seen t ts h true e =
    let a = Any-from_list_any (text_eq t) seen e in
    let x = a.1 in
    let same : t ≡ x = (bytes_eq-Decides t x).0 a.4 in
    let here : get_or (seen ++ t ∷ ts) (length seen) x ≡ t = get_or-append_seam seen t ts x in
    let there : get_or (seen ++ t ∷ ts) a.0 x ≡ x = get_or_append_left seen (t ∷ ts) x a.0 a.2 ∙ a.3 in
    absurd (h a.0 (length seen) x a.2 (omega (arith, length-append seen (t ∷ ts))) (there ∙ sym same ∙ sym here))

passes : (seen ts : List Text) → AreDistinct (seen ++ ts) → first_repeated_after seen ts ≡ None
passes seen [] h = refl
passes seen (t ∷ ts) h =
    ap (λ (b : Bool). if b then Some t else first_repeated_after (seen ++ t ∷ []) ts) (not_among seen t ts h (list_any (text_eq t) seen) refl)
    ∙ passes (seen ++ t ∷ []) ts (subst AreDistinct (sym (append_assoc seen (t ∷ []) ts)) h)

pub distinct_unrepeated : (ks : List Text) → AreDistinct ks → key_said (first_repeated ks) ≡ Ok tt
distinct_unrepeated ks h = ap key_said (passes [] ks h)

-- ---- the search for the first

module _ (ks : List (Bor (List ℕ))) (i : ℕ) (d : Bor (List ℕ)) (within : i < length ks) (all : Option Text) where
  next : texts (drop i ks) ≡ (get_or ks i d).now ∷ texts (drop (i + 1) ks)
  next = ap texts (drop_more ks i d within)

  more : texts (take (i + 1) ks) ≡ texts (take i ks) ++ (get_or ks i d).now ∷ []
  more = ap texts (take_more ks i d within) ∙ map-append (λ (k : Bor (List ℕ)). k.now) (take i ks) (get_or ks i d ∷ [])

  at_test : (b : Bool) → list_any (text_eq (get_or ks i d).now) (texts (take i ks)) ≡ b → first_repeated_after (texts (take i ks)) (texts (drop i ks)) ≡ all
      → (if b then Some (get_or ks i d).now else first_repeated_after (texts (take i ks) ++ (get_or ks i d).now ∷ []) (texts (drop (i + 1) ks))) ≡ all
  at_test b e is =
      sym (ap (λ (b : Bool). if b then Some (get_or ks i d).now else first_repeated_after (texts (take i ks) ++ (get_or ks i d).now ∷ []) (texts (drop (i + 1) ks))) e)
      ∙ sym (ap (first_repeated_after (texts (take i ks))) next) ∙ is

  pub one_more_seen : first_repeated_after (texts (take i ks)) (texts (drop i ks)) ≡ all → list_any (text_eq (get_or ks i d).now) (texts (take i ks)) ≡ false
      → first_repeated_after (texts (take (i + 1) ks)) (texts (drop (i + 1) ks)) ≡ all
  one_more_seen is none = ap (λ (s : List Text). first_repeated_after s (texts (drop (i + 1) ks))) more ∙ at_test false none is

  pub found_again : first_repeated_after (texts (take i ks)) (texts (drop i ks)) ≡ all → list_any (text_eq (get_or ks i d).now) (texts (take i ks)) ≡ true
      → Some (get_or ks i d).now ≡ all
  found_again is found = at_test true found is

pub none_again : (ks : List (Bor (List ℕ))) (i : ℕ) (all : Option Text) → length ks ≤ i → first_repeated_after (texts (take i ks)) (texts (drop i ks)) ≡ all → None ≡ all
none_again ks i all past is = ap (λ (ys : List (Bor (List ℕ))). first_repeated_after (texts (take i ks)) (texts ys)) (sym (drop_of_length-le ks past)) ∙ is

-- ---- where no key is refused, none comes twice

abbrev fresh_at : Bool → Text → Option Text → Type 0
fresh_at b t o = (if b then Some t else o) ≡ None → (b ≡ false) × (o ≡ None)

fresh : (b : Bool) (t : Text) (o : Option Text) → fresh_at b t o
fresh true t o h = absurd (cc)
fresh false t o h = (refl, h)

-- each of what comes is none of what was seen
unseen : (seen ts : List Text) → first_repeated_after seen ts ≡ None → (j : ℕ) (d : Text) → j < length ts → list_any (text_eq (get_or ts j d)) seen ≡ false
unseen seen [] h j d within = absurd (omega (arith, within))
unseen seen (t ∷ ts) h zero d within = (fresh (list_any (text_eq t) seen) t (first_repeated_after (seen ++ t ∷ []) ts) h).0
unseen seen (t ∷ ts) h (suc j) d within =
    let later = unseen (seen ++ t ∷ []) ts (fresh (list_any (text_eq t) seen) t (first_repeated_after (seen ++ t ∷ []) ts) h).1 j d (omega (arith, within)) in
    neither (list_any (text_eq (get_or ts j d)) seen) (list_any (text_eq (get_or ts j d)) (t ∷ [])) (sym (list_any-append (text_eq (get_or ts j d)) seen (t ∷ [])) ∙ later)
  where
    neither : (a b : Bool) → (a || b) ≡ false → a ≡ false
    neither true b e = absurd (cc)
    neither false b e = refl

behind : (seen : List Text) (t u : Text) → list_any (text_eq u) (seen ++ t ∷ []) ≡ false → text_eq u t ≡ false
behind seen t u h = last (list_any (text_eq u) seen) (text_eq u t) (sym (list_any-append (text_eq u) seen (t ∷ [])) ∙ h)
  where
    last : (a b : Bool) → (a || (b || false)) ≡ false → b ≡ false
    last true b e = absurd (cc)
    last false true e = absurd (cc)
    last false false e = refl

differs : (seen ts : List Text) → first_repeated_after seen ts ≡ None → AreDistinct ts
differs seen [] h i j d less within = absurd (omega (arith, within))
differs seen (t ∷ ts) h i zero d less within = absurd (omega (arith, less))
differs seen (t ∷ ts) h zero (suc j) d less within =
    let rest = (fresh (list_any (text_eq t) seen) t (first_repeated_after (seen ++ t ∷ []) ts) h).1 in
    let other = behind seen t (get_or ts j d) (unseen (seen ++ t ∷ []) ts rest j d (omega (arith, within))) in
    λ e. let same : text_eq (get_or ts j d) t ≡ true = (bytes_eq-Decides (get_or ts j d) t).1 (sym e) in true≢false (sym same ∙ other)
differs seen (t ∷ ts) h (suc i) (suc j) d less within =
    differs (seen ++ t ∷ []) ts (fresh (list_any (text_eq t) seen) t (first_repeated_after (seen ++ t ∷ []) ts) h).1 i j d (omega (arith, less)) (omega (arith, within))

said_nothing : (o : Option Text) → key_said o ≡ Ok tt → o ≡ None
said_nothing None h = refl
said_nothing (Some k) h = absurd (cc)

first_said : (s : Said (Unit {0})) (f : Unit {0} → Said (Unit {0})) → and_then f s ≡ Ok tt → (s ≡ Ok tt) × (f tt ≡ Ok tt)
first_said (Ok u) f h = (refl, h)
first_said (Err r) f h = absurd (cc)

under_said : (p : Step) (s : Said (Unit {0})) → under p s ≡ Ok tt → s ≡ Ok tt
under_said p (Ok u) h = refl
under_said p (Err r) h = absurd (cc)

mutual
  pub unique_json : (j : Json) → keys_said j ≡ Ok tt → HasUniqueKeys j
  unique_json null h = tt
  unique_json (boolean b) h = tt
  unique_json (number s) h = tt
  unique_json (string s) h = tt
  unique_json (array js) h = unique_items 0 js h
  unique_json (object ms) h =
      let both = first_said (key_said (first_repeated (keys ms))) (λ u. members_said ms) h in
      (differs [] (keys ms) (said_nothing (first_repeated (keys ms)) both.0), unique_members ms both.1)

  unique_items : (n : ℕ) (js : Items) → items_said n js ≡ Ok tt → ItemsHaveUniqueKeys js
  unique_items n no_items h = tt
  unique_items n (item j js) h =
      let both = first_said (under (at_index n) (keys_said j)) (λ u. items_said (n + 1) js) h in
      (unique_json j (under_said (at_index n) (keys_said j) both.0), unique_items (n + 1) js both.1)

  unique_members : (ms : Members) → members_said ms ≡ Ok tt → MembersHaveUniqueKeys ms
  unique_members no_members h = tt
  unique_members (member k j ms) h =
      let both = first_said (under (at_key k) (keys_said j)) (λ u. members_said ms) h in
      (unique_json j (under_said (at_key k) (keys_said j) both.0), unique_members ms both.1)
