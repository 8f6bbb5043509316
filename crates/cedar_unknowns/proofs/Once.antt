-- Unknowns that are noted one after another stand once each, and are those that were noted.
use Rattle.std.proofs.Common.{◌≡◌, Bool, true, false, ◌||◌, List, [], ◌∷◌, ◌++◌, refl, sym, ap, ◌∙◌, if◌then◌else◌}
use Rattle.std.proofs.lemmas.Bool.{or_parts, or_from}
use Rattle.std.specs.Bool.{Decides, one_answer}
use Rattle.std.proofs.Math.Bool.{or-false, or_assoc}
use Rattle.cedar_model.specs.Terms.{Term, literal, variable, slot, unknown, if_then_else, both, either, unary, binary, call}
use Rattle.cedar_model.specs.Terms.{get_attribute, has_attribute, extended_has, like, is_of_type, set_of, record_of}
use Rattle.cedar_model.specs.Terms.{Terms, no_terms, one_term, Fields, no_fields, one_field}
use Rattle.cedar_model.specs.Shapes.{has_unknown, have_unknown, have_unknown_at}
use Rattle.cedar_unknowns.specs.Occurrences.{Asked, occurrences, occurrences_each, occurrences_at, stands, asked_eq, is_listed}
use Rattle.cedar_unknowns.specs.Occurrences.{noted, noted_each, each_once, AreDistinct}
use Rattle.cedar_unknowns.proofs.Listed.{asked_eq-decides}

or_same : (p q : Bool) → (q ≡ true → p ≡ true) → p ≡ (p || q)
or_same true q h = refl
or_same false true h = h refl
or_same false false h = refl

asked_eq-sym : (a b : Asked) → asked_eq a b ≡ asked_eq b a
asked_eq-sym a b =
    let back : Decides (asked_eq b a) (a ≡ b) = (λ h. sym ((asked_eq-decides b a).0 h), λ e. (asked_eq-decides b a).1 (sym e)) in
    one_answer (asked_eq a b) (asked_eq b a) (asked_eq-decides a b) back

-- one more behind a list
listed_behind : (c a : Asked) (bs : List Asked) → is_listed c (bs ++ a ∷ []) ≡ (is_listed c bs || asked_eq c a)
unfolding is_listed
listed_behind c a [] = or-false (asked_eq c a)
listed_behind c a (b ∷ bs) =
    ap (λ x. asked_eq c b || x) (listed_behind c a bs) ∙ (sym (or_assoc (asked_eq c b) (is_listed c bs) (asked_eq c a)))

distinct_behind : (a : Asked) (bs : List Asked) → AreDistinct bs → is_listed a bs ≡ false → AreDistinct (bs ++ a ∷ [])
unfolding is_listed
distinct_behind a [] d h = (refl, tt)
distinct_behind a (b ∷ bs) d h =
    let apart : asked_eq b a ≡ false = asked_eq-sym b a ∙ (or_parts (asked_eq a b) (is_listed a bs) h).0 in
    (listed_behind b a bs ∙ or_from (is_listed b bs) (asked_eq b a) d.0 apart, distinct_behind a bs d.1 (or_parts (asked_eq a b) (is_listed a bs) h).1)

noted_if : (a : Asked) (bs : List Asked) (x : Bool) → is_listed a bs ≡ x → AreDistinct bs → AreDistinct (if x then bs else bs ++ a ∷ [])
noted_if a bs true h d = d
noted_if a bs false h d = distinct_behind a bs d h

distinct_from : (all bs : List Asked) → AreDistinct bs → AreDistinct (noted_each all bs)
distinct_from [] bs d = d
distinct_from (a ∷ more) bs d = distinct_from more (noted a bs) (noted_if a bs (is_listed a bs) refl d)

pub distinct : (all : List Asked) → AreDistinct (each_once all)
distinct all = distinct_from all [] tt

listed_same : (c a : Asked) (bs : List Asked) → is_listed a bs ≡ true → asked_eq c a ≡ true → is_listed c bs ≡ true
listed_same c a bs h e = ap (λ (x : Asked). is_listed x bs) ((asked_eq-decides c a).0 e) ∙ h

listed_if : (c a : Asked) (bs : List Asked) (x : Bool) → is_listed a bs ≡ x → is_listed c (if x then bs else bs ++ a ∷ []) ≡ (is_listed c bs || asked_eq c a)
listed_if c a bs true h = or_same (is_listed c bs) (asked_eq c a) (listed_same c a bs h)
listed_if c a bs false h = listed_behind c a bs

listed_from : (c : Asked) (all bs : List Asked) → is_listed c (noted_each all bs) ≡ (is_listed c bs || is_listed c all)
unfolding is_listed
listed_from c [] bs = sym (or-false (is_listed c bs))
listed_from c (a ∷ more) bs =
    listed_from c more (noted a bs) ∙ ap (λ x. x || is_listed c more) (listed_if c a bs (is_listed a bs) refl) ∙ sym (sym (or_assoc (is_listed c bs) (asked_eq c a) (is_listed c more)))

pub exactly : (all : List Asked) (c : Asked) → is_listed c (each_once all) ≡ is_listed c all
unfolding is_listed
exactly all c = listed_from c all []

-- ---- the model's own test

stands-append : (xs ys : List Asked) → stands (xs ++ ys) ≡ (stands xs || stands ys)
stands-append [] ys = refl
stands-append (x ∷ xs) ys = refl

mutual
  pub unknown_stands : (t : Term) → has_unknown t ≡ stands (occurrences t)
  unknown_stands (literal l) = refl
  unknown_stands (variable v) = refl
  unknown_stands (slot s) = refl
  unknown_stands (unknown n t) = refl
  unknown_stands (if_then_else c a b) =
      (λ i. unknown_stands c i || (unknown_stands a i || unknown_stands b i)) ∙ ap (λ x. stands (occurrences c) || x) (sym (stands-append (occurrences a) (occurrences b))) ∙ sym (stands-append (occurrences c) (occurrences a ++ occurrences b))
  unknown_stands (both a b) =
      (λ i. unknown_stands a i || unknown_stands b i) ∙ sym (stands-append (occurrences a) (occurrences b))
  unknown_stands (either a b) =
      (λ i. unknown_stands a i || unknown_stands b i) ∙ sym (stands-append (occurrences a) (occurrences b))
  unknown_stands (unary op a) = unknown_stands a
  unknown_stands (binary op a b) =
      (λ i. unknown_stands a i || unknown_stands b i) ∙ sym (stands-append (occurrences a) (occurrences b))
  unknown_stands (call f ts) = each_stands ts
  unknown_stands (get_attribute e a) = unknown_stands e
  unknown_stands (has_attribute e a) = unknown_stands e
  unknown_stands (extended_has e a others) = unknown_stands e
  unknown_stands (like e p) = unknown_stands e
  unknown_stands (is_of_type e t) = unknown_stands e
  unknown_stands (set_of ts) = each_stands ts
  unknown_stands (record_of fs) = at_stands fs

  each_stands : (ts : Terms) → have_unknown ts ≡ stands (occurrences_each ts)
  each_stands no_terms = refl
  each_stands (one_term t ts) =
      (λ i. unknown_stands t i || each_stands ts i) ∙ sym (stands-append (occurrences t) (occurrences_each ts))

  at_stands : (fs : Fields) → have_unknown_at fs ≡ stands (occurrences_at fs)
  at_stands no_fields = refl
  at_stands (one_field k t fs) =
      (λ i. unknown_stands t i || at_stands fs i) ∙ sym (stands-append (occurrences t) (occurrences_at fs))
