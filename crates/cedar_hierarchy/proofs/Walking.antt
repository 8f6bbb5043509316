-- What a walk over parents has found at each step, and that it ends with all that parents lead to.
use Rattle.std.proofs.Common.{◌≡◌, refl, sym, ap, ◌∙◌, ℕ, ◌+◌, ◌<◌, ◌≤◌, Bool, true, false, ◌||◌, ◌⊎◌, inl, inr, ⊎_elim, List, [], ◌∷◌, ◌++◌, length, take, drop, take-append-drop, if◌then◌else◌, append_assoc, append-nil, arith}
use Rattle.std.proofs.lemmas.List.{take-append-le}
use Rattle.std.proofs.lemmas.Map.Keys.{IsDistinct-push}
use Rattle.std.proofs.lemmas.Map.Made.{length-le_from_is_member}
use Rattle.std.specs.List.{IsDistinct}
use Rattle.std.specs.Set.{is_member}
use Rattle.cedar_model.specs.Terms.{EntityName}
use Rattle.cedar_model.specs.Outcomes.{entity_eq}
use Rattle.cedar_model.specs.Settings.{is_among}
use Rattle.cedar_names.proofs.Among.{is_among-before, is_among-behind, is_among-either, is_among-none, is_among-self, is_among-one, is_among-cons, entity_equivalence}
use Rattle.cedar_hierarchy.specs.Paths.{Parentage, Leads, in_one_step, by_a_parent, AreLedTo, ArePartOf}
use Rattle.cedar_hierarchy.specs.Walks.{marked, marked_each}
use Rattle.cedar_hierarchy.proofs.Passing.{take_whole}

-- ---- what is among names

is_among-member : (n : EntityName) (ns : List EntityName) → is_among n ns ≡ is_member entity_eq ns n
unfolding is_among
is_among-member n [] = refl
is_among-member n (m ∷ ns) = ap (λ (b : Bool). entity_eq n m || b) (is_among-member n ns)

-- ---- one name more, unless it is there

record Grows (m : EntityName) (ns more : List EntityName) : Type 0 where
  has : is_among m more ≡ true
  only : (n : EntityName) → is_among n more ≡ true → (is_among n ns ≡ true) ⊎ (n ≡ m)
  rest : List EntityName
  extends : more ≡ ns ++ rest
  distinct : IsDistinct entity_eq ns → IsDistinct entity_eq more

grows_by : (m : EntityName) (ns : List EntityName) (b : Bool) → is_among m ns ≡ b → Grows m ns (if b then ns else ns ++ m ∷ [])
grows_by m ns true e = record {
  has = e;
  only = λ n h. inl h;
  rest = [];
  extends = sym (append-nil ns);
  distinct = λ d. d;
}
grows_by m ns false e = record {
  has = is_among-behind m ns (m ∷ []) (is_among-self m []);
  only = λ n h. ⊎_elim (λ k. inl k) (λ k. inr (is_among-one n m k)) (is_among-either n ns (m ∷ []) h);
  rest = m ∷ [];
  extends = refl;
  distinct = λ d. IsDistinct-push entity_equivalence ns m d (sym (is_among-member m ns) ∙ e);
}

grows : (m : EntityName) (ns : List EntityName) → Grows m ns (marked m ns)
grows m ns = grows_by m ns (is_among m ns) refl

-- each of some names more
record GrowsByEach (ms ns more : List EntityName) : Type 0 where
  has : (n : EntityName) → is_among n ms ≡ true → is_among n more ≡ true
  only : (n : EntityName) → is_among n more ≡ true → (is_among n ns ≡ true) ⊎ (is_among n ms ≡ true)
  rest : List EntityName
  extends : more ≡ ns ++ rest
  distinct : IsDistinct entity_eq ns → IsDistinct entity_eq more

kept : (n : EntityName) (ns rest more : List EntityName) → more ≡ ns ++ rest → is_among n ns ≡ true → is_among n more ≡ true
kept n ns rest more e h = ap (is_among n) e ∙ is_among-before n ns rest h

then_each : (m : EntityName) (ms ns next more : List EntityName) → Grows m ns next → GrowsByEach ms next more → GrowsByEach (m ∷ ms) ns more
then_each m ms ns next more g r = record {
  has = λ n h. ⊎_elim (λ (e : n ≡ m). kept n next r.rest more r.extends (ap (λ (k : EntityName). is_among k next) e ∙ g.has)) (r.has n) (is_among-cons n m ms h);
  only = λ n h. ⊎_elim (λ k. ⊎_elim (λ l. inl l) (λ (e : n ≡ m). inr (first_or_later n m ms e)) (g.only n k)) (λ k. inr (later n m ms k)) (r.only n h);
  rest = g.rest ++ r.rest;
  extends = r.extends ∙ ap (λ (ks : List EntityName). ks ++ r.rest) g.extends ∙ append_assoc ns g.rest r.rest;
  distinct = λ d. r.distinct (g.distinct d);
} where
  later : (n m : EntityName) (ms : List EntityName) → is_among n ms ≡ true → is_among n (m ∷ ms) ≡ true
  later n m ms k = is_among-behind n (m ∷ []) ms k

  first_or_later : (n m : EntityName) (ms : List EntityName) → n ≡ m → is_among n (m ∷ ms) ≡ true
  first_or_later n m ms e = ap (λ (k : EntityName). is_among k (m ∷ ms)) e ∙ is_among-self m ms

grows_by_each : (ms ns : List EntityName) → GrowsByEach ms ns (marked_each ms ns)
grows_by_each [] ns = record {
  has = λ n h. absurd (is_among-none n h);
  only = λ n h. inl h;
  rest = [];
  extends = sym (append-nil ns);
  distinct = λ d. d;
}
grows_by_each (m ∷ ms) ns = then_each m ms ns (marked m ns) (marked_each ms (marked m ns)) (grows m ns) (grows_by_each ms (marked m ns))

-- ---- paths

-- a path, and a step more
pub step_more : (parents : Parentage) (a m b : EntityName) → Leads parents a m → is_among b (parents m) ≡ true → Leads parents a b
step_more parents a m b (in_one_step _ _ h) k = by_a_parent a m b h (in_one_step m b k)
step_more parents a m b (by_a_parent _ p _ h rest) k = by_a_parent a p b h (step_more parents p m b rest k)

-- where the parents of a are among names, and those of each of the names, all that is led to is
stays_within : (parents : Parentage) (names : List EntityName) (closed : (m n : EntityName) → is_among m names ≡ true → is_among n (parents m) ≡ true → is_among n names ≡ true) (a b : EntityName) → ((n : EntityName) → is_among n (parents a) ≡ true → is_among n names ≡ true) → Leads parents a b → is_among b names ≡ true
stays_within parents names closed a b begun (in_one_step _ _ h) = begun b h
stays_within parents names closed a b begun (by_a_parent _ p _ h rest) =
    stays_within parents names closed p b (λ n k. closed p n (begun p h) k) rest

-- what is led to is a parent of something
pub is_a_parent : (parents : Parentage) (all : List EntityName) → ((m n : EntityName) → is_among n (parents m) ≡ true → is_among n all ≡ true) → (a b : EntityName) → Leads parents a b → is_among b all ≡ true
is_a_parent parents all holds a b (in_one_step _ _ h) = holds a b h
is_a_parent parents all holds a b (by_a_parent _ p _ h rest) = is_a_parent parents all holds p b rest

-- where there are no parents, nothing is led to
pub leads_nowhere : (parents : Parentage) (a b : EntityName) → parents a ≡ [] → Leads parents a b → ⊥
leads_nowhere parents a b none (in_one_step _ _ h) = is_among-none b (sym (ap (is_among b) none) ∙ h)
leads_nowhere parents a b none (by_a_parent _ p _ h rest) = is_among-none p (sym (ap (is_among p) none) ∙ h)

-- ---- the walk

-- a walk from a has found these names, and has looked at the parents of the first i of them
pub record HasFound (parents : Parentage) (a : EntityName) (i : ℕ) (names : List EntityName) : Type 0 where
  pub led : (n : EntityName) → is_among n names ≡ true → Leads parents a n
  pub begun : (n : EntityName) → is_among n (parents a) ≡ true → is_among n names ≡ true
  pub looked_at : (m n : EntityName) → is_among m (take i names) ≡ true → is_among n (parents m) ≡ true → is_among n names ≡ true
  pub distinct : IsDistinct entity_eq names

-- at first it has what is known of what a leads to, and the parents of a
pub found_first : (parents : Parentage) (a : EntityName) (known : List EntityName) → ArePartOf parents a known → IsDistinct entity_eq known → HasFound parents a (length known) (marked_each (parents a) known)
found_first parents a known part apart =
    let more : List EntityName = marked_each (parents a) known in
    let g : GrowsByEach (parents a) known more = grows_by_each (parents a) known in
    let front : take (length known) more ≡ known = ap (take (length known)) g.extends ∙ take-append-le (length known) known g.rest (omega arith) ∙ take_whole known (length known) (omega arith) in
    record {
      led = λ n h. ⊎_elim (λ k. part.led n k) (λ k. in_one_step a n k) (g.only n h);
      begun = g.has;
      looked_at = λ m n h k. kept n known g.rest more g.extends (part.whole m n (sym (ap (is_among m) front) ∙ h) k);
      distinct = g.distinct apart;
    }

-- what stands at a place is among the names
pub stands_among : (x : EntityName) (i : ℕ) (names : List EntityName) → take (i + 1) names ≡ take i names ++ x ∷ [] → is_among x names ≡ true
stands_among x i names at =
    kept x (take (i + 1) names) (drop (i + 1) names) names (sym (take-append-drop (i + 1) names)) (ap (is_among x) at ∙ is_among-behind x (take i names) (x ∷ []) (is_among-self x []))

-- the walk has looked at one more
pub found_next : (parents : Parentage) (a x : EntityName) (i : ℕ) (names : List EntityName) → i < length names → take (i + 1) names ≡ take i names ++ x ∷ [] → HasFound parents a i names → HasFound parents a (i + 1) (marked_each (parents x) names)
found_next parents a x i names within at f =
    let more : List EntityName = marked_each (parents x) names in
    let g : GrowsByEach (parents x) names more = grows_by_each (parents x) names in
    let here : is_among x names ≡ true = stands_among x i names at in
    let to : Leads parents a x = f.led x here in
    let stays : (n : EntityName) → is_among n names ≡ true → is_among n more ≡ true = λ n h. kept n names g.rest more g.extends h in
    let front : take (i + 1) more ≡ take i names ++ x ∷ [] = ap (take (i + 1)) g.extends ∙ take-append-le (i + 1) names g.rest (omega arith) ∙ at in
    record {
      led = λ n h. ⊎_elim (f.led n) (λ k. step_more parents a x n to k) (g.only n h);
      begun = λ n h. stays n (f.begun n h);
      looked_at = λ m n h k. ⊎_elim (λ l. stays n (f.looked_at m n l k)) (λ l. g.has n (ap (λ (y : EntityName). is_among n (parents y)) (sym (is_among-one m x l)) ∙ k)) (is_among-either m (take i names) (x ∷ []) (sym (ap (is_among m) front) ∙ h));
      distinct = g.distinct f.distinct;
    }

-- the walk has looked at all
pub found_all : (parents : Parentage) (a : EntityName) (i : ℕ) (names : List EntityName) → take i names ≡ names → HasFound parents a i names → AreLedTo parents a names
found_all parents a i names ended f = λ n. (f.led n, λ l. stays_within parents names (λ m k h. f.looked_at m k (ap (is_among m) ended ∙ h)) a n f.begun l)

-- no more is found than there are parents
pub found-bounded : (parents : Parentage) (a : EntityName) (i : ℕ) (names all : List EntityName) → ((m n : EntityName) → is_among n (parents m) ≡ true → is_among n all ≡ true) → HasFound parents a i names → length names ≤ length all
found-bounded parents a i names all holds f =
    length-le_from_is_member entity_equivalence names all f.distinct (λ q h. sym (is_among-member q all) ∙ is_a_parent parents all holds a q (f.led q (is_among-member q names ∙ h)))

-- nothing is a part of what a leads to, and so is what a parent leads to
pub none_part : (parents : Parentage) (a : EntityName) (names : List EntityName) → names ≡ [] → ArePartOf parents a names
none_part parents a names none = record {
  led = λ n h. absurd (is_among-none n (sym (ap (is_among n) none) ∙ h));
  whole = λ m n h k. absurd (is_among-none m (sym (ap (is_among m) none) ∙ h));
}

pub part_of_parent : (parents : Parentage) (a p : EntityName) (names : List EntityName) → is_among p (parents a) ≡ true → AreLedTo parents p names → ArePartOf parents a names
part_of_parent parents a p names h led = record {
  led = λ n k. by_a_parent a p n h ((led n).0 k);
  whole = λ m n k l. (led n).1 (step_more parents p m n ((led m).0 k) l);
}
