-- Tests that are put one behind the other.
use Rattle.std.proofs.Common.{◌≡◌, refl, sym, ap, ◌∙◌, subst, List, [], ◌∷◌, ◌++◌, map, length, append_assoc, append-nil, ℤ, Option, Some, None, option_map, IfSome, Bool, true, false, cond, bytes_eq, codes, Result, Ok, Err, IfOk}
use Rattle.std.proofs.lemmas.List.{length-map}
use Rattle.std.proofs.lemmas.List.Elements.{All-nil, All-cons}
use Rattle.json.specs.Find.{get, get_member, later_or, as_object}
use Rattle.json.specs.Json.{Json, Items, no_items, item, Members, no_members, member, null, boolean, number, string, array, object}
use Rattle.json.specs.Tree.{HasNumbers, ItemsHaveNumbers, MembersHaveNumbers}
use Rattle.cedar_model.specs.Terms.{Text}
use Rattle.cedar_model.specs.Outcomes.{has_text}
use Rattle.cedar_model.specs.Policies.{Decision}
use Rattle.cedar_expectations.specs.Lists.{only_in}
use Rattle.cedar_policy_tests.specs.Said.{SaidTest, with_first, item_tests, tests_in, test_in, test_of, has_test_keys, text_at, decision_in, reason_in, count_in}
use Rattle.cedar_policy_tests.specs.Written.{IsWritable, AreWritable}

-- as many as there are
pub mapped_length : {T U : Type 0} (f : T → U) (xs : List T) → length (map f xs) ≡ length xs
mapped_length f xs = length-map xs f

-- none of them is in no list
pub all_left : (ts : List Text) → only_in ts [] ≡ ts
unfolding has_text
all_left [] = refl
all_left (t ∷ ts) = ap (λ (more : List Text). t ∷ more) (all_left ts)

-- those that are left, behind those that are put
abbrev pub with_all : List SaidTest → Option (List SaidTest) → Option (List SaidTest)
with_all done o = option_map (λ (ts : List SaidTest). done ++ ts) o

pub none_put : (o : Option (List SaidTest)) → with_all [] o ≡ o
none_put None = refl
none_put (Some ts) = refl

put_one : (done : List SaidTest) (t : SaidTest) (o : Option (List SaidTest))
    → with_all (done ++ t ∷ []) o ≡ with_all done (with_first (Some t) o)
put_one done t None = refl
put_one done t (Some ts) = ap Some (append_assoc done (t ∷ []) ts)

-- a test more is put, and is no longer left
pub goes_on : (done after : List SaidTest) (t : SaidTest) (j : Json) (rest js : Items)
    (all : Option (List SaidTest)) → after ≡ done ++ t ∷ [] → Some t ≡ test_in j → js ≡ item j rest
    → with_all done (item_tests js) ≡ all → with_all after (item_tests rest) ≡ all
goes_on done after t j rest js all put said here whole =
    ap (λ (ts : List SaidTest). with_all ts (item_tests rest)) put ∙ put_one done t (item_tests rest)
    ∙ ap (λ o. with_all done (with_first o (item_tests rest))) said
    ∙ ap (λ k. with_all done (item_tests k)) (sym here) ∙ whole

-- what is left begins with none
pub stops : (done : List SaidTest) (j : Json) (rest js : Items) (all : Option (List SaidTest)) → None ≡ test_in j
    → js ≡ item j rest → with_all done (item_tests js) ≡ all → None ≡ all
stops done j rest js all said here whole =
    ap (λ o. with_all done (with_first o (item_tests rest))) said
    ∙ ap (λ k. with_all done (item_tests k)) (sym here) ∙ whole

-- nothing is left
pub all_put : (done : List SaidTest) (js : Items) (all : Option (List SaidTest)) → js ≡ no_items
    → with_all done (item_tests js) ≡ all → Some done ≡ all
all_put done js all none whole =
    ap Some (sym (append-nil done)) ∙ ap (λ k. with_all done (item_tests k)) (sym none) ∙ whole

-- ---- numbers of parts

abbrev AreNumbers : Option Json → Type 0
AreNumbers o = IfSome o HasNumbers

later : (o : Option Json) (p : Option Json) → AreNumbers o → AreNumbers p → AreNumbers (later_or o p)
later None p h i = i
later (Some j) p h i = h

if_named : (b : Bool) (j : Json) → HasNumbers j → AreNumbers (cond b (Some j) None)
if_named true j h = h
if_named false j h = tt

member_numbers : (k : Text) (ms : Members) → MembersHaveNumbers ms → AreNumbers (get_member k ms)
member_numbers k no_members h = tt
member_numbers k (member l j ms) h =
    later (get_member k ms) (cond (bytes_eq l k) (Some j) None) (member_numbers k ms h.1)
    (if_named (bytes_eq l k) j h.0)

part_numbers : (k : Text) (j : Json) → HasNumbers j → AreNumbers (get k j)
part_numbers k null h = tt
part_numbers k (boolean b) h = tt
part_numbers k (number s) h = tt
part_numbers k (string s) h = tt
part_numbers k (array js) h = tt
part_numbers k (object ms) h = member_numbers k ms h

of_parts : (b : Bool) (n : Option Text) (r e : Option Json) (d : Option Decision) (w : Option (Option (List Text)))
    (c : Option (Option ℤ)) → AreNumbers r → AreNumbers e → IfSome (test_of b n r e d w c) IsWritable
of_parts false n r e d w c h i = tt
of_parts true None r e d w c h i = tt
of_parts true (Some n) None e d w c h i = tt
of_parts true (Some n) (Some r) e None w c h i = tt
of_parts true (Some n) (Some r) e (Some d) None c h i = tt
of_parts true (Some n) (Some r) e (Some d) (Some w) None h i = tt
of_parts true (Some n) (Some r) e (Some d) (Some w) (Some c) h i = record { request = h; entities = i }

test_writable : (j : Json) → HasNumbers j → IfSome (test_in j) IsWritable
test_writable j h =
    of_parts (has_test_keys (as_object j)) (text_at (codes "name") j) (get (codes "request") j)
    (get (codes "entities") j) (decision_in j) (reason_in j) (count_in j)
    (part_numbers (codes "request") j h) (part_numbers (codes "entities") j h)

first_writable : (o : Option SaidTest) (p : Option (List SaidTest)) → IfSome o IsWritable → IfSome p AreWritable
    → IfSome (with_first o p) AreWritable
first_writable None p h i = tt
first_writable (Some t) None h i = tt
first_writable (Some t) (Some ts) h i = All-cons IsWritable t ts h i

items_writable : (js : Items) → ItemsHaveNumbers js → IfSome (item_tests js) AreWritable
items_writable no_items h = All-nil IsWritable
items_writable (item j js) h =
    first_writable (test_in j) (item_tests js) (test_writable j h.0) (items_writable js h.1)

array_writable : (j : Json) → HasNumbers j → IfSome (tests_in j) AreWritable
array_writable null h = tt
array_writable (boolean b) h = tt
array_writable (number s) h = tt
array_writable (string s) h = tt
array_writable (array js) h = items_writable js h
array_writable (object ms) h = tt

-- tests that are read of a value can be written where it can
pub read_writable : {T : Type 0} (view : T → List SaidTest) (j : Json) (o : Option T)
    → option_map view o ≡ tests_in j → IfSome o (λ v. HasNumbers j → AreWritable (view v))
read_writable view j None e = tt
read_writable view j (Some v) e = λ h. subst (λ p. IfSome p AreWritable) (sym e) (array_writable j h)

pub read_writable_ok : {T E : Type 0} (view : T → List SaidTest) (j : Json) (r : Result (Option T) E)
    → IfOk r (λ o. option_map view o ≡ tests_in j)
    → IfOk r (λ o. IfSome o (λ v. HasNumbers j → AreWritable (view v)))
read_writable_ok view j (Ok o) e = read_writable view j o e
read_writable_ok view j (Err x) e = tt
