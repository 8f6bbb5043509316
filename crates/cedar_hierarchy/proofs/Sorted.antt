-- Closed entities sorted by whether all their ancestors were handed in, and the store of those of which that holds.
use Rattle.std.proofs.Common.{◌≡◌, refl, sym, ap, ◌∙◌, subst, Bool, true, false, ◌↔◌, ◌||◌, ⊎_elim, List, [], ◌∷◌, ◌++◌, map, Option, None, Some, if◌then◌else◌}
use Rattle.std.proofs.lemmas.Bool.{and_from, and_parts, and_cases, or_right, both_ways, true≢false}
use Rattle.std.proofs.Math.Bool.{or-false, or-true}
use Rattle.std.specs.Prelude.{⊤, IfSome}
use Rattle.std.specs.List.{AllZip, list_any}
use Rattle.cedar_model.specs.Terms.{EntityName}
use Rattle.cedar_model.specs.Outcomes.{entity_eq}
use Rattle.cedar_model.specs.Settings.{is_among}
use Rattle.cedar_model.proofs.Injections.{same_bools}
use Rattle.cedar_names.specs.EqualityLaws.{entity_eq-decides}
use Rattle.cedar_names.specs.declared.names.EntityUID.{EntityUID}
use Rattle.cedar_names.specs.Names.{uid_name}
use Rattle.cedar_names.specs.Order.{is_tied}
use Rattle.cedar_names.proofs.Among.{is_among-none, is_among-self, is_among-behind, is_among-cons}
use Rattle.cedar_layers.specs.declared.policies.entities.Entity.{Entity}
use Rattle.cedar_layers.specs.Stores.{Standing, none_stands, standing_with, standing_with_each, last_of_each_name, entity_name, entity_ancestors}
use Rattle.cedar_layers.proofs.Stores.{list_any-uids}
use Rattle.cedar_hierarchy.specs.Paths.{Parentage, AreLedTo}
use Rattle.cedar_hierarchy.specs.Ancestry.{recorded, parents_of, KeepsParts, AreAlike, IsClosed}
use Rattle.cedar_hierarchy.specs.LeftOut.{IsLeftOut, IsKeptOrLeftOut}
use Rattle.cedar_hierarchy.specs.Sorting.{NameTest, no_name, named_in, named_of, with_name, with_name_of_each, are_all_named, has_all_ancestors, wholes, names_of_others}
use Rattle.cedar_hierarchy.proofs.Walking.{leads_nowhere}
use Rattle.cedar_hierarchy.proofs.Closures.{has_alike, has_ancestors}

-- ---- names one after another

or_moved : (a b c : Bool) → ((a || b) || c) ≡ (a || (b || c))
or_moved true b c = refl
or_moved false b c = refl

named_with : (before : NameTest) (es : List Entity) (n : EntityName) → with_name_of_each before es n ≡ (before n || is_among n (map entity_name es))
unfolding is_among
named_with before [] n = sym (or-false (before n))
named_with before (e ∷ es) n =
    named_with (with_name before (entity_name e)) es n ∙ or_moved (before n) (entity_eq n (entity_name e)) (is_among n (map entity_name es))

pub each_is_named : (es : List Entity) → with_name_of_each no_name es ≡ named_of es
each_is_named es = λ i n. named_with no_name es n i

-- ---- a test on each of some names

-- where all pass, each does
each_passes : (there : NameTest) (ns : List EntityName) → are_all_named there ns ≡ true → (n : EntityName) → is_among n ns ≡ true → there n ≡ true
each_passes there [] h n k = absurd (is_among-none n k)
each_passes there (m ∷ ns) h n k =
    let both : (there m ≡ true) × (are_all_named there ns ≡ true) = and_parts _ _ h in
    ⊎_elim (λ (e : n ≡ m). ap there e ∙ both.0) (λ l. each_passes there ns both.1 n l) (is_among-cons n m ns k)

-- where not all pass, one doesn't
record OneFails (there : NameTest) (ns : List EntityName) : Type 0 where
  name : EntityName
  among : is_among name ns ≡ true
  fails : there name ≡ false

first_fails : (there : NameTest) (m : EntityName) (ns : List EntityName) → there m ≡ false → OneFails there (m ∷ ns)
first_fails there m ns h = record { name = m; among = is_among-self m ns; fails = h }

later_fails : (there : NameTest) (m : EntityName) (ns : List EntityName) → OneFails there ns → OneFails there (m ∷ ns)
later_fails there m ns f = record { name = f.name; among = is_among-behind f.name (m ∷ []) ns f.among; fails = f.fails }

one_fails : (there : NameTest) (ns : List EntityName) → are_all_named there ns ≡ false → OneFails there ns
one_fails there [] h = absurd (true≢false h)
one_fails there (m ∷ ns) h = ⊎_elim (λ k. first_fails there m ns k) (λ k. later_fails there m ns (one_fails there ns k)) (and_cases _ _ h)

-- a subset of uids
each_within : (us vs : List EntityUID) → ((q : EntityUID) → list_any (is_tied q) us ≡ true → list_any (is_tied q) vs ≡ true) → are_all_named (named_in vs) (map uid_name us) ≡ true
each_within [] vs within = refl
each_within (u ∷ us) vs within =
    let first : list_any (is_tied u) (u ∷ us) ≡ true = list_any-uids u (u ∷ us) ∙ is_among-self (uid_name u) (map uid_name us) in
    and_from _ _ (sym (list_any-uids u vs) ∙ within u first) (each_within us vs (λ q h. within q (or_right (is_tied q u) _ h)))

pub subset_named : (us vs : List EntityUID) (b : Bool) → ((b ≡ true) ↔ ((q : EntityUID) → list_any (is_tied q) us ≡ true → list_any (is_tied q) vs ≡ true)) → b ≡ are_all_named (named_in vs) (map uid_name us)
subset_named us vs b tested =
    let passes : are_all_named (named_in vs) (map uid_name us) ≡ true → (q : EntityUID) → list_any (is_tied q) us ≡ true → list_any (is_tied q) vs ≡ true = λ h q k. list_any-uids q vs ∙ each_passes (named_in vs) (map uid_name us) h (uid_name q) (sym (list_any-uids q us) ∙ k) in
    same_bools b _ (λ h. each_within us vs (tested.0 h)) (λ h. tested.1 (passes h))

-- ---- one entity behind others

last-behind : (f : Standing) (es : List Entity) (e : Entity) → standing_with_each f (es ++ e ∷ []) ≡ standing_with (standing_with_each f es) e
last-behind f [] e = refl
last-behind f (d ∷ es) e = last-behind (standing_with f d) es e

module _ (ds : List Entity) where
  -- ---- what is known of each closed entity

  record IsJudged (e : Entity) : Type 0 where
    kept : has_all_ancestors (named_of ds) e ≡ true → ¬ IsLeftOut ds (entity_name e)
    left : has_all_ancestors (named_of ds) e ≡ false → IsLeftOut ds (entity_name e)

  closed_led : (d e : Entity) → IsClosed (parents_of ds) d e → AreLedTo (parents_of ds) (entity_name e) (map uid_name (entity_ancestors e))
  closed_led d e closed =
      let led : EntityName → Type 0 = λ n. AreLedTo (parents_of ds) n (map uid_name (entity_ancestors e)) in
      subst led (sym (ap uid_name closed.parts.uid)) closed.ancestors

  -- where all its ancestors are there it is not left out, and where one isn't it is
  judged : (d e : Entity) → IsClosed (parents_of ds) d e → IsJudged e
  judged d e closed =
      let ancestors : List EntityName = map uid_name (entity_ancestors e) in
      let led : AreLedTo (parents_of ds) (entity_name e) ancestors = closed_led d e closed in
      record {
        kept = λ h (left : IsLeftOut ds (entity_name e)). both_ways (is_among left.missing (map entity_name ds)) left.not_there (each_passes (named_of ds) ancestors h left.missing ((led left.missing).1 left.led_to));
        left = λ h. lacks e led (one_fails (named_of ds) ancestors h);
      }
    where
      lacks : (e : Entity) → AreLedTo (parents_of ds) (entity_name e) (map uid_name (entity_ancestors e)) → OneFails (named_of ds) (map uid_name (entity_ancestors e)) → IsLeftOut ds (entity_name e)
      lacks e led f = record { missing = f.name; led_to = (led f.name).0 f.among; not_there = f.fails }

  abbrev AreJudged : List Entity → Type 0
  AreJudged [] = ⊤
  AreJudged (e ∷ es) = IsJudged e × AreJudged es

  all_judged : (os es : List Entity) → AllZip (IsClosed (parents_of ds)) os es → AreJudged es
  all_judged [] [] h = tt
  all_judged [] (e ∷ es) h = absurd h
  all_judged (o ∷ os) [] h = absurd h
  all_judged (o ∷ os) (e ∷ es) h = (judged o e h.0, all_judged os es h.1)

  -- ---- the entities as they are sorted one after another

  -- of a name: the last entity that was sorted, the last that was kept, and whether it was left out
  abbrev IsSorted : EntityName → Option Entity → Option Entity → Bool → Type 0
  IsSorted n None None b = b ≡ false
  IsSorted n None (Some f) b = ⊥
  IsSorted n (Some e) None b = IsLeftOut ds n × (b ≡ true)
  IsSorted n (Some e) (Some f) b = (e ≡ f) × (¬ IsLeftOut ds n) × (b ≡ false)

  keeps : (n : EntityName) (e : Entity) (o p : Option Entity) (b : Bool) → ¬ IsLeftOut ds n → IsSorted n o p b → IsSorted n (Some e) (Some e) b
  keeps n e None None b free h = (refl, free, h)
  keeps n e None (Some f) b free h = absurd h
  keeps n e (Some d) None b free h = absurd (free h.0)
  keeps n e (Some d) (Some f) b free h = (refl, free, h.2)

  leaves : (n : EntityName) (e : Entity) (o p : Option Entity) (b : Bool) → IsLeftOut ds n → IsSorted n o p b → IsSorted n (Some e) p (b || true)
  leaves n e None None b left h = (left, or-true b)
  leaves n e None (Some f) b left h = absurd h
  leaves n e (Some d) None b left h = (left, or-true b)
  leaves n e (Some d) (Some f) b left h = absurd (h.1 left)

  -- one entity more, of this name or another
  kept_next : (n : EntityName) (e : Entity) (o p : Option Entity) (b same : Bool) → (same ≡ true → ¬ IsLeftOut ds n) → IsSorted n o p b → IsSorted n (if same then Some e else o) (if same then Some e else p) b
  kept_next n e o p b true free h = keeps n e o p b (free refl) h
  kept_next n e o p b false free h = h

  left_next : (n : EntityName) (e : Entity) (o p : Option Entity) (b same : Bool) → (same ≡ true → IsLeftOut ds n) → IsSorted n o p b → IsSorted n (if same then Some e else o) p (b || same)
  left_next n e o p b true left h = leaves n e o p b (left refl) h
  left_next n e o p b false left h =
      let claim : Bool → Type 0 = IsSorted n o p in
      subst claim (sym (or-false b)) h

  -- of each name, behind other entities
  abbrev AreSorted : Standing → List Entity → NameTest → Type 0
  AreSorted f whole left = (n : EntityName) → IsSorted n (f n) (last_of_each_name whole n) (left n)

  module _ (f : Standing) (whole : List Entity) (left : NameTest) (e : Entity) (before : AreSorted f whole left) where
    sorted_kept : ¬ IsLeftOut ds (entity_name e) → AreSorted (standing_with f e) (whole ++ e ∷ []) left
    sorted_kept free n =
        let of_this : entity_eq n (entity_name e) ≡ true → ¬ IsLeftOut ds n = λ h (l : IsLeftOut ds n). free (subst (IsLeftOut ds) ((entity_eq-decides n (entity_name e)).0 h) l) in
        let claim : Standing → Type 0 = λ g. IsSorted n (standing_with f e n) (g n) (left n) in
        subst claim (sym (last-behind none_stands whole e)) (kept_next n e (f n) (last_of_each_name whole n) (left n) (entity_eq n (entity_name e)) of_this (before n))

    sorted_left : IsLeftOut ds (entity_name e) → AreSorted (standing_with f e) whole (with_name left (entity_name e))
    sorted_left out n =
        let of_this : entity_eq n (entity_name e) ≡ true → IsLeftOut ds n = λ h. subst (IsLeftOut ds) (sym ((entity_eq-decides n (entity_name e)).0 h)) out in
        left_next n e (f n) (last_of_each_name whole n) (left n) (entity_eq n (entity_name e)) of_this (before n)

  -- the others behind it
  abbrev SortsTheRest : Standing → List Entity → Type 0
  SortsTheRest f es =
      (whole : List Entity) (left : NameTest) → AreSorted f whole left → AreSorted (standing_with_each f es) (wholes (named_of ds) whole es) (names_of_others (named_of ds) left es)

  sorted_next : (f : Standing) (e : Entity) (es : List Entity) → IsJudged e → SortsTheRest (standing_with f e) es → (whole : List Entity) (left : NameTest) → AreSorted f whole left → (b : Bool) → has_all_ancestors (named_of ds) e ≡ b → AreSorted (standing_with_each (standing_with f e) es) (wholes (named_of ds) (if b then whole ++ e ∷ [] else whole) es) (names_of_others (named_of ds) (if b then left else with_name left (entity_name e)) es)
  sorted_next f e es j rest whole left before true h = rest (whole ++ e ∷ []) left (sorted_kept f whole left e before (j.kept h))
  sorted_next f e es j rest whole left before false h = rest whole (with_name left (entity_name e)) (sorted_left f whole left e before (j.left h))

  all_sorted : (f : Standing) (es : List Entity) → AreJudged es → SortsTheRest f es
  all_sorted f [] j whole left before = before
  all_sorted f (e ∷ es) j whole left before =
      sorted_next f e es j.0 (all_sorted (standing_with f e) es j.1) whole left before (has_all_ancestors (named_of ds) e) refl

  -- ---- what was handed in, closed, and then sorted

  kept_or_left : (n : EntityName) (o e p : Option Entity) (b : Bool) → AreAlike o e → IsSorted n e p b → IsKeptOrLeftOut ds n o p
  kept_or_left n None None None b alike h = tt
  kept_or_left n None None (Some f) b alike h = absurd h
  kept_or_left n None (Some e) p b alike h = absurd alike
  kept_or_left n (Some d) None p b alike h = absurd alike
  kept_or_left n (Some d) (Some e) None b alike h = h.0
  kept_or_left n (Some d) (Some e) (Some f) b alike h = (subst (KeepsParts d) h.0 alike, h.1)

  records_all : (n : EntityName) (e p : Option Entity) (b : Bool) → AreLedTo (parents_of ds) n (recorded e) → IsSorted n e p b → IfSome p (λ f. AreLedTo (parents_of ds) n (map uid_name (entity_ancestors f)))
  records_all n e None b led h = tt
  records_all n None (Some f) b led h = absurd h
  records_all n (Some e) (Some f) b led h =
      let claim : Entity → Type 0 = λ g. AreLedTo (parents_of ds) n (map uid_name (entity_ancestors g)) in
      subst claim h.0 led

  leads_on : (n : EntityName) → parents_of ds n ≡ [] → ¬ IsLeftOut ds n
  leads_on n none = λ (l : IsLeftOut ds n). leads_nowhere (parents_of ds) n l.missing none l.led_to

  left_exactly : (n : EntityName) (o e p : Option Entity) (b : Bool) → parents_of ds n ≡ recorded o → AreAlike o e → IsSorted n e p b → (b ≡ true) ↔ IsLeftOut ds n
  left_exactly n None None None b own alike h = (λ k. absurd (both_ways b h k), λ l. absurd (leads_on n own l))
  left_exactly n None None (Some f) b own alike h = absurd h
  left_exactly n None (Some e) p b own alike h = absurd alike
  left_exactly n (Some d) None p b own alike h = absurd alike
  left_exactly n (Some d) (Some e) None b own alike h = (λ k. h.0, λ l. h.1)
  left_exactly n (Some d) (Some e) (Some f) b own alike h = (λ k. absurd (both_ways b h.2 k), λ l. absurd (h.1 l))

-- the store, and what it leaves out, by the parents that a map lists and the names that a set has
module _ (listed : Parentage) (uids : NameTest) (ds es : List Entity) (stored : Standing) (left : NameTest) (recorded_so : listed ≡ parents_of ds) (named_so : uids ≡ named_of ds) (closed : AllZip (IsClosed listed) ds es) (stands : stored ≡ last_of_each_name (wholes uids [] es)) (others : left ≡ names_of_others uids no_name es) where
  closed_so : AllZip (IsClosed (parents_of ds)) ds es
  closed_so =
      let each : Parentage → Type 0 = λ parents. AllZip (IsClosed parents) ds es in
      subst each recorded_so closed

  sorted_at : (n : EntityName) → IsSorted ds n (last_of_each_name es n) (stored n) (left n)
  sorted_at n =
      let sorted : IsSorted ds n (last_of_each_name es n) (last_of_each_name (wholes (named_of ds) [] es) n) (names_of_others (named_of ds) no_name es n) = all_sorted ds none_stands es (all_judged ds ds es closed_so) [] no_name (λ m. refl) n in
      let by_test : NameTest → Type 0 = λ t. IsSorted ds n (last_of_each_name es n) (last_of_each_name (wholes t [] es) n) (names_of_others t no_name es n) in
      let in_store : Standing → Type 0 = λ f. IsSorted ds n (last_of_each_name es n) (f n) (names_of_others uids no_name es n) in
      let left_so : NameTest → Type 0 = λ t. IsSorted ds n (last_of_each_name es n) (stored n) (t n) in
      subst left_so (sym others) (subst in_store (sym stands) (subst by_test (sym named_so) sorted))

  alike_at : (n : EntityName) → AreAlike (last_of_each_name ds n) (last_of_each_name es n)
  alike_at n = has_alike (parents_of ds) ds es (last_of_each_name es) refl closed_so refl n

  pub is_kept_or_left : (n : EntityName) → IsKeptOrLeftOut ds n (last_of_each_name ds n) (stored n)
  is_kept_or_left n =
      kept_or_left ds n (last_of_each_name ds n) (last_of_each_name es n) (stored n) (left n) (alike_at n) (sorted_at n)

  pub records_each : (n : EntityName) → IfSome (stored n) (λ f. AreLedTo (parents_of ds) n (map uid_name (entity_ancestors f)))
  records_each n =
      records_all ds n (last_of_each_name es n) (stored n) (left n) (has_ancestors (parents_of ds) ds es (last_of_each_name es) refl closed_so refl n) (sorted_at n)

  pub is_left_exactly : (n : EntityName) → (left n ≡ true) ↔ IsLeftOut ds n
  is_left_exactly n =
      left_exactly ds n (last_of_each_name ds n) (last_of_each_name es n) (stored n) (left n) refl (alike_at n) (sorted_at n)
