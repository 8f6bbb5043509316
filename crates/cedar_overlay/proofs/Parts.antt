-- Parts of an entity that are copied or put in, name by name, in the order of their names.
use Rattle.std.proofs.Common.{◌≡◌, Bool, true, false, cond, List, [], ◌∷◌, ◌++◌, map, Option, Some, refl, sym, ap, ◌∙◌, subst, append_assoc}
use Rattle.std.proofs.lemmas.List.{map-append}
use Rattle.std.proofs.lemmas.Cmp.{nat_list_cmp_total}
use Rattle.std.proofs.lemmas.Map.Text.{is_eq-slice_cmp}
use Rattle.std.specs.Cmp.Lexicographic.{slice_cmp}
use Rattle.std.specs.List.{AllByRecursion, AllZip}
use Rattle.std.specs.List.Sorted.{IsStrictlySortedBy}
use Rattle.std.specs.Map.{keys_of}
use Rattle.std.specs.Option.{is_some}
use Rattle.std.specs.Ordering.{ordering_reverse, nat_cmp, is_eq, match_ordering}
use Rattle.std.specs.declared.cmp.Ordering.{Ordering}
use Rattle.std.specs.declared.cmp.Ordering.TheVariants.{Less, Equal, Greater}
use Rattle.std.specs.BTreeMap.{insert_entry}
use Rattle.std.specs.Rc.{rc_str_bytes}
use Rattle.std.specs.declared.alloc.Global.{Global}
use Rattle.std.specs.declared.rc.RcStr.{RcStr}
use Rattle.cedar_values.specs.declared.partial_value.PartialValue as Partial
use Rattle.cedar_values.specs.Residuals.{partial_view}
use Rattle.cedar_values.specs.Sound.{Placed}
use Rattle.cedar_values.proofs.Written.{key_cmp}
use Rattle.cedar_layers.specs.Parts.{parts_view, values_as_parts}
use Rattle.cedar_model.specs.Terms.{Text}
use Rattle.cedar_model.specs.Failures.{PartialValue}
use Rattle.cedar_model.specs.Outcomes.{text_eq}
use Rattle.cedar_model.specs.Settings.{part_at, names_of}
use Rattle.cedar_names.specs.EqualityLaws.{text_eq-decides}
use Rattle.cedar_names.specs.declared.names.EntityUID.{EntityUID}
use Rattle.cedar_names.specs.Names.{uid_name}
use Rattle.cedar_overlay.specs.Overlaid.{Parts, put_at}
use Rattle.cedar_overlay.specs.Putting.{put_found}

abbrev pub Part : Type 0
Part = Text × PartialValue

abbrev pub AreInOrder : List Text → Type 0
AreInOrder ks = IsStrictlySortedBy (slice_cmp nat_cmp) ks

below_middle : (k : Text) (ks : List Text) (l : Text) (more : List Text) → AllByRecursion (λ j. slice_cmp nat_cmp k j ≡ Less) (ks ++ l ∷ more)
    → slice_cmp nat_cmp k l ≡ Less
below_middle k [] l more h = h.0
below_middle k (j ∷ ks) l more h = below_middle k ks l more h.1

above : (j k : Text) → slice_cmp nat_cmp j k ≡ Less → slice_cmp nat_cmp k j ≡ Greater
above j k h = nat_list_cmp_total.antisymm k j ∙ ap ordering_reverse h

-- a part under a name that is above those before it goes last
put_last : (ps : Parts) (k : Text) (v : PartialValue) (more : List Text) → AreInOrder (names_of ps ++ k ∷ more)
    → put_at k v ps ≡ ps ++ (k, v) ∷ []
unfolding IsStrictlySortedBy
put_last [] k v more h = refl
put_last (q ∷ ps) k v more h =
    let greater : slice_cmp nat_cmp k q.0 ≡ Greater = above q.0 k (below_middle q.0 (names_of ps) k more h.0) in
    rw greater (ap (λ (qs : Parts). q ∷ qs) (put_last ps k v more h.1))

-- and is found under that name
part_middle : (ps : Parts) (k : Text) (v : PartialValue) (more : Parts) → AreInOrder (names_of ps ++ k ∷ names_of more)
    → part_at k (ps ++ (k, v) ∷ more) ≡ Some v
unfolding IsStrictlySortedBy part_at
part_middle [] k v more h = ap (λ (b : Bool). cond b (Some v) (part_at k more)) ((text_eq-decides k k).1 refl)
part_middle (q ∷ ps) k v more h =
    let other : text_eq k q.0 ≡ false =
    sym (is_eq-slice_cmp k q.0) ∙ ap is_eq (above q.0 k (below_middle q.0 (names_of ps) k (names_of more) h.0)) in
    ap (λ (b : Bool). cond b (Some q.1) (part_at k (ps ++ (k, v) ∷ more))) other ∙ part_middle ps k v more h.1

names_middle : (ps : Parts) (q : Part) (more : Parts) → names_of (ps ++ q ∷ more) ≡ names_of ps ++ q.0 ∷ names_of more
names_middle ps q more = map-append (λ (p : Part). p.0) ps (q ∷ more)

module _ (all : Parts) where
  -- the parts that are copied, and those that are left under these names
  pub record AreUnderWay (ks : List Text) (made : Parts) : Type 0 where
    pub left : Parts
    pub all_are : all ≡ made ++ left
    pub names_are : names_of left ≡ ks

  pub begun : (ks : List Text) (made : Parts) → ks ≡ names_of all → made ≡ [] → AreUnderWay ks made
  begun ks made e m = record { left = all; all_are = sym (ap (λ (ps : Parts). ps ++ all) m); names_are = sym e }

  no_more : (left : Parts) → names_of left ≡ [] → left ≡ []
  no_more [] e = refl
  no_more (q ∷ qs) e = absurd (cc)

  append_nil : (ps : Parts) → ps ++ [] ≡ ps
  append_nil [] = refl
  append_nil (p ∷ ps) = ap (λ (qs : Parts). p ∷ qs) (append_nil ps)

  pub ended : (ks : List Text) (made : Parts) → AreUnderWay ks made → ks ≡ [] → made ≡ all
  ended ks made u e =
      let none : u.left ≡ [] = no_more u.left (u.names_are ∙ e) in
      sym (u.all_are ∙ ap (λ (ps : Parts). made ++ ps) none ∙ append_nil made)

  module _ (in_order : AreInOrder (names_of all)) where
    step : (made : Parts) (q : Part) (rest : Parts) (k : Text) (ks : List Text) → all ≡ made ++ q ∷ rest → q.0 ≡ k → names_of rest ≡ ks
        → AreUnderWay ks (put_found k (part_at k all) made)
    step made q rest k ks a n m =
        let own : q ≡ (k, q.1) = λ i. (n i, q.1) in
        let order : AreInOrder (names_of made ++ q.0 ∷ names_of rest) = subst AreInOrder (ap names_of a ∙ names_middle made q rest) in_order in
        let order_k : AreInOrder (names_of made ++ k ∷ names_of rest) = subst (λ (j : Text). AreInOrder (names_of made ++ j ∷ names_of rest)) n order in
        let there : part_at k all ≡ Some q.1 = ap (part_at k) (a ∙ ap (λ (p : Part). made ++ p ∷ rest) own) ∙ part_middle made k q.1 rest order_k in
        let put : put_found k (part_at k all) made ≡ made ++ q ∷ [] =
        ap (λ (o : Option PartialValue). put_found k o made) there ∙ put_last made k q.1 (names_of rest) order_k ∙ ap (λ (p : Part). made ++ p ∷ []) (sym own) in
        record {
          left = rest;
          all_are = a ∙ sym (append_assoc made (q ∷ []) rest) ∙ ap (λ (ps : Parts). ps ++ rest) (sym put);
          names_are = m;
        }

    -- the part under the next name is copied
    pub further : (k : Text) (ks : List Text) (made : Parts) → AreUnderWay (k ∷ ks) made → AreUnderWay ks (put_found k (part_at k all) made)
    further k ks made u = by u.left u.all_are u.names_are
      where
        by : (left : Parts) → all ≡ made ++ left → names_of left ≡ k ∷ ks → AreUnderWay ks (put_found k (part_at k all) made)
        by [] a e = absurd (cc)
        by (q ∷ rest) a e = step made q rest k ks a (cc) (cc)

-- ---- parts that are put into a map

abbrev Stored : Type 0
Stored = RcStr Global × Partial.PartialValue

view_if : (o : Ordering) (a b c : List Stored) → parts_view (match_ordering o a b c) ≡ match_ordering o (parts_view a) (parts_view b) (parts_view c)
view_if Less a b c = refl
view_if Equal a b c = refl
view_if Greater a b c = refl

pub view_insert : (es : List Stored) (k : RcStr Global) (p : Partial.PartialValue)
    → parts_view (insert_entry key_cmp es k p) ≡ put_at (rc_str_bytes k) (partial_view p) (parts_view es)
view_insert [] k p = refl
view_insert (e ∷ es) k p = view_if (key_cmp k e.0) _ _ _ ∙ rw (view_insert es k p)

-- ---- names

-- the names of values are the keys' texts
pub names_of_values : (es : List (RcStr Global × Placed)) → map rc_str_bytes (keys_of es) ≡ names_of (parts_view (values_as_parts es))
names_of_values [] = refl
names_of_values (e ∷ es) = ap (λ (ts : List Text). rc_str_bytes e.0 ∷ ts) (names_of_values es)

some_or : (b : Bool) (v : PartialValue) (o : Option PartialValue) → is_some o ≡ true → is_some (cond b (Some v) o) ≡ true
some_or true v o h = refl
some_or false v o h = h

-- a part is found under each of the names
pub part_there : (ps : Parts) (done : List Text) (k : Text) (rest : List Text) → names_of ps ≡ done ++ k ∷ rest → is_some (part_at k ps) ≡ true
unfolding part_at
part_there [] [] k rest e = absurd (cc)
part_there [] (d ∷ done) k rest e = absurd (cc)
part_there (p ∷ ps) [] k rest e =
    let same : k ≡ p.0 = cc in
    ap (λ (b : Bool). is_some (cond b (Some p.1) (part_at k ps))) ((text_eq-decides k p.0).1 same)
part_there (p ∷ ps) (d ∷ done) k rest e =
    let left : names_of ps ≡ done ++ k ∷ rest = cc in
    some_or (text_eq k p.0) p.1 (part_at k ps) (part_there ps done k rest left)

pub append_nil_texts : (ks : List Text) → ks ++ [] ≡ ks
append_nil_texts [] = refl
append_nil_texts (k ∷ ks) = ap (λ (ls : List Text). k ∷ ls) (append_nil_texts ks)

-- the names of copies are those of the uids
pub names_copied : (Copies : EntityUID → EntityUID → Type 0) (us vs : List EntityUID) → AllZip Copies us vs
    → ((u v : EntityUID) → Copies u v → uid_name v ≡ uid_name u) → map uid_name vs ≡ map uid_name us
names_copied Copies [] [] h same = refl
names_copied Copies [] (v ∷ vs) h same = absurd h
names_copied Copies (u ∷ us) [] h same = absurd h
names_copied Copies (u ∷ us) (v ∷ vs) h same = λ i. same u v h.0 i ∷ names_copied Copies us vs h.1 same i
