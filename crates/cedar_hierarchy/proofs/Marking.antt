-- A set of uids after one more is put in, name by name.
use Rattle.std.proofs.Common.{◌≡◌, refl, sym, ap, ◌∙◌, Bool, true, false, not, ◌||◌, List, [], ◌∷◌, ◌++◌, map, if◌then◌else◌}
use Rattle.std.specs.List.{AllByRecursion, AllZip, IsDistinct, list_any}
use Rattle.std.specs.Set.{KeepsOthers}
use Rattle.std.proofs.Math.Bool.{or-false, or-true}
use Rattle.std.proofs.lemmas.Bool.{not-true, not-false}
use Rattle.cedar_model.specs.Terms.{EntityName}
use Rattle.cedar_model.specs.Outcomes.{entity_eq}
use Rattle.cedar_model.specs.Settings.{is_among}
use Rattle.cedar_names.specs.EqualityLaws.{entity_eq-decides}
use Rattle.cedar_names.specs.declared.names.EntityUID.{EntityUID}
use Rattle.cedar_names.specs.Names.{uid_name}
use Rattle.cedar_names.specs.Order.{is_tied, is_tied-by_name}
use Rattle.cedar_names.proofs.Among.{is_among-append}
use Rattle.cedar_layers.proofs.Stores.{list_any-uids}
use Rattle.cedar_hierarchy.specs.Walks.{marked}
use Rattle.cedar_hierarchy.specs.Listed.{HoldsTheSame}
use Rattle.cedar_hierarchy.specs.Sorting.{no_name, named_in, with_name}

-- a uid passes the test for a name where the name is among the uids' names
pub any_of_name : (n : EntityName) (us : List EntityUID) → list_any (λ (u : EntityUID). entity_eq n (uid_name u)) us ≡ is_among n (map uid_name us)
unfolding is_among
any_of_name n [] = refl
any_of_name n (u ∷ us) = ap (λ (b : Bool). entity_eq n (uid_name u) || b) (any_of_name n us)

pub map-behind : (us : List EntityUID) (u : EntityUID) → map uid_name (us ++ u ∷ []) ≡ map uid_name us ++ uid_name u ∷ []
map-behind [] u = refl
map-behind (v ∷ us) u = ap (λ (ns : List EntityName). uid_name v ∷ ns) (map-behind us u)

-- the names of copies are those of the uids
pub names_copied : (Copies : EntityUID → EntityUID → Type 0) (us vs : List EntityUID) → AllZip Copies us vs → ((u v : EntityUID) → Copies u v → uid_name v ≡ uid_name u) → map uid_name vs ≡ map uid_name us
names_copied Copies [] [] h same = refl
names_copied Copies [] (v ∷ vs) h same = absurd h
names_copied Copies (u ∷ us) [] h same = absurd h
names_copied Copies (u ∷ us) (v ∷ vs) h same = λ i. same u v h.0 i ∷ names_copied Copies us vs h.1 same i

-- uids that the order tells apart have names that are
all_apart : (u : EntityUID) (us : List EntityUID) → AllByRecursion (λ v. is_tied u v ≡ false) us → AllByRecursion (λ n. entity_eq (uid_name u) n ≡ false) (map uid_name us)
all_apart u [] h = tt
all_apart u (v ∷ us) h = (sym (is_tied-by_name u v) ∙ h.0, all_apart u us h.1)

pub names_distinct : (us : List EntityUID) → IsDistinct is_tied us → IsDistinct entity_eq (map uid_name us)
unfolding IsDistinct
names_distinct [] h = tt
names_distinct (u ∷ us) h = (all_apart u us h.0, names_distinct us h.1)

module _ (old new found : List EntityUID) (key last : EntityUID) (there : list_any (is_tied key) new ≡ true) (others : KeepsOthers is_tied (is_tied key) old new) where
  among_at : (n : EntityName) (b : Bool) → entity_eq n (uid_name key) ≡ b → is_among n (map uid_name new) ≡ (is_among n (map uid_name old) || b)
  unfolding KeepsOthers
  among_at n true h =
      let same : n ≡ uid_name key = (entity_eq-decides n (uid_name key)).0 h in
      ap (λ (m : EntityName). is_among m (map uid_name new)) same ∙ sym (list_any-uids key new) ∙ there ∙ (sym (or-true (is_among n (map uid_name old))))
  among_at n false h =
      let own : (x y : EntityUID) → entity_eq n (uid_name x) ≡ true → entity_eq n (uid_name y) ≡ is_tied x y = λ x y e. ap (λ (m : EntityName). entity_eq m (uid_name y)) ((entity_eq-decides n (uid_name x)).0 e) ∙ sym (is_tied-by_name x y) in
      let apart : (u : EntityUID) → is_tied key u ≡ true → entity_eq n (uid_name u) ≡ false = λ u e. ap (λ (m : EntityName). entity_eq n m) (sym ((entity_eq-decides (uid_name key) (uid_name u)).0 (sym (is_tied-by_name key u) ∙ e))) ∙ h in
      sym (any_of_name n new) ∙ others (λ (u : EntityUID). entity_eq n (uid_name u)) own apart ∙ any_of_name n old ∙ (sym (or-false (is_among n (map uid_name old))))

  one_name : (n m : EntityName) → is_among n (m ∷ []) ≡ entity_eq n m
  unfolding is_among
  one_name n m = sym (sym (or-false (entity_eq n m)))

  -- the list has the uid behind the others
  pub same_behind : uid_name last ≡ uid_name key → HoldsTheSame old found → HoldsTheSame new (found ++ last ∷ [])
  same_behind e before = λ n.
      among_at n (entity_eq n (uid_name key)) refl
      ∙ ap (λ (b : Bool). b || entity_eq n (uid_name key)) (before n)
      ∙ ap (λ (m : EntityName). is_among n (map uid_name found) || entity_eq n m) (sym e)
      ∙ ap (λ (b : Bool). is_among n (map uid_name found) || b) (sym (one_name n (uid_name last)))
      ∙ sym (is_among-append n (map uid_name found) (uid_name last ∷ []))
      ∙ ap (is_among n) (sym (map-behind found last))

-- what was put into the set as new was not found before, and the other way round
pub not_found : (key uid : EntityUID) (old found : List EntityUID) (added : Bool) → uid_name key ≡ uid_name uid → added ≡ not (list_any (is_tied key) old) → added ≡ true → HoldsTheSame old found → is_among (uid_name uid) (map uid_name found) ≡ false
not_found key uid old found added e is h before =
    ap (λ (n : EntityName). is_among n (map uid_name found)) (sym e) ∙ sym (before (uid_name key)) ∙ sym (list_any-uids key old) ∙ not-true (list_any (is_tied key) old) (sym is ∙ h)

pub found_already : (key uid : EntityUID) (old found : List EntityUID) (added : Bool) → uid_name key ≡ uid_name uid → added ≡ not (list_any (is_tied key) old) → added ≡ false → HoldsTheSame old found → is_among (uid_name uid) (map uid_name found) ≡ true
found_already key uid old found added e is h before =
    ap (λ (n : EntityName). is_among n (map uid_name found)) (sym e) ∙ sym (before (uid_name key)) ∙ sym (list_any-uids key old) ∙ not-false (list_any (is_tied key) old) (sym is ∙ h)

-- marking a name
pub marked-new : (n m : EntityName) (ns : List EntityName) → m ≡ n → is_among n ns ≡ false → ns ++ m ∷ [] ≡ marked n ns
marked-new n m ns same e = ap (λ (k : EntityName). ns ++ k ∷ []) same ∙ sym (ap (λ (b : Bool). if b then ns else ns ++ n ∷ []) e)

pub marked-again : (n : EntityName) (ns : List EntityName) → is_among n ns ≡ true → ns ≡ marked n ns
marked-again n ns e = sym (ap (λ (b : Bool). if b then ns else ns ++ n ∷ []) e)

-- ---- a set that is looked at name by name

-- one more is put in
pub named-put : (old new : List EntityUID) (key uid : EntityUID) → list_any (is_tied key) new ≡ true → KeepsOthers is_tied (is_tied key) old new → uid_name key ≡ uid_name uid → named_in new ≡ with_name (named_in old) (uid_name uid)
named-put old new key uid there others same = λ i n.
    (among_at old new [] key key there others n (entity_eq n (uid_name key)) refl ∙ ap (λ (m : EntityName). is_among n (map uid_name old) || entity_eq n m) same) i

-- an empty set
pub none-named : (us : List EntityUID) → us ≡ [] → named_in us ≡ no_name
unfolding is_among
none-named us empty = ap named_in empty
