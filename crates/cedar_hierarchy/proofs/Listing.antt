-- The map of parents, name by name, and how it comes about.
use Rattle.std.proofs.Common.{◌≡◌, refl, sym, ap, ◌∙◌, Bool, true, false, cond, List, [], ◌∷◌, ◌++◌, map, Option, Some, if◌then◌else◌}
use Rattle.std.specs.Map.{lookup, KeepsOthers}
use Rattle.std.specs.declared.alloc.Global.{Global}
use Rattle.std.specs.declared.vec.Vec.{Vec}
use Rattle.cedar_model.specs.Terms.{EntityName}
use Rattle.cedar_model.specs.Outcomes.{entity_eq}
use Rattle.cedar_model.specs.Settings.{is_among}
use Rattle.cedar_names.specs.EqualityLaws.{entity_eq-decides}
use Rattle.cedar_names.specs.declared.names.EntityUID.{EntityUID}
use Rattle.cedar_names.specs.Names.{uid_name}
use Rattle.cedar_names.specs.Order.{is_tied, is_tied-by_name}
use Rattle.cedar_names.proofs.Among.{is_among-none, is_among-before, is_among-behind}
use Rattle.cedar_layers.specs.declared.policies.entities.Entity.{Entity}
use Rattle.cedar_layers.specs.Stores.{Standing, none_stands, standing_with, standing_with_each, entity_name, entity_ancestors}
use Rattle.cedar_hierarchy.specs.Paths.{Parentage}
use Rattle.cedar_hierarchy.specs.Ancestry.{recorded, parents_of}
use Rattle.cedar_hierarchy.specs.Listed.{names_or_none, listed_parents, parents_with, parents_with_each}

-- what a map of parents lists
abbrev pub Listing : Type 0
Listing = List (EntityUID × Vec EntityUID Global)

-- a look-up by the order is one by name
pub listed-by_name : (u : EntityUID) (es : Listing) → names_or_none (lookup (is_tied u) es) ≡ listed_parents es (uid_name u)
listed-by_name u es = λ i. names_or_none (lookup (λ (v : EntityUID). is_tied-by_name u v i) es)

-- one entity's parents are put in
module _ (old new : Listing) (key : EntityUID) (own : Vec EntityUID Global) (there : lookup (is_tied key) new ≡ Some own) (others : KeepsOthers is_tied (is_tied key) old new) where
  listed_at : (n : EntityName) (b : Bool) → entity_eq n (uid_name key) ≡ b → listed_parents new n ≡ (if b then map uid_name own.items else listed_parents old n)
  unfolding KeepsOthers
  listed_at n true h =
      let same : n ≡ uid_name key = (entity_eq-decides n (uid_name key)).0 h in
      ap (λ (m : EntityName). listed_parents new m) same ∙ sym (listed-by_name key new) ∙ ap names_or_none there
  listed_at n false h =
      let own_test : (x y : EntityUID) → entity_eq n (uid_name x) ≡ true → entity_eq n (uid_name y) ≡ is_tied x y = λ x y e. ap (λ (m : EntityName). entity_eq m (uid_name y)) ((entity_eq-decides n (uid_name x)).0 e) ∙ sym (is_tied-by_name x y) in
      let apart : (u : EntityUID) → is_tied key u ≡ true → entity_eq n (uid_name u) ≡ false = λ u e. ap (λ (m : EntityName). entity_eq n m) (sym ((entity_eq-decides (uid_name key) (uid_name u)).0 (sym (is_tied-by_name key u) ∙ e))) ∙ h in
      ap names_or_none (others (λ (u : EntityUID). entity_eq n (uid_name u)) own_test apart)

  pub listed_parents-put : (e : Entity) → uid_name key ≡ entity_name e → map uid_name own.items ≡ map uid_name (entity_ancestors e) → listed_parents new ≡ parents_with (listed_parents old) e
  listed_parents-put e name names =
      let under : EntityName → List EntityName → Parentage = λ m ns n. if entity_eq n m then ns else listed_parents old n in
      (λ i n. listed_at n (entity_eq n (uid_name key)) refl i) ∙ (λ i. under (name i) (names i))

-- ---- of entities put in one after another the last of each name counts

recorded-if : (b : Bool) (e : Entity) (o : Option Entity) → recorded (if b then Some e else o) ≡ (if b then map uid_name (entity_ancestors e) else recorded o)
recorded-if true e o = refl
recorded-if false e o = refl

-- what each of the entities that stand records
abbrev recorded_by : Standing → Parentage
recorded_by f n = recorded (f n)

recorded_with : (f : Standing) (e : Entity) → recorded_by (standing_with f e) ≡ parents_with (recorded_by f) e
recorded_with f e = λ i n. recorded-if (entity_eq n (entity_name e)) e (f n) i

recorded_with_each : (f : Standing) (es : List Entity) → parents_with_each (recorded_by f) es ≡ recorded_by (standing_with_each f es)
recorded_with_each f [] = refl
recorded_with_each f (e ∷ es) =
    sym (ap (λ (before : Parentage). parents_with_each before es) (recorded_with f e)) ∙ recorded_with_each (standing_with f e) es

-- an empty map lists no parents
abbrev pub no_parents : Parentage
no_parents n = []

pub each_is_recorded : (es : List Entity) → parents_with_each no_parents es ≡ parents_of es
each_is_recorded es = recorded_with_each none_stands es

-- ---- all parents of a map

abbrev pub all_listed : Listing → List EntityName
all_listed [] = []
all_listed (e ∷ es) = map uid_name e.1.items ++ all_listed es

listed_by : (b : Bool) (n : EntityName) (own : Vec EntityUID Global) (o : Option (Vec EntityUID Global)) (all : List EntityName) → (is_among n (names_or_none o) ≡ true → is_among n all ≡ true) → is_among n (names_or_none (cond b (Some own) o)) ≡ true → is_among n (map uid_name own.items ++ all) ≡ true
listed_by true n own o all later h = is_among-before n (map uid_name own.items) all h
listed_by false n own o all later h = is_among-behind n (map uid_name own.items) all (later h)

-- each parent is among them
pub all_are_listed : (es : Listing) (m n : EntityName) → is_among n (listed_parents es m) ≡ true → is_among n (all_listed es) ≡ true
all_are_listed [] m n h = absurd (is_among-none n h)
all_are_listed (e ∷ es) m n h =
    listed_by (entity_eq m (uid_name e.0)) n e.1 (lookup (λ (u : EntityUID). entity_eq m (uid_name u)) es) (all_listed es) (all_are_listed es m n) h
