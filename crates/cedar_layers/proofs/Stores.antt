-- What maps of entities hold.
use Rattle.std.proofs.Common.{◌≡◌, refl, sym, ap, ◌∙◌, Bool, true, false, ◌&&◌, ◌||◌, List, [], ◌∷◌, map, Option}
use Rattle.std.proofs.Common.{None, Some, option_map, option_copied, if◌then◌else◌, cond}
use Rattle.std.proofs.lemmas.Bool.{and_parts}
use Rattle.std.specs.Cmp.Lexicographic.{same_text}
use Rattle.std.specs.Borrow.{Bor}
use Rattle.std.specs.BTreeMap.{BTreeMap}
use Rattle.std.specs.List.{list_any, AllZip}
use Rattle.std.specs.Map.{lookup, KeepsOthers}
use Rattle.std.specs.Option.{is_some, option_or}
use Rattle.std.specs.declared.alloc.Global.{Global}
use Rattle.std.specs.declared.rc.Rc.{Rc}
use Rattle.cedar_model.specs.Terms.{EntityName}
use Rattle.cedar_model.specs.Outcomes.{text_eq, entity_eq}
use Rattle.cedar_model.specs.Settings.{StoredEntity, found, not_there, not_known, found_in, is_among, printed_entity}
use Rattle.cedar_model.proofs.Injections.{none_is_not_some, false_is_not_true}
use Rattle.cedar_names.specs.EqualityLaws.{entity_eq-decides}
use Rattle.cedar_names.specs.declared.names.EntityUID.{EntityUID}
use Rattle.cedar_names.specs.Names.{uid_name}
use Rattle.cedar_names.specs.Order.{is_tied, is_tied-by_name}
use Rattle.cedar_names.specs.Texts as texts
use Rattle.cedar_layers.specs.declared.policies.entities.Entity.{Entity}
use Rattle.cedar_layers.specs.Stores.{entity_name, entity_view, Held, no_entities, with_entity, with_entities, Standing, none_stands, standing_with, standing_with_each, last_of_each_name, standing, or_below, standing_in, shown, with_below}

-- an entity is among the names where its uid is among the uids
pub list_any-uids : (u : EntityUID) (us : List EntityUID) → list_any (is_tied u) us ≡ is_among (uid_name u) (map uid_name us)
unfolding is_among
list_any-uids u [] = refl
list_any-uids u (v ∷ us) = λ i. is_tied-by_name u v i || list_any-uids u us i

-- no entity under the name: there is none, or it is not known
pub found_in-some : (o : Option StoredEntity) (d : StoredEntity) (is_partial : Bool) → o ≡ Some d → found d ≡ found_in o is_partial
unfolding found_in
found_in-some o d is_partial e = sym (ap (λ (p : Option StoredEntity). found_in p is_partial) e)

pub found_in-none : (o : Option StoredEntity) (is_partial : Bool) → o ≡ None → is_partial ≡ false → not_there ≡ found_in o is_partial
unfolding found_in
found_in-none o is_partial e f = sym (λ i. found_in (e i) (f i))

pub found_in-unknown : (o : Option StoredEntity) (is_partial : Bool) → o ≡ None → is_partial ≡ true → not_known ≡ found_in o is_partial
unfolding found_in
found_in-unknown o is_partial e f = sym (λ i. found_in (e i) (f i))

-- what stands under a name in the entries of a map
abbrev under : {V : Type 0} → List (EntityUID × V) → EntityName → Option V
under es n = lookup (λ (u : EntityUID). entity_eq n (uid_name u)) es

-- a look-up by the order is one by name
pub lookup-by_name : {V : Type 0} → (u : EntityUID) (es : List (EntityUID × V)) → lookup (is_tied u) es ≡ under es (uid_name u)
lookup-by_name u es = λ i. lookup (λ (v : EntityUID). is_tied-by_name u v i) es

-- what a map has after an insertion, name by name
module _ {V : Type 0} (old new : List (EntityUID × V)) (key : EntityUID) (x : V) (there : lookup (is_tied key) new ≡ Some x) (others : KeepsOthers is_tied (is_tied key) old new) where
  under_at : (n : EntityName) (b : Bool) → entity_eq n (uid_name key) ≡ b → under new n ≡ (if b then Some x else under old n)
  unfolding KeepsOthers
  under_at n true h =
      let same : n ≡ uid_name key = (entity_eq-decides n (uid_name key)).0 h in
      ap (λ (m : EntityName). under new m) same ∙ sym (lookup-by_name key new) ∙ there
  under_at n false h =
      let own : (x y : EntityUID) → entity_eq n (uid_name x) ≡ true → entity_eq n (uid_name y) ≡ is_tied x y = λ x y e. ap (λ (m : EntityName). entity_eq m (uid_name y)) ((entity_eq-decides n (uid_name x)).0 e) ∙ sym (is_tied-by_name x y) in
      let apart : (u : EntityUID) → is_tied key u ≡ true → entity_eq n (uid_name u) ≡ false = λ u e. ap (λ (m : EntityName). entity_eq n m) (sym ((entity_eq-decides (uid_name key) (uid_name u)).0 (sym (is_tied-by_name key u) ∙ e))) ∙ h in
      others (λ (u : EntityUID). entity_eq n (uid_name u)) own apart

-- of entities
pub standing-put : (old new : List (EntityUID × Entity)) (key : EntityUID) (entity : Entity) → lookup (is_tied key) new ≡ Some entity → KeepsOthers is_tied (is_tied key) old new
    → uid_name key ≡ entity_name entity → standing new ≡ standing_with (standing old) entity
standing-put old new key entity there others e =
    let put : EntityName → Standing = λ m n. if entity_eq n m then Some entity else standing old n in
    (λ i n. under_at old new key entity there others n (entity_eq n (uid_name key)) refl i) ∙ ap put e

-- ---- what is held of the entities that stand

-- what is held of each
abbrev facts_of_each : Standing → Held
facts_of_each f n = option_map entity_view (f n)

option_map-if : (b : Bool) (e : Entity) (o : Option Entity) → option_map entity_view (if b then Some e else o) ≡ (if b then Some (entity_view e) else option_map entity_view o)
option_map-if true e o = refl
option_map-if false e o = refl

facts_with : (f : Standing) (e : Entity) → facts_of_each (standing_with f e) ≡ with_entity (facts_of_each f) (entity_name e) (entity_view e)
facts_with f e = λ i n. option_map-if (entity_eq n (entity_name e)) e (f n) i

facts_with_each : (f : Standing) (es : List Entity) → facts_of_each (standing_with_each f es) ≡ with_entities (facts_of_each f) es
facts_with_each f [] = refl
facts_with_each f (e ∷ es) =
    facts_with_each (standing_with f e) es ∙ ap (λ (before : Held). with_entities before es) (facts_with f e)

-- where these entities stand over others, they are held over what is held of those
pub held-over : (stored before : Standing) (es : List Entity) → stored ≡ standing_with_each before es → facts_of_each stored ≡ with_entities (facts_of_each before) es
held-over stored before es e = ap facts_of_each e ∙ facts_with_each before es

-- where the last of each name stands, these entities are held
pub held-last : (stored : Standing) (es : List Entity) → stored ≡ last_of_each_name es → facts_of_each stored ≡ with_entities no_entities es
held-last stored es e = held-over stored none_stands es e

-- ---- one map over others

-- what is asked first is put in first
or_if : (b : Bool) (e : Entity) (o p : Option Entity) → (if b then Some e else option_or o p) ≡ option_or (if b then Some e else o) p
or_if true e o p = refl
or_if false e o p = refl

or_with_each : (f g : Standing) (es : List Entity) → standing_with_each (or_below f g) es ≡ or_below (standing_with_each f es) g
or_with_each f g [] = refl
or_with_each f g (e ∷ es) =
    let first : standing_with (or_below f g) e ≡ or_below (standing_with f e) g = λ i n. or_if (entity_eq n (entity_name e)) e (f n) (g n) i in
    ap (λ (before : Standing). standing_with_each before es) first ∙ or_with_each (standing_with f e) g es

-- where the last of each name stands over others, these entities stand instead of those
pub stands_over : (first : List (EntityUID × Entity)) (others : Standing) (es : List Entity) → standing first ≡ last_of_each_name es → or_below (standing first) others ≡ standing_with_each others es
stands_over first others es e =
    ap (λ (f : Standing). or_below f others) e ∙ sym (or_with_each none_stands others es)

or_none : (o : Option Entity) → option_or o None ≡ o
or_none None = refl
or_none (Some e) = refl

-- a map alone
pub stands_alone : (es : List (EntityUID × Entity)) → standing_in (es ∷ []) ≡ standing es
stands_alone es = λ i n. or_none (standing es n) i

-- the maps of a store
abbrev pub Layer : Type 0
Layer = Rc (BTreeMap EntityUID Entity) Global

abbrev pub Layers : Type 0
Layers = List Layer

abbrev pub entries_of : Layers → List (List (EntityUID × Entity))
entries_of rs = map (λ (r : Layer). r.value.entries) rs

-- maps that are shared have the same entries
pub entries-shared : (rs ss : Layers) → AllZip (λ (r s : Layer). s.value ≡ r.value) rs ss → entries_of ss ≡ entries_of rs
entries-shared [] [] h = refl
entries-shared [] (s ∷ ss) h = absurd h
entries-shared (r ∷ rs) [] h = absurd h
entries-shared (r ∷ rs) (s ∷ ss) h = λ i. (h.0 i).entries ∷ entries-shared rs ss h.1 i

-- what the first map has is what is found, and else what the others have
pub found_first : (n : EntityName) (es : List (EntityUID × Entity)) (ess : List (List (EntityUID × Entity))) (e : Entity) → standing es n ≡ Some e → standing_in (es ∷ ess) n ≡ Some e
found_first n es ess e h = ap (λ (o : Option Entity). option_or o (standing_in ess n)) h

pub found_behind : (n : EntityName) (es : List (EntityUID × Entity)) (ess : List (List (EntityUID × Entity))) → standing es n ≡ None → standing_in (es ∷ ess) n ≡ standing_in ess n
found_behind n es ess h = ap (λ (o : Option Entity). option_or o (standing_in ess n)) h

-- ---- the list of a store

copied_is_some : (o : Option (Bor Entity)) → is_some (option_copied o) ≡ is_some o
copied_is_some None = refl
copied_is_some (Some r) = refl

none_of_false : (o : Option (Bor Entity)) → is_some o ≡ false → option_copied o ≡ None
none_of_false None h = refl
none_of_false (Some r) h = absurd (false_is_not_true (sym h))

-- one is shown under the name already: nothing changes
stays_at : (o : Option Entity) (e : Entity) (b : Bool) → (b ≡ true → is_some o ≡ true) → o ≡ option_or o (if b then Some e else None)
stays_at (Some d) e b there = refl
stays_at None e true there = absurd (false_is_not_true (there refl))
stays_at None e false there = refl

pub shown-stays : (es : List (EntityUID × Bor Entity)) (u : EntityUID) (e : Entity) → is_some (lookup (is_tied u) es) ≡ true → shown es ≡ with_below (shown es) (uid_name u) e
shown-stays es u e there =
    let some : is_some (shown es (uid_name u)) ≡ true = copied_is_some (under es (uid_name u)) ∙ ap is_some (sym (lookup-by_name u es)) ∙ there in
    let at : (n : EntityName) → entity_eq n (uid_name u) ≡ true → is_some (shown es n) ≡ true = λ n h. ap (λ (m : EntityName). is_some (shown es m)) ((entity_eq-decides n (uid_name u)).0 h) ∙ some in
    λ i n. stays_at (shown es n) e (entity_eq n (uid_name u)) (at n) i

-- none is: it is put in
module _ (old new : List (EntityUID × Bor Entity)) (key : EntityUID) (r : Bor Entity) (there : lookup (is_tied key) new ≡ Some r) (others : KeepsOthers is_tied (is_tied key) old new) (none : shown old (uid_name key) ≡ None) where
  put_at : (n : EntityName) (b : Bool) → entity_eq n (uid_name key) ≡ b → shown new n ≡ option_or (shown old n) (if b then Some r.now else None)
  put_at n true h =
      let same : n ≡ uid_name key = (entity_eq-decides n (uid_name key)).0 h in
      ap option_copied (under_at old new key r there others n true h) ∙ sym (ap (λ (o : Option Entity). option_or o (Some r.now)) (ap (shown old) same ∙ none))
  put_at n false h =
      ap option_copied (under_at old new key r there others n false h) ∙ sym (or_none (shown old n))

  pub shown-put : (m : EntityName) → uid_name key ≡ m → shown new ≡ with_below (shown old) m r.now
  shown-put m e =
      let put : EntityName → Standing = λ k. with_below (shown old) k r.now in
      (λ i n. put_at n (entity_eq n (uid_name key)) refl i) ∙ ap put e

pub not_shown : (es : List (EntityUID × Bor Entity)) (u : EntityUID) (n : EntityName) → n ≡ uid_name u → is_some (lookup (is_tied u) es) ≡ false → shown es n ≡ None
not_shown es u n e h =
    ap (shown es) e ∙ ap option_copied (sym (lookup-by_name u es)) ∙ none_of_false (lookup (is_tied u) es) h

-- one entry more
or_next : (o : Option Entity) (b : Bool) (e : Entity) (p : Option Entity) → option_or (option_or o (if b then Some e else None)) p ≡ option_or o (cond b (Some e) p)
or_next None true e p = refl
or_next None false e p = refl
or_next (Some d) b e p = refl

pub shown_next : (f : Standing) (u : EntityUID) (e : Entity) (es : List (EntityUID × Entity)) → or_below (with_below f (uid_name u) e) (standing es) ≡ or_below f (standing ((u, e) ∷ es))
shown_next f u e es = λ i n. or_next (f n) (entity_eq n (uid_name u)) e (standing es n) i

-- none is left
pub none_below : (f : Standing) → or_below f none_stands ≡ f
none_below f = λ i n. or_none (f n) i

-- one map more
or_or : (o p q : Option Entity) → option_or (option_or o p) q ≡ option_or o (option_or p q)
or_or None p q = refl
or_or (Some e) p q = refl

pub shown_all : (f : Standing) (es : List (EntityUID × Entity)) (ess : List (List (EntityUID × Entity))) → or_below (or_below f (standing es)) (standing_in ess) ≡ or_below f (standing_in (es ∷ ess))
shown_all f es ess = λ i n. or_or (f n) (standing es n) (standing_in ess n) i

-- ---- each stands under its own name

named_or : (x : Entity) (n : EntityName) (o : Option Entity) (e : Entity) (b : Bool) → entity_eq n (entity_name x) ≡ b → (o ≡ Some e → entity_name e ≡ n) → (if b then Some x else o) ≡ Some e → entity_name e ≡ n
named_or x n o e true same before h =
    let found : x ≡ e = cc in
    ap entity_name (sym found) ∙ sym ((entity_eq-decides n (entity_name x)).0 same)
named_or x n o e false same before h = before h

named_with_each : (f : Standing) → ((n : EntityName) (e : Entity) → f n ≡ Some e → entity_name e ≡ n) → (es : List Entity) (n : EntityName) (e : Entity) → standing_with_each f es n ≡ Some e → entity_name e ≡ n
named_with_each f named [] n e h = named n e h
named_with_each f named (x ∷ es) n e h =
    named_with_each (standing_with f x) (λ m y. named_or x m (f m) y (entity_eq m (entity_name x)) refl (named m y)) es n e h

-- the last of a name has that name
pub last_is_named : (es : List Entity) (n : EntityName) (e : Entity) → last_of_each_name es n ≡ Some e → entity_name e ≡ n
last_is_named es n e h =
    named_with_each none_stands (λ m y k. absurd (none_is_not_some k)) es n e h

-- an entity's name prints as the unknown that stands for it is named
pub entity_text-printed : (e : EntityName) → texts.entity_text e ≡ printed_entity e
entity_text-printed e = refl
