-- The index of policies: what is placed stays, and what is reached by entities.
use Rattle.std.proofs.Common.{◌≡◌, ◌⊎◌, inl, inr, refl, sym, ap, ◌∙◌, ℕ, zero, suc, ◌==◌, Bool, true, false, ◌||◌, ◌&&◌, List, [], ◌∷◌, ◌++◌, length, Option, Some, None, cond, subst, if◌then◌else◌}
use Rattle.std.proofs.lemmas.Bool.{or_cases, or_left, or_right, or_parts, and_from, and_parts, eq-eqb}
use Rattle.std.proofs.lemmas.List.{append-nil}
use Rattle.std.specs.Result.{is_ok}
use Rattle.std.proofs.lemmas.List.Folds.{list_any-append}
use Rattle.std.proofs.Math.Bool.{or_assoc}
use Rattle.std.specs.Bool.{Decides}
use Rattle.std.specs.List.{list_any, list_all}
use Rattle.std.specs.Map.{lookup, values_of, KeepsOthers}
use Rattle.std.specs.Ordering.{eq_by_cmp}
use Rattle.std.specs.Prelude.{slice_get, Result, Ok, Err, OnOk, IfSome}
use Rattle.std.specs.declared.alloc.Global.{Global}
use Rattle.std.specs.declared.vec.Vec.{Vec}
use denote.Ref.{Bor}
use Rattle.cedar_model.specs.Terms.{Text, EntityName}
use Rattle.cedar_model.specs.Outcomes.{text_eq, entity_eq}
use Rattle.cedar_model.specs.Settings.{is_among}
use Rattle.cedar_names.specs.declared.names.EntityType.{EntityType}
use Rattle.cedar_names.specs.declared.names.EntityUID.{EntityUID}
use Rattle.cedar_names.specs.contracts.names.EntityTypeOrd.TheImpl.{cmp-value}
use Rattle.cedar_names.specs.contracts.names.EntityTypeOrd.TheImpl.Laws.{matches_eq-law}
use Rattle.cedar_names.specs.EqualityLaws.{text_eq-decides, entity_eq-decides}
use Rattle.cedar_names.specs.Names.{type_text, uid_name}
use Rattle.cedar_names.specs.Order.{is_tied, is_tied-by_name}
use Rattle.cedar_layers.specs.declared.policies.policy.Policy.{Policy}
use Rattle.cedar_layers.specs.declared.policies.scope_index.ScopeIndex.{ScopeIndex}
use Rattle.cedar_layers.specs.Policies.{PolicyView, policy_view}
use Rattle.cedar_layers.specs.Scopes.{principal_bound, action_bound, resource_bound, principal_type_bound, action_type_bound, resource_type_bound, IsBoundTo, IsBoundToType, asks_for, asks_for_type, have_common, is_type_among, IsBoundElsewhere, asks_for_no_entity, asks_for_no_type, is_in_rest, Groups, TypeGroups, items_or_none, standing_under, standing_under_type, under_entity, under_type, has_position, stands_under_each, stands_under_type, is_under_entities, is_under_type, is_placed, ArePlaced, is_looked_up, AreLookedUp, Places, Extends, ExtendsType, AddsEach, is_last_type, under_other_type, ReachesAll}
use Rattle.cedar_model.proofs.Injections.{some_inj, none_is_not_some, true_is_not_false}
use Rattle.cedar_layers.proofs.Filing.{WasOr, asks_more, bound_is_asked_for, bound_type_is_asked_for, only_these}

-- ---- entries

last_of_all : (b : Bool) → (b || false) ≡ (b && true)
last_of_all true = refl
last_of_all false = refl

and_none : (a b : Bool) → a ≡ (a || (b && false))
and_none true true = refl
and_none true false = refl
and_none false true = refl
and_none false false = refl

or_none : (b : Bool) → (b || false) ≡ b
or_none true = refl
or_none false = refl

-- a map whose order ties keys by their names
module _ {K N : Type 0} (name : K → N) (eq : N → N → Bool) (decides : (m n : N) → Decides (eq m n) (m ≡ n)) (tied : K → K → Bool) (by_name : (x y : K) → tied x y ≡ eq (name x) (name y)) where
  -- what stands under a name
  abbrev pub under : List (K × Vec ℕ Global) → N → List ℕ
  under es n = items_or_none (lookup (λ x. eq n (name x)) es)

  -- a look-up by the order is one by name
  pub looked_up_by_name : (k : K) (es : List (K × Vec ℕ Global)) → items_or_none (lookup (tied k) es) ≡ under es (name k)
  looked_up_by_name k es = λ i. items_or_none (lookup (λ x. by_name k x i) es)

  module _ (old new : List (K × Vec ℕ Global)) (key : K) (others : KeepsOthers tied (tied key) old new) where
    -- what stands under another name stays
    pub others_stay : (n : N) → eq n (name key) ≡ false → under new n ≡ under old n
    unfolding KeepsOthers
    others_stay n h =
        let own : (x y : K) → eq n (name x) ≡ true → eq n (name y) ≡ tied x y = λ x y e. ap (λ m. eq m (name y)) ((decides n (name x)).0 e) ∙ sym (by_name x y) in
        let apart : (u : K) → tied key u ≡ true → eq n (name u) ≡ false = λ u e. ap (λ m. eq n m) (sym ((decides (name key) (name u)).0 (sym (by_name key u) ∙ e))) ∙ h in
        ap items_or_none (others (λ u. eq n (name u)) own apart)

  -- a group that was taken out is put in, with one more
  module _ (old between new : List (K × Vec ℕ Global)) (n : N) (key : K) (group taken : Vec ℕ Global) (i : ℕ) (named : name key ≡ n)
      (were : taken.items ≡ under old n) (stay : (m : N) → eq m n ≡ false → under between m ≡ under old m)
      (more : group.items ≡ taken.items ++ i ∷ []) (there : lookup (tied key) new ≡ Some group) (others : KeepsOthers tied (tied key) between new) where
    extends_here : under new n ≡ under old n ++ i ∷ []
    extends_here =
        ap (under new) (sym named) ∙ sym (looked_up_by_name key new) ∙ ap items_or_none there ∙ more ∙ ap (λ (ns : List ℕ). ns ++ i ∷ []) were

    pub put_back : (j : ℕ) (m : N) → has_position j (under new m) ≡ (has_position j (under old m) || (j == i && eq m n))
    put_back j m = by (eq m n) refl
      where
        by : (b : Bool) → eq m n ≡ b → has_position j (under new m) ≡ (has_position j (under old m) || (j == i && eq m n))
        by true e =
            let same : m ≡ n = (decides m n).0 e in
            ap (λ x. has_position j (under new x)) same ∙ ap (has_position j) extends_here ∙ list_any-append (λ k. j == k) (under old n) (i ∷ [])
            ∙ ap (λ x. has_position j (under old x) || (j == i || false)) (sym same) ∙ ap (λ (b : Bool). has_position j (under old m) || b) (last_of_all (j == i))
            ∙ ap (λ (b : Bool). has_position j (under old m) || (j == i && b)) (sym e)
        by false e =
            ap (has_position j) (others_stay between new key others m (ap (eq m) named ∙ e) ∙ stay m e) ∙ and_none (has_position j (under old m)) (j == i)
            ∙ ap (λ (b : Bool). has_position j (under old m) || (j == i && b)) (sym e)

-- whether the order does not tell two types apart: that is where their texts are the same
abbrev pub is_tied_type : EntityType → EntityType → Bool
is_tied_type = eq_by_cmp cmp-value.it

pub is_tied_type-by_text : (t u : EntityType) → is_tied_type t u ≡ text_eq (type_text t) (type_text u)
is_tied_type-by_text t u = sym (matches_eq-law t u)

-- under names of entities
pub under_uid : (u : EntityUID) (es : Groups) → items_or_none (lookup (is_tied u) es) ≡ standing_under es (uid_name u)
under_uid u es = looked_up_by_name uid_name entity_eq entity_eq-decides is_tied is_tied-by_name u es

pub others_stay_under : (old new : Groups) (key : EntityUID) → KeepsOthers is_tied (is_tied key) old new → (n : EntityName) → entity_eq n (uid_name key) ≡ false → standing_under new n ≡ standing_under old n
others_stay_under old new key others n h =
    others_stay uid_name entity_eq entity_eq-decides is_tied is_tied-by_name old new key others n h

pub extends : (old between new : Groups) (uid key : EntityUID) (group taken : Vec ℕ Global) (i : ℕ) → uid_name key ≡ uid_name uid → taken.items ≡ standing_under old (uid_name uid)
    → ((n : EntityName) → entity_eq n (uid_name uid) ≡ false → standing_under between n ≡ standing_under old n) → group.items ≡ taken.items ++ i ∷ []
    → lookup (is_tied key) new ≡ Some group → KeepsOthers is_tied (is_tied key) between new → Extends old new (uid_name uid ∷ []) i
unfolding is_among
extends old between new uid key group taken i named were stay more there others j m =
    put_back uid_name entity_eq entity_eq-decides is_tied is_tied-by_name old between new (uid_name uid) key group taken i named were stay more there others j m
    ∙ ap (λ (b : Bool). has_position j (standing_under old m) || (j == i && b)) (sym (or_none (entity_eq m (uid_name uid))))

-- under types
pub under_this_type : (t : EntityType) (ts : TypeGroups) → items_or_none (lookup (is_tied_type t) ts) ≡ standing_under_type ts (type_text t)
under_this_type t ts = looked_up_by_name type_text text_eq text_eq-decides is_tied_type is_tied_type-by_text t ts

pub other_types_stay : (old new : TypeGroups) (key : EntityType) → KeepsOthers is_tied_type (is_tied_type key) old new → (t : Text) → text_eq t (type_text key) ≡ false → standing_under_type new t ≡ standing_under_type old t
other_types_stay old new key others t h =
    others_stay type_text text_eq text_eq-decides is_tied_type is_tied_type-by_text old new key others t h

pub extends_type : (old between new : TypeGroups) (ty key : EntityType) (group taken : Vec ℕ Global) (i : ℕ) → type_text key ≡ type_text ty → taken.items ≡ standing_under_type old (type_text ty)
    → ((t : Text) → text_eq t (type_text ty) ≡ false → standing_under_type between t ≡ standing_under_type old t) → group.items ≡ taken.items ++ i ∷ []
    → lookup (is_tied_type key) new ≡ Some group → KeepsOthers is_tied_type (is_tied_type key) between new → ExtendsType old new (type_text ty) i
extends_type old between new ty key group taken i named were stay more there others =
    put_back type_text text_eq text_eq-decides is_tied_type is_tied_type-by_text old between new (type_text ty) key group taken i named were stay more there others

-- the position is to stand under all of these, and still has to be put under those that are left
pub record AreLeft (old new : Groups) (all left : List EntityName) (i : ℕ) : Type 0 where
  pub still : (j : ℕ) (m : EntityName) → (has_position j (standing_under new m) || (j == i && is_among m left)) ≡ (has_position j (standing_under old m) || (j == i && is_among m all))

pub all_left : (old : Groups) (all : List EntityName) (i : ℕ) → AreLeft old old all all i
all_left old all i = record { still = λ j m. refl }

put_under_one : (h b e r : Bool) → ((h || (b && (e || false))) || (b && r)) ≡ (h || (b && (e || r)))
put_under_one true b e r = refl
put_under_one false true true r = refl
put_under_one false true false r = refl
put_under_one false false e r = refl

pub one_less : (old between new : Groups) (all left rest : List EntityName) (n : EntityName) (i : ℕ) → left ≡ n ∷ rest → Extends between new (n ∷ []) i → AreLeft old between all left i → AreLeft old new all rest i
unfolding is_among
one_less old between new all left rest n i e more before = record {
  still = λ j m. ap (λ (b : Bool). b || (j == i && is_among m rest)) (more j m) ∙ put_under_one (has_position j (standing_under between m)) (j == i) (entity_eq m n) (is_among m rest)
      ∙ ap (λ (ns : List EntityName). has_position j (standing_under between m) || (j == i && is_among m ns)) (sym e) ∙ before.still j m;
}

pub none_left : (old new : Groups) (all left : List EntityName) (i : ℕ) → left ≡ [] → AreLeft old new all left i → Extends old new all i
unfolding is_among
none_left old new all left i e before j m =
    and_none (has_position j (standing_under new m)) (j == i)
    ∙ ap (λ (ns : List EntityName). has_position j (standing_under new m) || (j == i && is_among m ns)) (sym e) ∙ before.still j m

-- what follows of a call that succeeds
pub on_ok_then : {A E P Q : Type 0} (r : Result A E) → (P → Q) → OnOk r P → OnOk r Q
on_ok_then (Ok x) f h = f h
on_ok_then (Err e) f h = tt

pub on_ok_items : {A E : Type 0} (r : Result A E) (x a b c : List ℕ) → x ≡ (if is_ok r then a else b) → a ≡ c → OnOk r (x ≡ c)
on_ok_items (Ok v) x a b c h e = h ∙ e
on_ok_items (Err v) x a b c h e = tt

pub if_some_then : {U : Type 0} (o : Option U) (P Q : U → Type 0) → ((u : U) → P u → Q u) → IfSome o P → IfSome o Q
if_some_then (Some u) P Q f h = f u h
if_some_then None P Q f h = tt

-- ---- positions

-- what is in a list is in a longer one
position_behind : (i : ℕ) (ns ms : List ℕ) → has_position i ms ≡ true → has_position i (ns ++ ms) ≡ true
position_behind i ns ms h = list_any-append (λ j. i == j) ns ms ∙ or_right _ _ h

position_stays : (i : ℕ) (ns ms : List ℕ) → has_position i ns ≡ true → has_position i (ns ++ ms) ≡ true
position_stays i ns ms h = list_any-append (λ j. i == j) ns ms ∙ or_left _ _ h

-- ---- an index in which no position is lost

either_stays : (a b c d : Bool) → (a ≡ true → c ≡ true) → (b ≡ true → d ≡ true) → (a || b) ≡ true → (c || d) ≡ true
either_stays a b c d f g h = by (or_cases a b h)
  where
    by : (a ≡ true) ⊎ (b ≡ true) → (c || d) ≡ true
    by (inl k) = or_left c d (f k)
    by (inr k) = or_right c d (g k)

one_stays : {A : Type 0} (f g : A → Bool) (x y z : A) → ((w : A) → f w ≡ true → g w ≡ true) → (f x || (f y || f z)) ≡ true → (g x || (g y || g z)) ≡ true
one_stays f g x y z so h =
    either_stays (f x) (f y || f z) (g x) (g y || g z) (so x) (either_stays (f y) (f z) (g y) (g z) (so y) (so z)) h

module _ (old new : ScopeIndex) (rest : (j : ℕ) → has_position j old.rest.items ≡ true → has_position j new.rest.items ≡ true)
    (groups : (j : ℕ) (o : Option (List EntityName)) → stands_under_each old.groups.entries j o ≡ true → stands_under_each new.groups.entries j o ≡ true)
    (types : (j : ℕ) (o : Option Text) → stands_under_type old.types.entries j o ≡ true → stands_under_type new.types.entries j o ≡ true) where
  placed_stay : (j : ℕ) (q : PolicyView) → is_placed old j q ≡ true → is_placed new j q ≡ true
  placed_stay j q h =
      either_stays (has_position j old.rest.items) (is_under_entities old j q || is_under_type old j q) (has_position j new.rest.items) (is_under_entities new j q || is_under_type new j q) (rest j)
      (either_stays (is_under_entities old j q) (is_under_type old j q) (is_under_entities new j q) (is_under_type new j q)
      (one_stays (stands_under_each old.groups.entries j) (stands_under_each new.groups.entries j) (principal_bound q) (action_bound q) (resource_bound q) (groups j))
      (one_stays (stands_under_type old.types.entries j) (stands_under_type new.types.entries j) (principal_type_bound q) (action_type_bound q) (resource_type_bound q) (types j))) h

module _ (old new : Groups) (ns : List EntityName) (i : ℕ) (more : Extends old new ns i) where
  each_stays : (j : ℕ) (ms : List EntityName) → list_all (λ m. has_position j (standing_under old m)) ms ≡ true → list_all (λ m. has_position j (standing_under new m)) ms ≡ true
  each_stays j [] h = h
  each_stays j (m ∷ ms) h =
      let both = and_parts (has_position j (standing_under old m)) (list_all (λ k. has_position j (standing_under old k)) ms) h in
      and_from _ _ (more j m ∙ or_left _ _ both.0) (each_stays j ms both.1)

  group_stays : (j : ℕ) (o : Option (List EntityName)) → stands_under_each old j o ≡ true → stands_under_each new j o ≡ true
  group_stays j None h = h
  group_stays j (Some ms) h = each_stays j ms h

  each_has : (ms : List EntityName) → ((m : EntityName) → is_among m ms ≡ true → is_among m ns ≡ true) → list_all (λ m. has_position i (standing_under new m)) ms ≡ true
  unfolding is_among
  each_has [] h = refl
  each_has (m ∷ ms) h =
      let among : is_among m ns ≡ true = h m (or_left _ _ ((entity_eq-decides m m).1 refl)) in
      and_from _ _ (more i m ∙ or_right _ _ (and_from _ _ (eq-eqb i i refl) among)) (each_has ms (λ k g. h k (or_right _ _ g)))

  group_has : (o : Option (List EntityName)) → o ≡ Some ns → stands_under_each new i o ≡ true
  group_has o e = ap (stands_under_each new i) e ∙ each_has ns (λ m h. h)

module _ (old new : TypeGroups) (t : Text) (i : ℕ) (more : ExtendsType old new t i) where
  type_stays : (j : ℕ) (o : Option Text) → stands_under_type old j o ≡ true → stands_under_type new j o ≡ true
  type_stays j None h = h
  type_stays j (Some u) h = more j u ∙ or_left _ _ h

  type_has : (o : Option Text) → o ≡ Some t → stands_under_type new i o ≡ true
  type_has o e =
      ap (stands_under_type new i) e ∙ more i t ∙ or_right _ _ (and_from _ _ (eq-eqb i i refl) ((text_eq-decides t t).1 refl))

one_has : {A : Type 0} (f : A → Bool) (x y z w : A) → ((v : A) → v ≡ w → f v ≡ true) → (x ≡ w) ⊎ ((y ≡ w) ⊎ (z ≡ w)) → (f x || (f y || f z)) ≡ true
one_has f x y z w so (inl h) = or_left _ _ (so x h)
one_has f x y z w so (inr (inl h)) = or_right _ _ (or_left _ _ (so y h))
one_has f x y z w so (inr (inr h)) = or_right _ _ (or_right _ _ (so z h))

module _ (old new : ScopeIndex) (i : ℕ) (p : PolicyView) where
  same_rest : new.rest.items ≡ old.rest.items → (j : ℕ) → has_position j new.rest.items ≡ true → WasOr (has_position j old.rest.items) (j == i) (is_in_rest p)
  same_rest e j h = inl (sym (ap (has_position j) e) ∙ h)

  same_groups : new.groups.entries ≡ old.groups.entries → (j : ℕ) (e : EntityName) → has_position j (under_entity new e) ≡ true → WasOr (has_position j (under_entity old e)) (j == i) (asks_for e p)
  same_groups f j e h = inl (sym (ap (λ (gs : Groups). has_position j (standing_under gs e)) f) ∙ h)

  same_types : new.types.entries ≡ old.types.entries → (j : ℕ) (t : Text) → has_position j (under_type new t) ≡ true → WasOr (has_position j (under_type old t)) (j == i) (asks_for_type t p)
  same_types g j t h = inl (sym (ap (λ (ts : TypeGroups). has_position j (standing_under_type ts t)) g) ∙ h)

  groups_stay : new.groups.entries ≡ old.groups.entries → (j : ℕ) (o : Option (List EntityName)) → stands_under_each old.groups.entries j o ≡ true → stands_under_each new.groups.entries j o ≡ true
  groups_stay f j o h = ap (λ (gs : Groups). stands_under_each gs j o) f ∙ h

  types_stay : new.types.entries ≡ old.types.entries → (j : ℕ) (o : Option Text) → stands_under_type old.types.entries j o ≡ true → stands_under_type new.types.entries j o ≡ true
  types_stay g j o h = ap (λ (ts : TypeGroups). stands_under_type ts j o) g ∙ h

  -- placed under each of the entities that it is bound to
  pub places_under : (ns : List EntityName) → new.rest.items ≡ old.rest.items → new.types.entries ≡ old.types.entries → Extends old.groups.entries new.groups.entries ns i → IsBoundTo p ns → Places old new i p
  places_under ns e g more bound = record {
    stay = placed_stay old new (λ j h. ap (has_position j) e ∙ h) (group_stays old.groups.entries new.groups.entries ns i more) (types_stay g);
    placed = or_right _ _ (or_left _ _ (one_has (stands_under_each new.groups.entries i) (principal_bound p) (action_bound p) (resource_bound p) (Some ns) (group_has old.groups.entries new.groups.entries ns i more) bound));
    only = only_these old new i p (same_rest e)
        (λ j m h. asks_more (has_position j (under_entity old m)) (j == i) (is_among m ns) (asks_for m p) (has_position j (under_entity new m)) (more j m) (bound_is_asked_for p ns bound m) h) (same_types g);
  }

  -- placed under the type that it is bound to
  pub places_under_type : (t : Text) → new.rest.items ≡ old.rest.items → new.groups.entries ≡ old.groups.entries → ExtendsType old.types.entries new.types.entries t i → IsBoundToType p t → Places old new i p
  places_under_type t e f more bound = record {
    stay = placed_stay old new (λ j h. ap (has_position j) e ∙ h) (groups_stay f) (type_stays old.types.entries new.types.entries t i more);
    placed = or_right _ _ (or_right _ _ (one_has (stands_under_type new.types.entries i) (principal_type_bound p) (action_type_bound p) (resource_type_bound p) (Some t) (type_has old.types.entries new.types.entries t i more) bound));
    only = only_these old new i p (same_rest e) (same_groups f)
        (λ j u h. asks_more (has_position j (under_type old u)) (j == i) (text_eq u t) (asks_for_type u p) (has_position j (under_type new u)) (more j u) (bound_type_is_asked_for p t bound u) h);
  }

  -- placed in the rest
  pub places_in_rest : new.rest.items ≡ old.rest.items ++ i ∷ [] → new.groups.entries ≡ old.groups.entries → new.types.entries ≡ old.types.entries
      → asks_for_no_entity p ≡ true → asks_for_no_type p ≡ true → Places old new i p
  places_in_rest e f g no_entity no_type = record {
    stay = placed_stay old new (λ j h. ap (has_position j) e ∙ position_stays j old.rest.items (i ∷ []) h) (groups_stay f) (types_stay g);
    placed = or_left _ _ (ap (has_position i) e ∙ position_behind i old.rest.items (i ∷ []) (or_left _ _ (eq-eqb i i refl)));
    only = only_these old new i p
        (λ j h. asks_more (has_position j old.rest.items) (j == i) true (is_in_rest p) (has_position j new.rest.items)
        (ap (has_position j) e ∙ list_any-append (λ k. j == k) old.rest.items (i ∷ []) ∙ ap (λ (b : Bool). has_position j old.rest.items || b) (last_of_all (j == i)))
        (λ h. and_from _ _ no_entity no_type) h) (same_groups f) (same_types g);
  }

-- ---- of all policies of a list

got_more : (ps : List Policy) (p q : Policy) (i : ℕ) → slice_get (ps ++ p ∷ []) i ≡ Some q → (slice_get ps i ≡ Some q) ⊎ ((i ≡ length ps) × (p ≡ q))
got_more [] p q zero h = inr (refl, some_inj h)
got_more [] p q (suc i) h = absurd (none_is_not_some h)
got_more (x ∷ ps) p q zero h = inl h
got_more (x ∷ ps) p q (suc i) h = by (got_more ps p q i h)
  where
    by : (slice_get ps i ≡ Some q) ⊎ ((i ≡ length ps) × (p ≡ q)) → (slice_get ps i ≡ Some q) ⊎ ((suc i ≡ length (x ∷ ps)) × (p ≡ q))
    by (inl e) = inl e
    by (inr e) = inr (ap suc e.0, e.1)

pub placed_none : (index : ScopeIndex) (ps : List Policy) → ps ≡ [] → ArePlaced index ps
placed_none index ps e i p h = absurd (none_is_not_some (sym (ap (λ (xs : List Policy). slice_get xs i) e) ∙ h))

pub placed_more : (old new : ScopeIndex) (ps qs : List Policy) (p : Policy) (n : ℕ) → qs ≡ ps ++ p ∷ [] → n ≡ length ps → ArePlaced old ps → Places old new n (policy_view p) → ArePlaced new qs
placed_more old new ps qs p n e count before more i q h =
    by (got_more ps p q i (sym (ap (λ (xs : List Policy). slice_get xs i) e) ∙ h))
  where
    by : (slice_get ps i ≡ Some q) ⊎ ((i ≡ length ps) × (p ≡ q)) → is_placed new i (policy_view q) ≡ true
    by (inl f) = more.stay i (policy_view q) (before i q f)
    by (inr f) =
        sym (λ j. is_placed new ((count ∙ sym f.0) j) (policy_view (f.1 j))) ∙ more.placed

pub length_values : {K V : Type 0} (es : List (K × V)) → length es ≡ length (values_of es)
length_values [] = refl
length_values (e ∷ es) = ap suc (length_values es)

pub get_value : {K V : Type 0} (es : List (K × V)) (i : ℕ) (k : K) (v : V) → slice_get es i ≡ Some (k, v) → slice_get (values_of es) i ≡ Some v
get_value [] i k v h = absurd (none_is_not_some h)
get_value (e ∷ es) zero k v h =
    let same : e ≡ (k, v) = some_inj h in
    ap (λ (x : _ × _). Some x.1) same
get_value (e ∷ es) (suc i) k v h = get_value es i k v h

-- ---- what entities reach

-- to the first positions those were added that stand under the entities before those that are left
pub record AreAddedSoFar (under : EntityName → List ℕ) (es left : List EntityName) (old ns : List ℕ) : Type 0 where
  pub same : (j : ℕ) → (has_position j ns || list_any (λ e. has_position j (under e)) left) ≡ (has_position j old || list_any (λ e. has_position j (under e)) es)

pub added_none : (under : EntityName → List ℕ) (es : List EntityName) (ns : List ℕ) → AreAddedSoFar under es es ns ns
added_none under es ns = record { same = λ j. refl }

module _ (under : EntityName → List ℕ) (es left rest : List EntityName) (old ns : List ℕ) (n : EntityName) (first : left ≡ n ∷ rest) (before : AreAddedSoFar under es left old ns) where
  pub added_more : (ms : List ℕ) → ms ≡ ns ++ under n → AreAddedSoFar under es rest old ms
  added_more ms e = record {
    same = λ j. ap (λ (b : Bool). b || list_any (λ d. has_position j (under d)) rest) (ap (has_position j) e ∙ list_any-append (λ k. j == k) ns (under n))
        ∙ or_assoc (has_position j ns) (has_position j (under n)) (list_any (λ d. has_position j (under d)) rest)
        ∙ sym (ap (λ (ds : List EntityName). has_position j ns || list_any (λ d. has_position j (under d)) ds) first) ∙ before.same j;
  }

  skipped : (a b c : Bool) → (b ≡ true → a ≡ true) → (a || c) ≡ (a || (b || c))
  skipped true b c so = refl
  skipped false false c so = refl
  skipped false true c so = absurd (true_is_not_false (so refl) refl)

  -- what stands under this one is there
  pub added_already : ((j : ℕ) → has_position j (under n) ≡ true → has_position j ns ≡ true) → AreAddedSoFar under es rest old ns
  added_already there = record {
    same = λ j. skipped (has_position j ns) (has_position j (under n)) (list_any (λ d. has_position j (under d)) rest) (there j)
        ∙ sym (ap (λ (ds : List EntityName). has_position j ns || list_any (λ d. has_position j (under d)) ds) first) ∙ before.same j;
  }

pub added_all : (under : EntityName → List ℕ) (es left : List EntityName) (old ns : List ℕ) → left ≡ [] → AreAddedSoFar under es left old ns → AddsEach under es old ns
added_all under es left old ns none before j =
    sym (or_none (has_position j ns)) ∙ sym (ap (λ (ds : List EntityName). has_position j ns || list_any (λ d. has_position j (under d)) ds) none) ∙ before.same j

-- what stands under the type that was looked up last is there
pub record IsLastAdded (index : ScopeIndex) (last : Option (Bor EntityType)) (ns : List ℕ) : Type 0 where
  pub there : (t : Text) → is_last_type t last ≡ true → (j : ℕ) → has_position j (under_type index t) ≡ true → has_position j ns ≡ true

pub none_last : (index : ScopeIndex) (ns : List ℕ) → IsLastAdded index None ns
none_last index ns = record { there = λ t h. absurd (true_is_not_false h refl) }

pub last_added : (index : ScopeIndex) (ty : Bor EntityType) (old ns : List ℕ) → ns ≡ old ++ under_type index (type_text ty.now) → IsLastAdded index (Some ty) ns
last_added index ty old ns e = record {
  there = λ t h j k. ap (has_position j) e ∙ position_behind j old (under_type index (type_text ty.now))
      (sym (ap (λ (u : Text). has_position j (under_type index u)) ((text_eq-decides t (type_text ty.now)).0 h)) ∙ k);
}

-- one more, whose type is this one
pub added_type_more : (index : ScopeIndex) (es left rest : List EntityName) (old ns ms : List ℕ) (n : EntityName) (last : Option (Bor EntityType)) (ty : Bor EntityType) → left ≡ n ∷ rest → type_text ty.now ≡ n.type_name
    → ms ≡ ns ++ under_other_type index last (type_text ty.now) → AreAddedSoFar (λ e. under_type index e.type_name) es left old ns → IsLastAdded index last ns
    → AreAddedSoFar (λ e. under_type index e.type_name) es rest old ms × IsLastAdded index (Some ty) ms
added_type_more index es left rest old ns ms n last ty first text e before known =
    by (is_last_type (type_text ty.now) last) refl
  where
    by : (b : Bool) → is_last_type (type_text ty.now) last ≡ b → AreAddedSoFar (λ e. under_type index e.type_name) es rest old ms × IsLastAdded index (Some ty) ms
    by true h =
        let same : ms ≡ ns = e ∙ ap (λ (b : Bool). ns ++ cond b [] (under_type index (type_text ty.now))) h ∙ append-nil ns in
        let there : (j : ℕ) → has_position j (under_type index (type_text ty.now)) ≡ true → has_position j ns ≡ true = known.there (type_text ty.now) h in (
          subst (AreAddedSoFar (λ e. under_type index e.type_name) es rest old) (sym same)
              (added_already (λ e. under_type index e.type_name) es left rest old ns n first before (λ j k. there j (ap (λ (u : Text). has_position j (under_type index u)) text ∙ k))),
          record { there = λ t g j k. ap (has_position j) same ∙ there j (sym (ap (λ (u : Text). has_position j (under_type index u)) ((text_eq-decides t (type_text ty.now)).0 g)) ∙ k) },
        )
    by false h =
        let more : ms ≡ ns ++ under_type index (type_text ty.now) = e ∙ ap (λ (b : Bool). ns ++ cond b [] (under_type index (type_text ty.now))) h in (
          added_more (λ e. under_type index e.type_name) es left rest old ns n first before ms (more ∙ ap (λ (u : Text). ns ++ under_type index u) text),
          last_added index ty ns ms more,
        )

-- in the order of positions
pub looked_up_all : (index : ScopeIndex) (es : List EntityName) (rest some more sorted : List ℕ) → rest ≡ index.rest.items → AddsEach (under_entity index) es rest some
    → AddsEach (λ e. under_type index e.type_name) es some more → ((j : ℕ) → has_position j more ≡ has_position j sorted) → AreLookedUp index es sorted
looked_up_all index es rest some more sorted is entities types same i =
    sym (same i) ∙ types i ∙ ap (λ (b : Bool). b || list_any (λ e. has_position i (under_type index e.type_name)) es) (entities i ∙ ap (λ (ns : List ℕ). has_position i ns || list_any (λ e. has_position i (under_entity index e)) es) is)
    ∙ or_assoc (has_position i index.rest.items) (list_any (λ e. has_position i (under_entity index e)) es) (list_any (λ e. has_position i (under_type index e.type_name)) es)

-- ---- what is bound elsewhere

-- what passes a test, and is among these, is one of these that passes it
pub one_asked : (es : List EntityName) (f : EntityName → Bool) (d : EntityName) → f d ≡ true → is_among d es ≡ true → list_any f es ≡ true
unfolding is_among
one_asked [] f d so h = absurd cc
one_asked (e ∷ es) f d so h = by (or_cases (entity_eq d e) (is_among d es) h) (one_asked es f d so)
  where
    by : (entity_eq d e ≡ true) ⊎ (is_among d es ≡ true) → (is_among d es ≡ true → list_any f es ≡ true) → (f e || list_any f es) ≡ true
    by (inl g) rest = or_left (f e) (list_any f es) (sym (ap f ((entity_eq-decides d e).0 g)) ∙ so)
    by (inr g) rest = or_right (f e) (list_any f es) (rest g)

-- one of the type of which all pass a test passes it
pub one_of_type : (es : List EntityName) (f : Text → Bool) (t : Text) → f t ≡ true → is_type_among t es ≡ true → list_any (λ e. f e.type_name) es ≡ true
one_of_type [] f t so h = absurd cc
one_of_type (e ∷ es) f t so h = by (or_cases (text_eq e.type_name t) (is_type_among t es) h) (one_of_type es f t so)
  where
    by : (text_eq e.type_name t ≡ true) ⊎ (is_type_among t es ≡ true) → (is_type_among t es ≡ true → list_any (λ d. f d.type_name) es ≡ true) → (f e.type_name || list_any (λ d. f d.type_name) es) ≡ true
    by (inl g) rest = or_left (f e.type_name) (list_any (λ d. f d.type_name) es) (ap f ((text_eq-decides e.type_name t).0 g) ∙ so)
    by (inr g) rest = or_right (f e.type_name) (list_any (λ d. f d.type_name) es) (rest g)

pub is_false : (b : Bool) → (b ≡ true → ⊥) → b ≡ false
is_false true h = absurd (h refl)
is_false false h = refl

module _ (index : ScopeIndex) (es : List EntityName) (ns : List ℕ) (exact : AreLookedUp index es ns) (i : ℕ) (p : PolicyView) (gone : has_position i ns ≡ false) where
  none_up : is_looked_up index es i ≡ false
  none_up = sym (exact i) ∙ gone

  named_none : (list_any (λ e. has_position i (under_entity index e)) es ≡ false) × (list_any (λ e. has_position i (under_type index e.type_name)) es ≡ false)
  named_none =
      or_parts (list_any (λ e. has_position i (under_entity index e)) es) (list_any (λ e. has_position i (under_type index e.type_name)) es) ((or_parts (has_position i index.rest.items) _ none_up).1)

  none_common : (ds : List EntityName) → list_all (λ d. has_position i (under_entity index d)) ds ≡ true → have_common ds es ≡ false
  none_common [] h = refl
  none_common (d ∷ ds) h =
      let both = and_parts (has_position i (under_entity index d)) (list_all (λ k. has_position i (under_entity index k)) ds) h in
      let apart : is_among d es ≡ false = is_false (is_among d es) (λ g. true_is_not_false (one_asked es (λ e. has_position i (under_entity index e)) d both.0 g) named_none.0) in
      ap (λ (b : Bool). b || have_common ds es) apart ∙ none_common ds both.1

  bound : (o : Option (List EntityName)) → stands_under_each index.groups.entries i o ≡ true → (ds : List EntityName) × (o ≡ Some ds) × (have_common ds es ≡ false)
  bound None h = absurd (true_is_not_false h refl)
  bound (Some ds) h = (ds, refl, none_common ds h)

  bound_type : (o : Option Text) → stands_under_type index.types.entries i o ≡ true → (t : Text) × (o ≡ Some t) × (is_type_among t es ≡ false)
  bound_type None h = absurd (true_is_not_false h refl)
  bound_type (Some t) h =
      (t, refl, is_false (is_type_among t es) (λ g. true_is_not_false (one_of_type es (λ u. has_position i (under_type index u)) t h g) named_none.1))

  by_entities : is_under_entities index i p ≡ true → IsBoundElsewhere es p
  by_entities h = first (or_cases _ _ h)
    where
      second : (stands_under_each index.groups.entries i (action_bound p) ≡ true) ⊎ (stands_under_each index.groups.entries i (resource_bound p) ≡ true) → IsBoundElsewhere es p
      second (inl k) = let z = bound (action_bound p) k in inl (z.0, inr (inl z.1), z.2)
      second (inr k) = let z = bound (resource_bound p) k in inl (z.0, inr (inr z.1), z.2)

      first : (stands_under_each index.groups.entries i (principal_bound p) ≡ true)
          ⊎ ((stands_under_each index.groups.entries i (action_bound p) || stands_under_each index.groups.entries i (resource_bound p)) ≡ true) → IsBoundElsewhere es p
      first (inl k) = let z = bound (principal_bound p) k in inl (z.0, inl z.1, z.2)
      first (inr k) = second (or_cases _ _ k)

  by_type : is_under_type index i p ≡ true → IsBoundElsewhere es p
  by_type h = first (or_cases _ _ h)
    where
      second : (stands_under_type index.types.entries i (action_type_bound p) ≡ true) ⊎ (stands_under_type index.types.entries i (resource_type_bound p) ≡ true) → IsBoundElsewhere es p
      second (inl k) = let z = bound_type (action_type_bound p) k in inr (z.0, inr (inl z.1), z.2)
      second (inr k) = let z = bound_type (resource_type_bound p) k in inr (z.0, inr (inr z.1), z.2)

      first : (stands_under_type index.types.entries i (principal_type_bound p) ≡ true)
          ⊎ ((stands_under_type index.types.entries i (action_type_bound p) || stands_under_type index.types.entries i (resource_type_bound p)) ≡ true) → IsBoundElsewhere es p
      first (inl k) = let z = bound_type (principal_type_bound p) k in inr (z.0, inl z.1, z.2)
      first (inr k) = second (or_cases _ _ k)

  is_elsewhere : is_placed index i p ≡ true → IsBoundElsewhere es p
  is_elsewhere h = by (or_cases _ _ h)
    where
      named : (is_under_entities index i p ≡ true) ⊎ (is_under_type index i p ≡ true) → IsBoundElsewhere es p
      named (inl k) = by_entities k
      named (inr k) = by_type k

      by : (has_position i index.rest.items ≡ true) ⊎ ((is_under_entities index i p || is_under_type index i p) ≡ true) → IsBoundElsewhere es p
      by (inl k) = absurd (true_is_not_false k ((or_parts (has_position i index.rest.items) _ none_up).0))
      by (inr k) = named (or_cases _ _ k)

pub reaches_all : (index : ScopeIndex) (es : List EntityName) (ns : List ℕ) → AreLookedUp index es ns → ReachesAll index es ns
reaches_all index es ns exact i p placed gone = is_elsewhere index es ns exact i p gone placed
