-- Entities that may be added, as they are checked one after another.
use Rattle.std.proofs.Common.{◌≡◌, arith, refl, sym, ap, ◌∙◌, subst, Bool, true, false, ◌||◌, ⊎_elim, ◌≤◌, List, [], ◌∷◌, ◌++◌, map, Option, None, Some}
use Rattle.std.proofs.Math.Bool.{or-false}
use Rattle.std.specs.List.{All}
use Rattle.std.specs.Option.{is_some}
use Rattle.cedar_model.specs.Terms.{EntityName}
use Rattle.cedar_model.specs.Outcomes.{entity_eq}
use Rattle.cedar_model.specs.Settings.{is_among}
use Rattle.cedar_model.proofs.Injections.{false_is_not_true}
use Rattle.cedar_names.specs.declared.names.EntityUID.{EntityUID}
use Rattle.cedar_names.specs.Names.{uid_name}
use Rattle.cedar_names.proofs.Among.{is_among-none, is_among-self, is_among-append, is_among-behind, is_among-cons, is_among-either, is_among-one}
use Rattle.cedar_layers.specs.declared.policies.entities.Entity.{Entity}
use Rattle.cedar_layers.specs.Stores.{Standing, last_of_each_name, entity_name, entity_ancestors}
use Rattle.cedar_layers.proofs.Stores.{last_is_named}
use Rattle.cedar_hierarchy.specs.Ancestry.{recorded, parents_of}
use Rattle.cedar_hierarchy.specs.Sorting.{NameTest, named_of, with_name}
use Rattle.cedar_overlay.specs.declared.entities_error.EntitiesError.{EntitiesError}
use Rattle.cedar_overlay.specs.declared.entities_error.EntitiesError.TheVariants.{Memory, AlreadyStored, Repeated, NoParent, IsAnAncestor, Cycle}
use Rattle.cedar_overlay.specs.Added.{times, is_there, AreAddable, IsRefusedOf}
use Rattle.cedar_overlay.specs.Adding.{IsNew, IsNotNew, AreNew, IsRecorded, HasItsPlace, HasNoPlace, OneHasNoPlace}
use Rattle.cedar_overlay.proofs.Standing.{names-append, times-more, is_last, is_twice, one_is_brought, last_is_brought, holds_of_last}

-- ---- new names

among_one : (n m : EntityName) → is_among n (m ∷ []) ≡ entity_eq n m
unfolding is_among
among_one n m = or-false (entity_eq n m)

pub named-more : (before : List Entity) (e : Entity) → named_of (before ++ e ∷ []) ≡ with_name (named_of before) (entity_name e)
named-more before e = λ i n. at n i
  where
    at : (n : EntityName) → named_of (before ++ e ∷ []) n ≡ (named_of before n || entity_eq n (entity_name e))
    at n =
        ap (is_among n) (names-append before (e ∷ [])) ∙ is_among-append n (map entity_name before) (entity_name e ∷ [])
        ∙ ap (λ (b : Bool). named_of before n || b) (among_one n (entity_name e))

pub none_new : (stored : Standing) → AreNew stored []
none_new stored = record {
  not_stored = λ n h. absurd (is_among-none n h);
  once = λ n. by;
} where
  by : 0 ≤ 1
  by = omega arith

pub one_more_new : (stored : Standing) (before : List Entity) (e : Entity) → AreNew stored before → IsNew stored (named_of before) (entity_name e) → AreNew stored (before ++ e ∷ [])
one_more_new stored before e a new =
    let names = names-append before (e ∷ []) in
    record {
      not_stored = λ n h. ⊎_elim (λ k. a.not_stored n k) (λ k. ap stored (is_among-one n (entity_name e) k) ∙ new.not_stored) (is_among-either n (map entity_name before) (entity_name e ∷ []) (sym (ap (is_among n) names) ∙ h));
      once = λ n. subst (λ (ns : List EntityName). times n ns ≤ 1) (sym names) (times-more n (entity_name e) (map entity_name before) a.once new.first);
    }

-- why one is not new is why all are refused
pub refused_new : (stored : Standing) (es before : List Entity) (e : Entity) (behind : List Entity) (x : EntitiesError) → es ≡ before ++ e ∷ behind → IsNotNew stored (named_of before) (entity_name e) x → IsRefusedOf stored es x
refused_new stored es before e behind (Memory y) all h = tt
refused_new stored es before e behind (AlreadyStored u) all h =
    (ap (named_of es) h.0 ∙ one_is_brought es before e behind all, ap (λ (n : EntityName). is_some (stored n)) h.0 ∙ h.1)
refused_new stored es before e behind (Repeated u) all h =
    subst (λ (n : EntityName). 2 ≤ times n (map entity_name es)) (sym h.0) (is_twice es before e behind all h.1)
refused_new stored es before e behind (NoParent u v) all h = absurd h
refused_new stored es before e behind (IsAnAncestor u v) all h = absurd h
refused_new stored es before e behind (Cycle u) all h = absurd h

-- ---- places

pub no_place_apart : (stored : Standing) (brought : NameTest) (e : Entity) (x : EntitiesError) → IsRecorded stored e x → HasNoPlace stored brought e x
no_place_apart stored brought e (Memory y) h = tt
no_place_apart stored brought e (AlreadyStored u) h = absurd h
no_place_apart stored brought e (Repeated u) h = absurd h
no_place_apart stored brought e (NoParent u v) h = absurd h
no_place_apart stored brought e (IsAnAncestor u v) h = h
no_place_apart stored brought e (Cycle u) h = absurd h

module _ (stored : Standing) (es : List Entity) (new : AreNew stored es) where
  -- each has its place: all may be added
  parents_there : (o : Option Entity) (m : EntityName) → ((e : Entity) → o ≡ Some e → HasItsPlace stored (named_of es) e) → is_among m (recorded o) ≡ true → is_there stored (named_of es) m ≡ true
  parents_there None m placed h = absurd (is_among-none m h)
  parents_there (Some e) m placed h = (placed e refl).parents m h

  apart_from : (n k : EntityName) (o : Option Entity) → ((e : Entity) → o ≡ Some e → HasItsPlace stored (named_of es) e) → ((e : Entity) → o ≡ Some e → entity_name e ≡ n) → (is_some o ≡ true → stored n ≡ None) → (recorded o ≡ [] → ⊥) → is_among n (recorded (stored k)) ≡ false
  apart_from n k None placed named fresh some = absurd (some refl)
  apart_from n k (Some e) placed named fresh some =
      let name : entity_name e ≡ n = named e refl in
      let own : stored (entity_name e) ≡ None = ap stored name ∙ fresh refl in
      let parents : entity_ancestors e ≡ [] → ⊥ = λ h. some (ap (map uid_name) h) in
      ap (λ (m : EntityName). is_among m (recorded (stored k))) (sym name) ∙ (placed e refl).apart k own parents

  some_is_new : (n : EntityName) (o : Option Entity) → last_of_each_name es n ≡ o → is_some o ≡ true → stored n ≡ None
  some_is_new n None h some = absurd (false_is_not_true some)
  some_is_new n (Some e) h some = new.not_stored n (last_is_brought es n e h)

  pub are_addable : (names : NameTest) → names ≡ named_of es → All (HasItsPlace stored names) es → AreAddable stored es
  are_addable names is placed =
      let claim : NameTest → Type 0 = λ t. All (HasItsPlace stored t) es in
      let all : All (HasItsPlace stored (named_of es)) es = subst claim is placed in
      let at : (n : EntityName) (e : Entity) → last_of_each_name es n ≡ Some e → HasItsPlace stored (named_of es) e = λ n e h. holds_of_last (HasItsPlace stored (named_of es)) es n e all h in
      record {
        not_stored = new.not_stored;
        once = new.once;
        parents = λ n m h. parents_there (last_of_each_name es n) m (at n) h;
        apart = λ n k h. apart_from n k (last_of_each_name es n) (at n) (last_is_named es n) (some_is_new n (last_of_each_name es n) refl) h;
      }

  -- one has none: all are refused
  own_parents : (before : List Entity) (e : Entity) (behind : List Entity) (u : EntityUID) → es ≡ before ++ e ∷ behind → uid_name u ≡ entity_name e → parents_of es (uid_name u) ≡ map uid_name (entity_ancestors e)
  own_parents before e behind u all name =
      ap (parents_of es) name ∙ ap recorded (is_last es before e behind new.once all)

  no_name : (us : List EntityUID) → map uid_name us ≡ [] → us ≡ []
  no_name [] h = refl
  no_name (u ∷ us) h = cc

  refused_place : (before : List Entity) (e : Entity) (behind : List Entity) (x : EntitiesError) → es ≡ before ++ e ∷ behind → HasNoPlace stored (named_of es) e x → IsRefusedOf stored es x
  refused_place before e behind (Memory y) all h = tt
  refused_place before e behind (AlreadyStored u) all h = absurd h
  refused_place before e behind (Repeated u) all h = absurd h
  refused_place before e behind (NoParent u v) all h =
      (ap (is_among (uid_name v)) (own_parents before e behind u all h.0) ∙ h.1, h.2)
  refused_place before e behind (IsAnAncestor u v) all h =
      (λ none. h.1 (no_name (entity_ancestors e) (sym (own_parents before e behind u all h.0) ∙ none)), ap (λ (n : EntityName). is_among n (recorded (stored (uid_name v)))) h.0 ∙ h.2)
  refused_place before e behind (Cycle u) all h = absurd h

  pub are_refused : (names : NameTest) (x : EntitiesError) → names ≡ named_of es → OneHasNoPlace stored names es x → IsRefusedOf stored es x
  are_refused names x is one =
      let claim : NameTest → Type 0 = λ t. HasNoPlace stored t one.one x in
      refused_place one.before one.one one.behind x one.all_are (subst claim is one.placeless)

-- ---- one name that isn't there

-- what is among the names that are left, and what holds of all if it holds of these
pub record AreLookedUp (stored : Standing) (brought : NameTest) (all left : List EntityName) : Type 0 where
  pub within : (m : EntityName) → is_among m left ≡ true → is_among m all ≡ true
  pub there : ((m : EntityName) → is_among m left ≡ true → is_there stored brought m ≡ true) → (m : EntityName) → is_among m all ≡ true → is_there stored brought m ≡ true

pub looked_up_none : (stored : Standing) (brought : NameTest) (all left : List EntityName) → left ≡ all → AreLookedUp stored brought all left
looked_up_none stored brought all left same = record {
  within = λ m h. ap (is_among m) (sym same) ∙ h;
  there = λ h m k. h m (ap (is_among m) same ∙ k);
}

-- the next one is there
pub looked_up_next : (stored : Standing) (brought : NameTest) (all left rest : List EntityName) (n : EntityName) → left ≡ n ∷ rest → is_there stored brought n ≡ true → AreLookedUp stored brought all left → AreLookedUp stored brought all rest
looked_up_next stored brought all left rest n next here before = record {
  within = λ m h. before.within m (ap (is_among m) next ∙ is_among-behind m (n ∷ []) rest h);
  there = λ h m k. before.there (λ l j. ⊎_elim (λ (e : l ≡ n). ap (is_there stored brought) e ∙ here) (h l) (is_among-cons l n rest (sym (ap (is_among l) next) ∙ j))) m k;
}

-- the next one isn't
pub looked_up_one : (stored : Standing) (brought : NameTest) (all left rest : List EntityName) (n : EntityName) → left ≡ n ∷ rest → AreLookedUp stored brought all left → is_among n all ≡ true
looked_up_one stored brought all left rest n next a = a.within n (ap (is_among n) next ∙ is_among-self n rest)

-- all are
pub looked_up_all : (stored : Standing) (brought : NameTest) (all left : List EntityName) → left ≡ [] → AreLookedUp stored brought all left → (m : EntityName) → is_among m all ≡ true → is_there stored brought m ≡ true
looked_up_all stored brought all left none a =
    a.there (λ m h. absurd (is_among-none m (sym (ap (is_among m) none) ∙ h)))
