-- What is laid over a store, entity by entity.
use Rattle.std.proofs.Common.{◌≡◌, Bool, true, false, cond, if◌then◌else◌, List, [], ◌∷◌, ◌++◌, Option, None, Some, IfSome, refl, sym, ap, ◌∙◌, subst, append_assoc}
use Rattle.std.proofs.lemmas.List.{map-append}
use Rattle.std.specs.BTreeMap.{BTreeMap}
use Rattle.std.specs.List.{AllByRecursion}
use Rattle.std.specs.List.Sorted.{IsStrictlySortedBy}
use Rattle.std.specs.Map.{keys_of}
use Rattle.std.specs.Option.{is_some, option_or}
use Rattle.std.specs.Ordering.{is_eq}
use Rattle.std.specs.Rc.{rc_str_bytes}
use Rattle.std.specs.declared.alloc.Global.{Global}
use Rattle.std.specs.declared.cmp.Ordering.TheVariants.{Less}
use Rattle.std.specs.declared.rc.RcStr.{RcStr}
use Rattle.cedar_model.specs.Terms.{Text, EntityName}
use Rattle.cedar_model.specs.Outcomes.{entity_eq}
use Rattle.cedar_model.specs.Settings.{StoredEntity, Store, part_at}
use Rattle.cedar_model.proofs.Injections.{none_is_not_some}
use Rattle.cedar_names.specs.EqualityLaws.{entity_eq-decides}
use Rattle.cedar_names.specs.contracts.names.EntityUIDOrd.TheImpl.{cmp-value}
use Rattle.cedar_names.specs.declared.names.EntityUID.{EntityUID}
use Rattle.cedar_names.specs.Names.{uid_name}
use Rattle.cedar_names.specs.Order.{is_tied-by_name}
use Rattle.cedar_values.specs.Sound.{Placed}
use Rattle.cedar_layers.specs.declared.policies.entities.Entity.{Entity}
use Rattle.cedar_layers.specs.Stores.{entity_name, entity_view, Held, with_entity, with_entities, Standing, standing_with, standing_with_each}
use Rattle.cedar_overlay.specs.declared.error.AttributesError.{AttributesError}
use Rattle.cedar_overlay.specs.declared.error.AttributesError.TheVariants.{Memory, NotStored, HasAttribute}
use Rattle.cedar_overlay.specs.Overlaid.{Parts, Brought, values_view, brought_for, overlaid_entity, IsFree, AreFree, IsRefused, HasAttributeNamed}
use Rattle.cedar_overlay.specs.Putting.{BothHave, HasName, IsRefusedFor, IsRefusedOfStored}

abbrev pub Given : Type 0
Given = BTreeMap (RcStr Global) Placed

-- ---- one more entity

one_more : (before : Held) (es : List Entity) (e : Entity) → with_entities before (es ++ e ∷ []) ≡ with_entity (with_entities before es) (entity_name e) (entity_view e)
one_more before [] e = refl
one_more before (d ∷ es) e = one_more (with_entity before (entity_name d) (entity_view d)) es e

one_stands_more : (before : Standing) (es : List Entity) (e : Entity) → standing_with_each before (es ++ e ∷ []) ≡ standing_with (standing_with_each before es) e
one_stands_more before [] e = refl
one_stands_more before (d ∷ es) e = one_stands_more (standing_with before d) es e

-- ---- uids in order

abbrev pub AreSorted : List EntityUID → Type 0
AreSorted us = IsStrictlySortedBy cmp-value.it us

below_middle : (u : EntityUID) (us : List EntityUID) (v : EntityUID) (more : List EntityUID) → AllByRecursion (λ w. cmp-value.it u w ≡ Less) (us ++ v ∷ more) → cmp-value.it u v ≡ Less
below_middle u [] v more h = h.0
below_middle u (w ∷ us) v more h = below_middle u us v more h.1

-- one below another names another entity
apart : (u v : EntityUID) → cmp-value.it u v ≡ Less → entity_eq (uid_name u) (uid_name v) ≡ false
apart u v h = sym (is_tied-by_name u v) ∙ ap is_eq h

eq_swapped : (m n : EntityName) (b : Bool) → entity_eq m n ≡ b → entity_eq n m ≡ b
eq_swapped m n true h = (entity_eq-decides n m).1 (sym ((entity_eq-decides m n).0 h))
eq_swapped m n false h = by (entity_eq n m) refl
  where
    by : (b : Bool) → entity_eq n m ≡ b → b ≡ false
    by true k = sym ((entity_eq-decides m n).1 (sym ((entity_eq-decides n m).0 k))) ∙ h
    by false k = refl

-- ---- what is brought

cond_or : (b : Bool) (m : Given) (o p : Option Given) → cond b (Some m) (option_or o p) ≡ option_or (cond b (Some m) o) p
cond_or true m o p = refl
cond_or false m o p = refl

brought_append : (gs hs : Brought) (n : EntityName) → brought_for (gs ++ hs) n ≡ option_or (brought_for gs n) (brought_for hs n)
brought_append [] hs n = refl
brought_append (g ∷ gs) hs n =
    ap (λ (o : Option Given). cond (entity_eq n (uid_name g.0)) (Some g.1) o) (brought_append gs hs n)
    ∙ cond_or (entity_eq n (uid_name g.0)) g.1 (brought_for gs n) (brought_for hs n)

-- what comes later in order did not come before
not_done : (done : Brought) (u : EntityUID) (more : List EntityUID) → AreSorted (keys_of done ++ u ∷ more) → brought_for done (uid_name u) ≡ None
unfolding IsStrictlySortedBy
not_done [] u more h = refl
not_done (d ∷ done) u more h =
    let other : entity_eq (uid_name u) (uid_name d.0) ≡ false = eq_swapped (uid_name d.0) (uid_name u) false (apart d.0 u (below_middle d.0 (keys_of done) u more h.0)) in
    ap (λ (b : Bool). cond b (Some d.1) (brought_for done (uid_name u))) other ∙ not_done done u more h.1

or_none : (o : Option Given) → option_or o None ≡ o
or_none None = refl
or_none (Some m) = refl

append_nil : (gs : Brought) → gs ++ [] ≡ gs
append_nil [] = refl
append_nil (g ∷ gs) = ap (λ (hs : Brought). g ∷ hs) (append_nil gs)

first_none : (o p : Option Given) → option_or o p ≡ None → o ≡ None
first_none None p h = refl
first_none (Some m) p h = absurd (none_is_not_some (sym h))

second_none : (o : Option Given) (b : Bool) (m : Given) → option_or o (cond b (Some m) None) ≡ None → b ≡ false
second_none (Some l) b m h = absurd (none_is_not_some (sym h))
second_none None true m h = absurd (none_is_not_some (sym h))
second_none None false m h = refl

-- ---- laying over a store

module _ (s : Store) (stands : Standing) (request_wins : Bool) (all : Brought) where
  -- what is laid, of those that are done
  pub record AreLaid (left : Brought) (es : List Entity) : Type 0 where
    pub done : Brought
    pub all_are : all ≡ done ++ left
    pub held_are : (n : EntityName) → with_entities s.entity es n ≡ overlaid_entity (brought_for done n) (s.entity n)
    pub others_are : (n : EntityName) → brought_for done n ≡ None → standing_with_each stands es n ≡ stands n
    pub free : AreFree s done request_wins

  pub begun : (left : Brought) (es : List Entity) → left ≡ all → es ≡ [] → AreLaid left es
  begun left es l e = record {
    done = [];
    all_are = sym l;
    held_are = λ n. ap (λ (ds : List Entity). with_entities s.entity ds n) e;
    others_are = λ n h. ap (λ (ds : List Entity). standing_with_each stands ds n) e;
    free = λ n. tt;
  }

  module _ (left rest : Brought) (es : List Entity) (u : EntityUID) (m : Given) (sorted : AreSorted (keys_of all)) (next : left ≡ (u, m) ∷ rest) (a : AreLaid left es) where
    all_is : all ≡ a.done ++ (u, m) ∷ rest
    all_is = a.all_are ∙ ap (λ (l : Brought). a.done ++ l) next

    none_before : brought_for a.done (uid_name u) ≡ None
    none_before =
        not_done a.done u (keys_of rest) (subst AreSorted (ap keys_of all_is ∙ map-append (λ (g : EntityUID × Given). g.0) a.done ((u, m) ∷ rest)) sorted)

    same_entity : entity_eq (uid_name u) (uid_name u) ≡ true
    same_entity = (entity_eq-decides (uid_name u) (uid_name u)).1 refl

    -- it is among all
    found : brought_for all (uid_name u) ≡ Some m
    found =
        ap (λ (gs : Brought). brought_for gs (uid_name u)) all_is ∙ brought_append a.done ((u, m) ∷ rest) (uid_name u)
        ∙ ap (λ (o : Option Given). option_or o (brought_for ((u, m) ∷ rest) (uid_name u))) none_before
        ∙ ap (λ (b : Bool). cond b (Some m) (brought_for rest (uid_name u))) same_entity

    refused_for : (d : Option StoredEntity) → s.entity (uid_name u) ≡ d → (err : AttributesError) → IsRefusedFor (uid_name u) (values_view m) request_wins d err → IsRefused s all request_wins err
    refused_for None e (Memory x) h = tt
    refused_for None e (NotStored v) h =
        (ap (λ (n : EntityName). is_some (brought_for all n)) h ∙ ap is_some found, ap s.entity h ∙ e)
    refused_for None e (HasAttribute v k) h = absurd h
    refused_for (Some d) e (Memory x) h = tt
    refused_for (Some d) e (NotStored v) h = absurd h
    refused_for (Some d) e (HasAttribute v k) h =
        let Named : Option Given → Type 0 = λ o. IfSome o (λ g. is_some (part_at (rc_str_bytes k) (values_view g)) ≡ true) in
        let brought : Named (brought_for all (uid_name v)) = subst Named (sym (ap (brought_for all) h.0 ∙ found)) h.2.first in
        let stored : HasAttributeNamed (rc_str_bytes k) (s.entity (uid_name v)) = subst (HasAttributeNamed (rc_str_bytes k)) (sym (ap s.entity h.0 ∙ e)) h.2.second in
        (h.1, brought, stored)

    -- why it is refused is why all is
    pub refused : (err : AttributesError) → IsRefusedFor (uid_name u) (values_view m) request_wins (s.entity (uid_name u)) err → IsRefused s all request_wins err
    refused err h = refused_for (s.entity (uid_name u)) refl err h

    done_more : (n : EntityName) → brought_for (a.done ++ (u, m) ∷ []) n ≡ option_or (brought_for a.done n) (cond (entity_eq n (uid_name u)) (Some m) None)
    done_more n = brought_append a.done ((u, m) ∷ []) n

    of_this : (n : EntityName) → entity_eq n (uid_name u) ≡ true → brought_for (a.done ++ (u, m) ∷ []) n ≡ Some m
    of_this n h =
        let same : n ≡ uid_name u = (entity_eq-decides n (uid_name u)).0 h in
        done_more n ∙ ap (λ (b : Bool). option_or (brought_for a.done n) (cond b (Some m) None)) h
        ∙ ap (λ (o : Option Given). option_or o (Some m)) (ap (brought_for a.done) same ∙ none_before)

    of_another : (n : EntityName) → entity_eq n (uid_name u) ≡ false → brought_for (a.done ++ (u, m) ∷ []) n ≡ brought_for a.done n
    of_another n h =
        done_more n ∙ ap (λ (b : Bool). option_or (brought_for a.done n) (cond b (Some m) None)) h ∙ or_none (brought_for a.done n)

    module _ (more : List Entity) (e : Entity) (put : more ≡ es ++ e ∷ []) (name : entity_name e ≡ uid_name u)
        (view : Some (entity_view e) ≡ overlaid_entity (Some m) (s.entity (uid_name u))) (is_free : IsFree request_wins (values_view m) (s.entity (uid_name u))) where
      held_at : (n : EntityName) (b : Bool) → entity_eq n (uid_name u) ≡ b
          → (if b then Some (entity_view e) else with_entities s.entity es n) ≡ overlaid_entity (brought_for (a.done ++ (u, m) ∷ []) n) (s.entity n)
      held_at n true h =
          let same : n ≡ uid_name u = (entity_eq-decides n (uid_name u)).0 h in
          view ∙ ap (λ (k : EntityName). overlaid_entity (Some m) (s.entity k)) (sym same)
          ∙ ap (λ (o : Option Given). overlaid_entity o (s.entity n)) (sym (of_this n h))
      held_at n false h =
          a.held_are n ∙ ap (λ (o : Option Given). overlaid_entity o (s.entity n)) (sym (of_another n h))

      held_more : (n : EntityName) → with_entities s.entity more n ≡ overlaid_entity (brought_for (a.done ++ (u, m) ∷ []) n) (s.entity n)
      held_more n =
          ap (λ (ds : List Entity). with_entities s.entity ds n) put ∙ (λ i. one_more s.entity es e i n)
          ∙ ap (λ (k : EntityName). if entity_eq n k then Some (entity_view e) else with_entities s.entity es n) name
          ∙ held_at n (entity_eq n (uid_name u)) refl

      others_more : (n : EntityName) → brought_for (a.done ++ (u, m) ∷ []) n ≡ None → standing_with_each stands more n ≡ stands n
      others_more n h =
          let so : option_or (brought_for a.done n) (cond (entity_eq n (uid_name u)) (Some m) None) ≡ None = sym (done_more n) ∙ h in
          let other : entity_eq n (uid_name u) ≡ false = second_none (brought_for a.done n) (entity_eq n (uid_name u)) m so in
          ap (λ (ds : List Entity). standing_with_each stands ds n) put ∙ (λ i. one_stands_more stands es e i n)
          ∙ ap (λ (k : EntityName). if entity_eq n k then Some e else standing_with_each stands es n) name
          ∙ ap (λ (b : Bool). if b then Some e else standing_with_each stands es n) other
          ∙ a.others_are n (first_none (brought_for a.done n) _ so)

      free_at : (n : EntityName) (b : Bool) → entity_eq n (uid_name u) ≡ b → IfSome (brought_for (a.done ++ (u, m) ∷ []) n) (λ g. IsFree request_wins (values_view g) (s.entity n))
      free_at n true h =
          let same : n ≡ uid_name u = (entity_eq-decides n (uid_name u)).0 h in
          let here : IsFree request_wins (values_view m) (s.entity n) = subst (λ (k : EntityName). IsFree request_wins (values_view m) (s.entity k)) (sym same) is_free in
          subst (λ (o : Option Given). IfSome o (λ g. IsFree request_wins (values_view g) (s.entity n))) (sym (of_this n h)) here
      free_at n false h =
          subst (λ (o : Option Given). IfSome o (λ g. IsFree request_wins (values_view g) (s.entity n))) (sym (of_another n h)) (a.free n)

      -- one more is laid
      pub further : AreLaid rest more
      further = record {
        done = a.done ++ (u, m) ∷ [];
        all_are = all_is ∙ sym (append_assoc a.done ((u, m) ∷ []) rest);
        held_are = held_more;
        others_are = others_more;
        free = λ n. free_at n (entity_eq n (uid_name u)) refl;
      }

  -- none is left
  module _ (left : Brought) (es : List Entity) (none : left ≡ []) (a : AreLaid left es) where
    all_done : all ≡ a.done
    all_done = a.all_are ∙ ap (λ (l : Brought). a.done ++ l) none ∙ append_nil a.done

    pub all_held : with_entities s.entity es ≡ (λ n. overlaid_entity (brought_for all n) (s.entity n))
    all_held = λ i n.
        (a.held_are n ∙ ap (λ (gs : Brought). overlaid_entity (brought_for gs n) (s.entity n)) (sym all_done)) i

    pub all_others : (n : EntityName) → brought_for all n ≡ None → standing_with_each stands es n ≡ stands n
    all_others n h = a.others_are n (ap (λ (gs : Brought). brought_for gs n) (sym all_done) ∙ h)

    pub all_free : AreFree s all request_wins
    all_free = subst (λ (gs : Brought). AreFree s gs request_wins) (sym all_done) a.free

-- ---- one error

pub refused_by_name : (n : EntityName) (ps : Parts) (request_wins : Bool) (d : StoredEntity) (k : Text) (err : AttributesError) → HasName n k err
    → request_wins ≡ false → BothHave ps d.attributes k → IsRefusedOfStored n ps request_wins d err
refused_by_name n ps request_wins d k (Memory e) h w b = tt
refused_by_name n ps request_wins d k (NotStored u) h w b = absurd h
refused_by_name n ps request_wins d k (HasAttribute u l) h w b = (h.0, w, subst (BothHave ps d.attributes) (sym h.1) b)
