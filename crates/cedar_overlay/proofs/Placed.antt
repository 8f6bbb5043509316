-- The store of placed entities over what is stored.
use Rattle.std.proofs.Common.{◌≡◌, refl, sym, ap, ◌∙◌, subst, Bool, true, false, ◌↔◌, List, [], ◌∷◌, Option, None, Some, if◌then◌else◌}
use Rattle.std.specs.List.{AllZip}
use Rattle.std.specs.Option.{is_some}
use Rattle.cedar_model.specs.Terms.{EntityName}
use Rattle.cedar_model.specs.Outcomes.{entity_eq}
use Rattle.cedar_model.specs.Settings.{is_among}
use Rattle.cedar_model.proofs.Injections.{false_is_not_true}
use Rattle.cedar_names.specs.Names.{uid_name}
use Rattle.cedar_layers.specs.declared.policies.entities.Entity.{Entity}
use Rattle.cedar_layers.specs.Stores.{Standing, none_stands, standing_with, standing_with_each, last_of_each_name, entity_name}
use Rattle.cedar_layers.proofs.Stores.{last_is_named}
use Rattle.cedar_hierarchy.specs.Paths.{Parentage, Leads, in_one_step, by_a_parent}
use Rattle.cedar_hierarchy.specs.Ancestry.{recorded, parents_of}
use Rattle.cedar_hierarchy.specs.Sorting.{named_of}
use Rattle.cedar_hierarchy.proofs.Walking.{leads_nowhere}
use Rattle.cedar_overlay.specs.Added.{IsAddedTo, HasAncestor, by_parents, by_a_stored_one, RecordsAll, AreAddable}
use Rattle.cedar_overlay.specs.Adding.{IsPlaced}
use Rattle.cedar_overlay.proofs.Standing.{unchanged, named_stands}

-- ---- name by name

-- the last that is brought, what was stored, and what stands there made
abbrev StandsPlaced : Parentage → Standing → Option Entity → Option Entity → Option Entity → Type 0
StandsPlaced parents stored None d f = f ≡ d
StandsPlaced parents stored (Some e) d None = ⊥
StandsPlaced parents stored (Some e) d (Some f) = IsPlaced parents stored e f

placed_if : (parents : Parentage) (stored : Standing) (b : Bool) (e f : Entity) (o d p : Option Entity) → IsPlaced parents stored e f → StandsPlaced parents stored o d p → StandsPlaced parents stored (if b then Some e else o) d (if b then Some f else p)
placed_if parents stored true e f o d p here before = here
placed_if parents stored false e f o d p here before = before

placed_with : (parents : Parentage) (stored f g : Standing) → ((n : EntityName) → StandsPlaced parents stored (f n) (stored n) (g n)) → (d e : Entity) → IsPlaced parents stored d e → (n : EntityName) → StandsPlaced parents stored (standing_with f d n) (stored n) (standing_with g e n)
placed_with parents stored f g before d e here n =
    let name : entity_name d ≡ entity_name e = sym (ap uid_name here.parts.uid) in
    let claim : EntityName → Type 0 = λ m. StandsPlaced parents stored (if entity_eq n (entity_name d) then Some d else f n) (stored n) (if entity_eq n m then Some e else g n) in
    subst claim name (placed_if parents stored (entity_eq n (entity_name d)) d e (f n) (stored n) (g n) here (before n))

placed_with_each : (parents : Parentage) (stored f g : Standing) → ((n : EntityName) → StandsPlaced parents stored (f n) (stored n) (g n)) → (ds es : List Entity) → AllZip (IsPlaced parents stored) ds es → (n : EntityName) → StandsPlaced parents stored (standing_with_each f ds n) (stored n) (standing_with_each g es n)
placed_with_each parents stored f g before [] [] h n = before n
placed_with_each parents stored f g before [] (e ∷ es) h n = absurd h
placed_with_each parents stored f g before (d ∷ ds) [] h n = absurd h
placed_with_each parents stored f g before (d ∷ ds) (e ∷ es) h n =
    placed_with_each parents stored (standing_with f d) (standing_with g e) (placed_with parents stored f g before d e h.0) ds es h.1 n

-- what is said of one name
added_at : (parents : Parentage) (stored : Standing) (o d p : Option Entity) → StandsPlaced parents stored o d p → IsAddedTo d o p
added_at parents stored None d p h = h
added_at parents stored (Some e) d None h = absurd h
added_at parents stored (Some e) d (Some f) h = h.parts

ancestors_at : (parents : Parentage) (stored : Standing) (n m : EntityName) (o d p : Option Entity) → StandsPlaced parents stored o d p → ((e : Entity) → o ≡ Some e → entity_name e ≡ n) → is_some o ≡ true → (is_among m (recorded p) ≡ true) ↔ HasAncestor parents stored n m
ancestors_at parents stored n m None d p h named some = absurd (false_is_not_true some)
ancestors_at parents stored n m (Some e) d None h named some = absurd h
ancestors_at parents stored n m (Some e) d (Some f) h named some =
    let claim : EntityName → Type 0 = λ k. (is_among m (recorded (Some f)) ≡ true) ↔ HasAncestor parents stored k m in
    subst claim (named e refl) (h.ancestors m)

acyclic_at : (parents : Parentage) (stored : Standing) (n : EntityName) (o d p : Option Entity) → parents n ≡ recorded o → StandsPlaced parents stored o d p → ((e : Entity) → o ≡ Some e → entity_name e ≡ n) → ¬ Leads parents n n
acyclic_at parents stored n None d p own h named = leads_nowhere parents n n own
acyclic_at parents stored n (Some e) d None own h named = absurd h
acyclic_at parents stored n (Some e) d (Some f) own h named =
    let free : EntityName → Type 0 = λ k. ¬ Leads parents k k in
    subst free (named e refl) h.acyclic

-- ---- the store

module _ (stored made : Standing) (es fs : List Entity) (placed : AllZip (IsPlaced (parents_of es) stored) es fs) (over : made ≡ standing_with_each stored fs) where
  stands_at : (n : EntityName) → StandsPlaced (parents_of es) stored (last_of_each_name es n) (stored n) (made n)
  stands_at n =
      let claim : Standing → Type 0 = λ f. StandsPlaced (parents_of es) stored (last_of_each_name es n) (stored n) (f n) in
      subst claim (sym over) (placed_with_each (parents_of es) stored none_stands stored (λ m. refl) es fs placed n)

  pub is_added : (n : EntityName) → IsAddedTo (stored n) (last_of_each_name es n) (made n)
  is_added n = added_at (parents_of es) stored (last_of_each_name es n) (stored n) (made n) (stands_at n)

  pub has_ancestors : (n m : EntityName) → named_of es n ≡ true → (is_among m (recorded (made n)) ≡ true) ↔ HasAncestor (parents_of es) stored n m
  has_ancestors n m h =
      ancestors_at (parents_of es) stored n m (last_of_each_name es n) (stored n) (made n) (stands_at n) (last_is_named es n) (named_stands none_stands es n h)

  pub has_no_cycle : (n : EntityName) → ¬ Leads (parents_of es) n n
  has_no_cycle n =
      acyclic_at (parents_of es) stored n (last_of_each_name es n) (stored n) (made n) refl (stands_at n) (last_is_named es n)

  -- ---- closed again

  kept_at : (n : EntityName) → named_of es n ≡ false → made n ≡ stored n
  kept_at n h =
      let claim : Option Entity → Type 0 = λ o. IsAddedTo (stored n) o (made n) in
      subst claim (unchanged none_stands es n h) (is_added n)

  leads_on : (a b c : EntityName) → Leads (parents_of es) a b → Leads (parents_of es) b c → Leads (parents_of es) a c
  leads_on a b c (in_one_step _ _ h) l = by_a_parent a b c h l
  leads_on a b c (by_a_parent _ p _ h rest) l = by_a_parent a p c h (leads_on p b c rest l)

  module _ (addable : AreAddable stored es) (all : RecordsAll stored) where
    -- one that a stored entity records leads nowhere
    leads_not : (j k m : EntityName) → is_among k (recorded (stored j)) ≡ true → Leads (parents_of es) k m → ⊥
    leads_not j k m h l =
        let some : parents_of es k ≡ [] → ⊥ = λ none. leads_nowhere (parents_of es) k m none l in
        false_is_not_true (sym (addable.apart k j some) ∙ h)

    no_ancestor : (j k m : EntityName) → is_among k (recorded (stored j)) ≡ true → HasAncestor (parents_of es) stored k m → ⊥
    no_ancestor j k m h (by_parents l) = leads_not j k m h l
    no_ancestor j k m h (by_a_stored_one i l r) = leads_not j k i h l

    then_records : (n m : EntityName) → named_of es n ≡ false → is_among m (recorded (made n)) ≡ is_among m (recorded (stored n))
    then_records n m h = ap (λ (o : Option Entity). is_among m (recorded o)) (kept_at n h)

    -- of a stored one
    from_stored : (n k m : EntityName) (c : Bool) → named_of es k ≡ c → is_among k (recorded (stored n)) ≡ true → is_among m (recorded (made k)) ≡ true → is_among m (recorded (stored n)) ≡ true
    from_stored n k m true w h r = absurd (no_ancestor n k m h ((has_ancestors k m w).0 r))
    from_stored n k m false w h r = all n k m h (sym (then_records k m w) ∙ r)

    -- of one that is brought
    then_led : (n k m : EntityName) → Leads (parents_of es) n k → HasAncestor (parents_of es) stored k m → HasAncestor (parents_of es) stored n m
    then_led n k m l (by_parents p) = by_parents (leads_on n k m l p)
    then_led n k m l (by_a_stored_one i p r) = by_a_stored_one i (leads_on n k i l p) r

    from_led : (n k m : EntityName) (c : Bool) → named_of es k ≡ c → Leads (parents_of es) n k → is_among m (recorded (made k)) ≡ true → HasAncestor (parents_of es) stored n m
    from_led n k m true w l r = then_led n k m l ((has_ancestors k m w).0 r)
    from_led n k m false w l r = by_a_stored_one k l (sym (then_records k m w) ∙ r)

    from_brought : (n k m : EntityName) → HasAncestor (parents_of es) stored n k → is_among m (recorded (made k)) ≡ true → HasAncestor (parents_of es) stored n m
    from_brought n k m (by_parents l) r = from_led n k m (named_of es k) refl l r
    from_brought n k m (by_a_stored_one j l h) r =
        by_a_stored_one j l (from_stored j k m (named_of es k) refl h r)

    records_at : (n k m : EntityName) (b : Bool) → named_of es n ≡ b → is_among k (recorded (made n)) ≡ true → is_among m (recorded (made k)) ≡ true → is_among m (recorded (made n)) ≡ true
    records_at n k m true w h r = (has_ancestors n m w).1 (from_brought n k m ((has_ancestors n k w).0 h) r)
    records_at n k m false w h r =
        then_records n m w ∙ from_stored n k m (named_of es k) refl (sym (then_records n k w) ∙ h) r

    pub records_all : RecordsAll made
    records_all n k m h r = records_at n k m (named_of es n) refl h r
