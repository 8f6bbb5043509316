-- Closed entities with what the stored ones of their ancestors record.
use Rattle.std.proofs.Common.{◌≡◌, append_assoc, append-nil, sym, ap, ◌∙◌, subst, true, ◌||◌, ◌⊎◌, inl, inr, ⊎_elim, ◌↔◌, List, [], ◌∷◌, ◌++◌, map}
use Rattle.std.proofs.Math.Bool.{or-false, or_assoc}
use Rattle.std.proofs.lemmas.Bool.{or_left, or_right, or_cases}
use Rattle.std.specs.List.{AllZip}
use Rattle.cedar_model.specs.Terms.{EntityName}
use Rattle.cedar_model.specs.Outcomes.{entity_eq}
use Rattle.cedar_model.specs.Settings.{is_among}
use Rattle.cedar_names.specs.declared.names.EntityUID.{EntityUID}
use Rattle.cedar_names.specs.Names.{uid_name}
use Rattle.cedar_names.proofs.Among.{is_among-none, is_among-self, is_among-behind, is_among-cons}
use Rattle.cedar_layers.specs.declared.policies.entities.Entity.{Entity}
use Rattle.cedar_layers.specs.Stores.{Standing, entity_name, entity_ancestors}
use Rattle.cedar_hierarchy.specs.Paths.{Parentage, AreLedTo}
use Rattle.cedar_hierarchy.specs.Ancestry.{recorded, KeepsParts, IsClosed}
use Rattle.cedar_hierarchy.specs.Sorting.{NameTest, named_in, with_name}
use Rattle.cedar_overlay.specs.Added.{HasAncestor, by_parents, by_a_stored_one}
use Rattle.cedar_overlay.specs.Adding.{with_names, with_recorded, IsWidened, IsPlaced}

-- ---- names more

pub named-with_names : (before : NameTest) (ns : List EntityName) (m : EntityName) → with_names before ns m ≡ (before m || is_among m ns)
unfolding is_among
named-with_names before [] m = sym (or-false (before m))
named-with_names before (n ∷ ns) m =
    named-with_names (with_name before n) ns m ∙ or_assoc (before m) (entity_eq m n) (is_among m ns)

-- one of these is stored and records the name
record OneRecords (stored : Standing) (ns : List EntityName) (m : EntityName) : Type 0 where
  one : EntityName
  among : is_among one ns ≡ true
  records : is_among m (recorded (stored one)) ≡ true

first_records : (stored : Standing) (n : EntityName) (ns : List EntityName) (m : EntityName) → is_among m (recorded (stored n)) ≡ true → OneRecords stored (n ∷ ns) m
first_records stored n ns m h = record { one = n; among = is_among-self n ns; records = h }

later_records : (stored : Standing) (n : EntityName) (ns : List EntityName) (m : EntityName) → OneRecords stored ns m → OneRecords stored (n ∷ ns) m
later_records stored n ns m r = record { one = r.one; among = is_among-behind r.one (n ∷ []) ns r.among; records = r.records }

recorded_before : (before : NameTest) (stored : Standing) (ns : List EntityName) (m : EntityName) → with_recorded before stored ns m ≡ true → (before m ≡ true) ⊎ OneRecords stored ns m
recorded_before before stored [] m h = inl h
recorded_before before stored (n ∷ ns) m h =
    let next : NameTest = with_names before (recorded (stored n)) in
    ⊎_elim
    (λ k. ⊎_elim (λ l. inl l) (λ l. inr (first_records stored n ns m l)) (or_cases (before m) (is_among m (recorded (stored n))) (sym (named-with_names before (recorded (stored n)) m) ∙ k)))
    (λ r. inr (later_records stored n ns m r))
    (recorded_before next stored ns m h)

stays_recorded : (before : NameTest) (stored : Standing) (ns : List EntityName) (m : EntityName) → before m ≡ true → with_recorded before stored ns m ≡ true
stays_recorded before stored [] m h = h
stays_recorded before stored (n ∷ ns) m h =
    stays_recorded (with_names before (recorded (stored n))) stored ns m (named-with_names before (recorded (stored n)) m ∙ or_left _ _ h)

one_is_recorded : (before : NameTest) (stored : Standing) (ns : List EntityName) (k m : EntityName) → is_among k ns ≡ true → is_among m (recorded (stored k)) ≡ true → with_recorded before stored ns m ≡ true
one_is_recorded before stored [] k m h r = absurd (is_among-none k h)
one_is_recorded before stored (n ∷ ns) k m h r =
    let next : NameTest = with_names before (recorded (stored n)) in
    ⊎_elim
    (λ (e : k ≡ n). stays_recorded next stored ns m (named-with_names before (recorded (stored n)) m ∙ or_right _ _ (ap (λ (j : EntityName). is_among m (recorded (stored j))) (sym e) ∙ r)))
    (λ l. one_is_recorded next stored ns k m l r)
    (is_among-cons k n ns h)

-- ---- one entity

ancestors_placed : (parents : Parentage) (stored : Standing) (n m : EntityName) (us vs : List EntityUID) → AreLedTo parents n (map uid_name us) → named_in vs ≡ with_recorded (named_in us) stored (map uid_name us) → (is_among m (map uid_name vs) ≡ true) ↔ HasAncestor parents stored n m
ancestors_placed parents stored n m us vs led wider = (to, from)
  where
    same : is_among m (map uid_name vs) ≡ with_recorded (named_in us) stored (map uid_name us) m
    same = λ i. wider i m

    of_one : OneRecords stored (map uid_name us) m → HasAncestor parents stored n m
    of_one r = by_a_stored_one r.one ((led r.one).0 r.among) r.records

    to : is_among m (map uid_name vs) ≡ true → HasAncestor parents stored n m
    to h =
        ⊎_elim (λ k. by_parents ((led m).0 k)) of_one (recorded_before (named_in us) stored (map uid_name us) m (sym same ∙ h))

    from : HasAncestor parents stored n m → is_among m (map uid_name vs) ≡ true
    from (by_parents l) = same ∙ stays_recorded (named_in us) stored (map uid_name us) m ((led m).1 l)
    from (by_a_stored_one k l r) =
        same ∙ one_is_recorded (named_in us) stored (map uid_name us) k m ((led k).1 l) r

both_parts : (d e f : Entity) → KeepsParts d e → KeepsParts e f → KeepsParts d f
both_parts d e f a b = record {
  uid = b.uid ∙ a.uid;
  attributes = b.attributes ∙ a.attributes;
  tags = b.tags ∙ a.tags;
}

placed_one : (parents : Parentage) (stored : Standing) (d e f : Entity) → IsClosed parents d e → IsWidened stored e f → IsPlaced parents stored d f
placed_one parents stored d e f a b = record {
  parts = both_parts d e f a.parts b.parts;
  ancestors = λ m. ancestors_placed parents stored (entity_name d) m (entity_ancestors e) (entity_ancestors f) a.ancestors b.ancestors;
  acyclic = a.acyclic;
}

pub placed_all : (parents : Parentage) (stored : Standing) (ds es fs : List Entity) → AllZip (IsClosed parents) ds es → AllZip (IsWidened stored) es fs → AllZip (IsPlaced parents stored) ds fs
placed_all parents stored [] [] [] a b = tt
placed_all parents stored [] [] (f ∷ fs) a b = absurd b
placed_all parents stored [] (e ∷ es) fs a b = absurd a
placed_all parents stored (d ∷ ds) [] fs a b = absurd a
placed_all parents stored (d ∷ ds) (e ∷ es) [] a b = absurd b
placed_all parents stored (d ∷ ds) (e ∷ es) (f ∷ fs) a b =
    (placed_one parents stored d e f a.0 b.0, placed_all parents stored ds es fs a.1 b.1)

-- ---- a turn of the loop over the entities

pub one_more_widened : (stored : Standing) (all left each more rest : List Entity) (e f : Entity) (before : List Entity) → before ≡ e ∷ left → more ≡ each ++ f ∷ [] → IsWidened stored e f → ((others : List Entity) → AllZip (IsWidened stored) before others → AllZip (IsWidened stored) all (each ++ others)) → AllZip (IsWidened stored) left rest → AllZip (IsWidened stored) all (more ++ rest)
one_more_widened stored all left each more rest e f before first added wider so_far h =
    let here : AllZip (IsWidened stored) (e ∷ left) (f ∷ rest) = (wider, h) in
    let from : List Entity → Type 0 = λ ds. AllZip (IsWidened stored) ds (f ∷ rest) in
    let claim : List Entity → Type 0 = λ es. AllZip (IsWidened stored) all es in
    let joined : more ++ rest ≡ each ++ f ∷ rest = ap (λ (es : List Entity). es ++ rest) added ∙ append_assoc each (f ∷ []) rest in
    subst claim (sym joined) (so_far (f ∷ rest) (subst from (sym first) here))

pub all_widened : (stored : Standing) (all left each : List Entity) → left ≡ [] → ((others : List Entity) → AllZip (IsWidened stored) left others → AllZip (IsWidened stored) all (each ++ others)) → AllZip (IsWidened stored) all each
all_widened stored all left each none so_far =
    let from : List Entity → Type 0 = λ ds. AllZip (IsWidened stored) ds [] in
    let claim : List Entity → Type 0 = λ es. AllZip (IsWidened stored) all es in
    subst claim (append-nil each) (so_far [] (subst from (sym none) tt))
