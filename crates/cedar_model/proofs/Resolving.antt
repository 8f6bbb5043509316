-- Stored residuals that are read: that they stand in the store, and what follows from what they answer.
use Rattle.std.specs.Prelude.{◌≡◌, ◌⊎◌, Bool, true, false, List, [], ◌∷◌, Option, Some, None}
use Rattle.std.proofs.Common.{refl, sym, subst, inl, inr}
use Rattle.cedar_model.specs.Terms.{Text, EntityName, BinaryOperator, eq_operator, less_operator, less_eq_operator}
use Rattle.cedar_model.specs.Terms.{add_operator, sub_operator, mul_operator, in_operator, contains_operator}
use Rattle.cedar_model.specs.Terms.{contains_all_operator, contains_any_operator, get_tag_operator, has_tag_operator}
use Rattle.cedar_model.specs.Terms.{Term, extended_has}
use Rattle.cedar_model.specs.Values.{Represented, abstract_value}
use Rattle.cedar_model.specs.Outcomes.{entity_of, text_of}
use Rattle.cedar_model.specs.Failures.{PartialValue, value, residual, Answer, answers, fails}
use Rattle.cedar_model.specs.Settings.{StoredEntity, Store, Resolution, shallow, deep, part_at, Found, found, not_there}
use Rattle.cedar_model.specs.Settings.{not_known, found_in, look_up}
use Rattle.cedar_model.specs.Operators
use Rattle.cedar_model.specs.Rules
use Rattle.cedar_model.specs.Agreement.{EachStored, IsValue}
use Rattle.cedar_model.proofs.Injections.{some_inj}

-- ---- where it stands

-- the residual is an attribute or a tag of an entity of the store
abbrev pub IsStored : Store → Term → Type 0
IsStored store t =
    (e : EntityName) × (x : StoredEntity) × (k : Text) × (store.entity e ≡ Some x)
    × ((part_at k x.attributes ≡ Some (residual t)) ⊎ (part_at k x.tags ≡ Some (residual t)))

pub each_stored : (Such : PartialValue → Type 0) (store : Store) → EachStored Such store → (t : Term)
    → IsStored store t → Such (residual t)
each_stored Such store h t (e, x, k, i, inl j) = (h e x k (residual t) i).0 j
each_stored Such store h t (e, x, k, i, inr j) = (h e x k (residual t) i).1 j

found_is : (o : Option StoredEntity) (store : Store) (x : StoredEntity) → found_in o store.is_partial ≡ found x
    → o ≡ Some x
unfolding found_in
found_is o store x h = by o store.is_partial h
  where
    by : (q : Option StoredEntity) (b : Bool) → found_in q b ≡ found x → q ≡ Some x
    by (Some y) b e = cc
    by None true e = absurd (cc)
    by None false e = absurd (cc)

pub residual_is : (o : Option PartialValue) (t : Term) → Operators.residual_in o ≡ Some t → o ≡ Some (residual t)
unfolding Operators.residual_in
residual_is None t h = absurd (cc)
residual_is (Some (value v)) t h = absurd (cc)
residual_is (Some (residual r)) t h = λ i. Some (residual (some_inj h i))

attribute_by : (store : Store) (o : Option EntityName) (k : Text) (t : Term)
    → Operators.attribute_residual_of store o k ≡ Some t → IsStored store t
unfolding Operators.attribute_residual_of Operators.attribute_residual_found
attribute_by store None k t h = absurd (cc)
attribute_by store (Some e) k t h = by (look_up store e) refl h
  where
    by : (f : Found) → look_up store e ≡ f → Operators.attribute_residual_found f k ≡ Some t → IsStored store t
    by not_known i j = absurd (cc)
    by not_there i j = absurd (cc)
    by (found x) i j = (e, x, k, found_is (store.entity e) store x i, inl (residual_is (part_at k x.attributes) t j))

pub attribute_is_stored : (store : Store) (v : Represented) (k : Text) (t : Term)
    → Operators.attribute_residual store v k ≡ Some t → IsStored store t
attribute_is_stored store v k t h = attribute_by store (entity_of (abstract_value v)) k t h

tag_by : (store : Store) (o : Option EntityName) (p : Option Text) (t : Term)
    → Operators.tag_residual_of store o p ≡ Some t → IsStored store t
unfolding Operators.tag_residual_of Operators.tag_residual_found
tag_by store None p t h = absurd (cc)
tag_by store (Some e) None t h = absurd (cc)
tag_by store (Some e) (Some k) t h = by (look_up store e) refl h
  where
    by : (f : Found) → look_up store e ≡ f → Operators.tag_residual_found f k ≡ Some t → IsStored store t
    by not_known i j = absurd (cc)
    by not_there i j = absurd (cc)
    by (found x) i j = (e, x, k, found_is (store.entity e) store x i, inr (residual_is (part_at k x.tags) t j))

binary_is_stored : (store : Store) (op : BinaryOperator) (v w : Represented) (t : Term)
    → Operators.binary_residual store op v w ≡ Some t → IsStored store t
unfolding Operators.binary_residual
binary_is_stored store eq_operator v w t h = absurd (cc)
binary_is_stored store less_operator v w t h = absurd (cc)
binary_is_stored store less_eq_operator v w t h = absurd (cc)
binary_is_stored store add_operator v w t h = absurd (cc)
binary_is_stored store sub_operator v w t h = absurd (cc)
binary_is_stored store mul_operator v w t h = absurd (cc)
binary_is_stored store in_operator v w t h = absurd (cc)
binary_is_stored store contains_operator v w t h = absurd (cc)
binary_is_stored store contains_all_operator v w t h = absurd (cc)
binary_is_stored store contains_any_operator v w t h = absurd (cc)
binary_is_stored store get_tag_operator v w t h =
    tag_by store (entity_of (abstract_value v)) (text_of (abstract_value w)) t h
binary_is_stored store has_tag_operator v w t h = absurd (cc)

pub beside_is_stored : (store : Store) (op : BinaryOperator) (p : PartialValue) (y : Answer) (t : Term)
    → Rules.beside_residual store op p y ≡ Some t → IsStored store t
unfolding Rules.beside_residual
beside_is_stored store op p (fails e) t h = absurd (cc)
beside_is_stored store op (value v) (answers (value w)) t h = binary_is_stored store op v w t h
beside_is_stored store op (value v) (answers (residual r)) t h = absurd (cc)
beside_is_stored store op (residual r) (answers q) t h = absurd (cc)

pub none_read : (o : Option Term) → ((t : Term) → o ≡ Some t → ⊥) → o ≡ None
none_read None h = refl
none_read (Some t) h = absurd (h t refl)

-- a store of values has none
pub none_is_stored : (store : Store) → EachStored IsValue store → (t : Term) → IsStored store t → ⊥
none_is_stored store h t i = each_stored IsValue store h t i

-- ---- what follows

module _ (G : Rules.MayAnswer) where
  -- where none is read
  pub nothing_read : (r : Resolution) (x a : Answer) → Rules.Resolves G r None x a → a ≡ x
  nothing_read shallow x a h = h
  nothing_read deep x a h = h

  -- the same by cases: with shallow resolution, or where none is read, what is stored is answered
  pub resolved_by : (C : Answer → Type 0) (r : Resolution) (o : Option Term) (x a : Answer) → (r ≡ shallow → C x)
      → (o ≡ None → C x) → ((t : Term) → r ≡ deep → o ≡ Some t → G t a → C a) → Rules.Resolves G r o x a → C a
  resolved_by C shallow o x a e f g h = subst C (sym h) (e refl)
  resolved_by C deep None x a e f g h = subst C (sym h) (f refl)
  resolved_by C deep (Some t) x a e f g h = g t refl refl h

  pub unread : (r : Resolution) (a : Answer) → Rules.Resolves G r None a a
  unread shallow a = refl
  unread deep a = refl

  -- a fact of what is stored, and of what the stored residual answers
  pub resolved : (C : Answer → Type 0) (r : Resolution) (o : Option Term) (x a : Answer) → C x
      → ((t : Term) → r ≡ deep → o ≡ Some t → G t a → C a) → Rules.Resolves G r o x a → C a
  resolved C shallow o x a f g h = subst C (sym h) f
  resolved C deep None x a f g h = subst C (sym h) f
  resolved C deep (Some t) x a f g h = g t refl refl h

  -- ---- where the store holds no residual, both resolutions answer alike

  pub as_stored : (store : Store) → ((t : Term) → IsStored store t → ⊥) → (r : Resolution) (o : Option Term)
      (x a : Answer) → ((t : Term) → o ≡ Some t → IsStored store t) → Rules.Resolves G r o x a → a ≡ x
  as_stored store none shallow o x a i h = h
  as_stored store none deep None x a i h = h
  as_stored store none deep (Some t) x a i h = absurd (none t (i t refl))

  walk_as_stored : (store : Store) → ((t : Term) → IsStored store t → ⊥) → (o : Option Term) (z : Operators.Walk)
      (l : Text) (ls : List Text) (Next : Represented → Answer → Type 0) (next : Represented → Answer) (a : Answer)
      → ((t : Term) → o ≡ Some t → IsStored store t) → ((u : Represented) → Next u a → a ≡ next u)
      → Rules.WalksOn G o z l ls Next a → a ≡ Operators.after_walk z next
  unfolding Operators.after_walk
  walk_as_stored store none None (Operators.walks_on u) l ls Next next a i f h = f u h
  walk_as_stored store none None (Operators.stops b) l ls Next next a i f h = h
  walk_as_stored store none (Some t) z l ls Next next a i f h = absurd (none t (i t refl))

  walks_as_stored : (store : Store) → ((t : Term) → IsStored store t → ⊥) → (ks : List Text) (v : Represented)
      (k : Text) (a : Answer) → Rules.Walks G store v k ks a → a ≡ Operators.path_answer store v k ks
  unfolding Operators.path_answer
  walks_as_stored store none [] v k a h = h
  walks_as_stored store none (l ∷ ls) v k a h =
      walk_as_stored store none (Operators.attribute_residual store v k)
      (Operators.walk_in store (Operators.container_of v) (Operators.container_expected v) k l ls) l ls
      (λ u. Rules.Walks G store u l ls) (λ u. Operators.path_answer store u l ls) a
      (λ t e. attribute_is_stored store v k t e) (λ u j. walks_as_stored store none ls u l a j) h

  pub path_as_stored : (store : Store) → ((t : Term) → IsStored store t → ⊥) → (r : Resolution) (x : Answer)
      (k : Text) (ks : List Text) (a : Answer) → Rules.AtPath G r store x k ks a
      → a ≡ Rules.on_part (λ v. Operators.path_answer store v k ks) (λ q. extended_has q k ks) x
  unfolding Rules.on_part
  path_as_stored store none shallow x k ks a h = h
  path_as_stored store none deep (fails e) k ks a h = h
  path_as_stored store none deep (answers (value v)) k ks a h = walks_as_stored store none ks v k a h
  path_as_stored store none deep (answers (residual q)) k ks a h = h

  module _ (C : Answer → Type 0) where
    -- a step that stops
    abbrev pub StopsWith : Operators.Walk → Type 0
    StopsWith (Operators.walks_on v) = Unit {0}
    StopsWith (Operators.stops a) = C a

    -- a stored residual whose reading stops
    abbrev pub ReadStopsWith : Answer → Text → List Text → Type 0
    ReadStopsWith (fails e) l ls = C (fails e)
    ReadStopsWith (answers (value v)) l ls = Unit {0}
    ReadStopsWith (answers (residual r)) l ls = C (answers (residual (extended_has r l ls)))

    module _ (store : Store) (last : (v : Represented) (k : Text)
        → C (Operators.last_in store (Operators.container_of v)
        (Operators.container_expected v) k)) (step : (v : Represented) (k l : Text) (ls : List Text)
        → Operators.attribute_residual store v k ≡ None → StopsWith (Operators.walk_in store (Operators.container_of v)
        (Operators.container_expected v) k l ls)) (read : (t : Term) → IsStored store t → (x : Answer) → G t x
        → (l : Text) (ls : List Text) → ReadStopsWith x l ls) where
      after_step : (z : Operators.Walk) (Next : Represented → Answer → Type 0) (a : Answer) → StopsWith z
          → ((v : Represented) → Next v a → C a) → Rules.AfterWalk G z Next a → C a
      after_step (Operators.walks_on v) Next a f g h = g v h
      after_step (Operators.stops b) Next a f g h = subst C (sym h) f

      after_stored : (x : Answer) (l : Text) (ls : List Text) (Next : Represented → Answer → Type 0) (a : Answer)
          → ReadStopsWith x l ls → ((v : Represented) → Next v a → C a) → Rules.AfterStored G x l ls Next a → C a
      after_stored (fails e) l ls Next a f g h = subst C (sym h) f
      after_stored (answers (value v)) l ls Next a f g h = g v h
      after_stored (answers (residual r)) l ls Next a f g h = subst C (sym h) f

      steps_on : (o : Option Term) (v : Represented) (k l : Text) (ls : List Text)
          (Next : Represented → Answer → Type 0) (a : Answer) → Operators.attribute_residual store v k ≡ o
          → ((u : Represented) → Next u a → C a)
          → Rules.WalksOn G o (Operators.walk_in store (Operators.container_of v)
          (Operators.container_expected v) k l ls)
          l ls Next a → C a
      steps_on None v k l ls Next a e g h = after_step _ Next a (step v k l ls e) g h
      steps_on (Some t) v k l ls Next a e g (x, j, h) =
          after_stored x l ls Next a (read t (attribute_is_stored store v k t e) x j l ls) g h

      pub walks : (ks : List Text) (v : Represented) (k : Text) (a : Answer) → Rules.Walks G store v k ks a → C a
      walks [] v k a h = subst C (sym h) (last v k)
      walks (l ∷ ls) v k a h =
          steps_on (Operators.attribute_residual store v k) v k l ls (λ u. Rules.Walks G store u l ls) a refl
          (λ u j. walks ls u l a j) h

-- ---- from what parts may answer to what others may

module _ (G H : Rules.MayAnswer) (store : Store) (more : (t : Term) → IsStored store t → (x : Answer) → G t x
    → H t x) where
  step_map : (z : Operators.Walk) (Next Next' : Represented → Answer → Type 0) (a : Answer) → ((v : Represented)
      → Next v a → Next' v a) → Rules.AfterWalk G z Next a → Rules.AfterWalk H z Next' a
  step_map (Operators.walks_on v) Next Next' a f h = f v h
  step_map (Operators.stops b) Next Next' a f h = h

  stored_map : (x : Answer) (l : Text) (ls : List Text) (Next Next' : Represented → Answer → Type 0) (a : Answer)
      → ((v : Represented) → Next v a → Next' v a) → Rules.AfterStored G x l ls Next a
      → Rules.AfterStored H x l ls Next' a
  stored_map (fails e) l ls Next Next' a f h = h
  stored_map (answers (value v)) l ls Next Next' a f h = f v h
  stored_map (answers (residual r)) l ls Next Next' a f h = h

  steps_map : (o : Option Term) (z : Operators.Walk) (l : Text) (ls : List Text)
      (Next Next' : Represented → Answer → Type 0) (a : Answer) → ((t : Term) → o ≡ Some t → IsStored store t)
      → ((v : Represented) → Next v a → Next' v a) → Rules.WalksOn G o z l ls Next a
      → Rules.WalksOn H o z l ls Next' a
  steps_map None z l ls Next Next' a i f h = step_map z Next Next' a f h
  steps_map (Some t) z l ls Next Next' a i f (x, g, h) =
      (x, more t (i t refl) x g, stored_map x l ls Next Next' a f h)

  walks_map : (ks : List Text) (v : Represented) (k : Text) (a : Answer) → Rules.Walks G store v k ks a
      → Rules.Walks H store v k ks a
  walks_map [] v k a h = h
  walks_map (l ∷ ls) v k a h =
      steps_map (Operators.attribute_residual store v k)
      (Operators.walk_in store (Operators.container_of v) (Operators.container_expected v) k l ls) l ls
      (λ u. Rules.Walks G store u l ls) (λ u. Rules.Walks H store u l ls) a
      (λ t e. attribute_is_stored store v k t e) (λ u j. walks_map ls u l a j) h
