-- What follows of entities that are looked up.
use Rattle.std.specs.Prelude.{◌≡◌, ◌||◌, Bool, true, false, Option, Some, None, IfSome, is_some, Result, Ok, Err, IfOk}
use Rattle.std.proofs.Common.{refl, sym, ap, ◌∙◌}
use Rattle.std.specs.declared.alloc.AllocError.{AllocError}
use Rattle.cedar_model.specs.Terms.{Text, EntityName, entity_literal, Variable, principal, action, resource, context}
use Rattle.cedar_model.specs.Values.{Represented, plain_represented, set_represented, record_represented, extension_represented, abstract_value}
use Rattle.cedar_model.specs.Terms.{bool_literal, long_literal, text_literal}
use Rattle.cedar_model.specs.Outcomes.{entity_of, entity_eq}
use Rattle.cedar_model.specs.Failures.{PartialValue, value, residual, answers_value, answers_bool}
use Rattle.cedar_model.specs.Settings.{Setting, Store, StoredEntity, look_up, is_among, part_at, Found, found, not_there, not_known}
use Rattle.cedar_model.specs.Operators.{attribute_answer, attribute_in, attribute_found, stored_attribute, attribute_is_missing, has_answer, has_in, has_found, container_of}
use Rattle.cedar_values.specs.Residuals.{partial_view}
use Rattle.cedar_values.specs.Sound.{Placed}
use Rattle.cedar_layers.specs.Stores.{store_view}
use Rattle.cedar_interpreter.specs.declared.at_hand.Known.{Known}
use Rattle.cedar_interpreter.specs.declared.at_hand.Known.TheVariants.{Stored, Lacking, Nothing}
use Rattle.cedar_interpreter.specs.declared.evaluation.Given.{Given}
use Rattle.cedar_interpreter.specs.Known.{within, known_view, known_for, found_of, entity_of_part, IsKnownOf}
use Rattle.cedar_interpreter.specs.Settings.{given_for}

-- a value that is an entity
pub entity_is : (v : Represented) (d : EntityName) → entity_of (abstract_value v) ≡ Some d → v ≡ plain_represented (entity_literal d)
unfolding entity_of
entity_is (plain_represented (bool_literal b)) d h = absurd (cc)
entity_is (plain_represented (long_literal n)) d h = absurd (cc)
entity_is (plain_represented (text_literal t)) d h = absurd (cc)
entity_is (plain_represented (entity_literal e)) d h = cc
entity_is (set_represented vs) d h = absurd (cc)
entity_is (record_represented fs) d h = absurd (cc)
entity_is (extension_represented t k f ts) d h = absurd (cc)

-- a part that is this entity
part_is : (p : PartialValue) (d : EntityName) → entity_of_part p ≡ Some d → p ≡ value (plain_represented (entity_literal d))
part_is (value v) d h = ap value (entity_is v d h)
part_is (residual t) d h = absurd (cc)

of_part : (p : PartialValue) (d : EntityName) → p ≡ value (plain_represented (entity_literal d)) → entity_of_part p ≡ Some d
unfolding entity_of
of_part p d is = ap entity_of_part is

module _ (s : Store) (p : PartialValue) where
  found_here : (d : EntityName) → p ≡ value (plain_represented (entity_literal d)) → found_of s (entity_of_part p) ≡ look_up s d
  unfolding found_of
  found_here d is = ap (found_of s) (of_part p d is)

  -- what the store answers of the entity that this is
  pub looked_up : (d : EntityName) (k : Known) → p ≡ value (plain_represented (entity_literal d)) → known_view k ≡ look_up s d →
      IsKnownOf s p k
  looked_up d (Stored x) is same = found_here d is ∙ sym same
  looked_up d Lacking is same = found_here d is ∙ sym same
  looked_up d Nothing is same = tt

  pub looked_up_if : (d : EntityName) (r : Result Known AllocError) → p ≡ value (plain_represented (entity_literal d)) →
      IfOk r (λ k. known_view k ≡ look_up s d) → IfOk r (IsKnownOf s p)
  looked_up_if d (Ok k) is same = looked_up d k is same
  looked_up_if d (Err e) is same = tt

  -- so the entity is in another in the store, where it is so in what is known of it
  pub known_within : (k : Known) (d e : EntityName) (b : Bool) → IsKnownOf s p k → p ≡ value (plain_represented (entity_literal d)) →
      within (known_view k) d e ≡ Some b → within (look_up s d) d e ≡ Some b
  unfolding within
  known_within (Stored x) d e b known is h = ap (λ f. within f d e) (sym (found_here d is) ∙ known) ∙ h
  known_within Lacking d e b known is h = ap (λ f. within f d e) (sym (found_here d is) ∙ known) ∙ h
  known_within Nothing d e b known is h = absurd (cc)

  -- of a known entity there is one
  pub record IsFound (f : Found) : Type 0 where
    pub name : EntityName
    pub part : p ≡ value (plain_represented (entity_literal name))
    pub stored : look_up s name ≡ f

  named : (f : Found) (o : Option EntityName) → entity_of_part p ≡ o → found_of s o ≡ f → (f ≡ not_known → ⊥) → IsFound f
  unfolding found_of
  named f (Some d) is same some = record { name = d; part = part_is p d is; stored = same }
  named f None is same some = absurd (some (sym same))

  pub found_entity : (k : Known) (x : StoredEntity) → IsKnownOf s p k → known_view k ≡ found x → IsFound (found x)
  found_entity (Stored y) x known is = named (found x) (entity_of_part p) refl (known ∙ is) (λ h. cc)
  found_entity Lacking x known is = absurd (cc)
  found_entity Nothing x known is = absurd (cc)

  pub lacking_entity : (k : Known) → IsKnownOf s p k → known_view k ≡ not_there → IsFound not_there
  lacking_entity (Stored y) known is = absurd (cc)
  lacking_entity Lacking known is = named not_there (entity_of_part p) refl known (λ h. cc)
  lacking_entity Nothing known is = absurd (cc)

-- ---- what is read of what is known

module _ (s : Setting) (p : PartialValue) (k : Text) where
  -- a value that an attribute is stored as
  pub stored_answer : (x : StoredEntity) (f : IsFound s.store p (found x)) (v : Represented) → part_at k x.attributes ≡ Some (value v) →
      answers_value v ≡ attribute_answer s (plain_represented (entity_literal f.name)) k
  unfolding attribute_in attribute_found stored_attribute container_of
  stored_answer x f v is =
      sym (ap (λ z. attribute_found s.map z f.name k) f.stored ∙ ap (λ o. stored_attribute s.map o (attribute_is_missing x f.name k)) is)

  -- whether it is stored
  pub has_stored : (x : StoredEntity) (f : IsFound s.store p (found x)) (b : Bool) → b ≡ is_some (part_at k x.attributes) →
      answers_bool b ≡ has_answer s (plain_represented (entity_literal f.name)) k
  unfolding has_in has_found container_of
  has_stored x f b is = ap answers_bool is ∙ sym (ap (λ z. has_found z f.name k) f.stored)

  pub has_none : (f : IsFound s.store p not_there) → answers_bool false ≡ has_answer s (plain_represented (entity_literal f.name)) k
  unfolding has_in has_found container_of
  has_none f = sym (ap (λ z. has_found z f.name k) f.stored)

-- the part that is stored is a value
pub stored_as : (o : Option Placed) (q : PartialValue) (r : Option PartialValue) → IfSome o (λ v. q ≡ value v.what) → Some q ≡ r →
    IfSome o (λ v. r ≡ Some (value v.what))
stored_as None q r is at = tt
stored_as (Some v) q r is at = sym at ∙ ap Some is

-- what is known of each variable
pub known_of_variable : {X : Type 0} {F : X → Type 0} {g : _} (e : Given X F g) (v : Variable) →
    IsKnownOf (store_view e.entities.now) (partial_view (given_for e v)) (known_for e.known v)
known_of_variable e principal = e.principal_known
known_of_variable e action = e.action_known
known_of_variable e resource = e.resource_known
known_of_variable e context = tt

-- ---- what is answered of what is known

module _ (d e : EntityName) where
  pub within_itself : (x : StoredEntity) (b : Bool) → b ≡ true → b ≡ entity_eq d e → Some b ≡ within (found x) d e
  unfolding within
  within_itself x b same is = ap Some (same ∙ ap (λ z. z || is_among e x.ancestors) (sym same ∙ is))

  pub within_ancestors : (x : StoredEntity) (b r : Bool) → b ≡ false → b ≡ entity_eq d e → r ≡ is_among e x.ancestors →
      Some r ≡ within (found x) d e
  unfolding within
  within_ancestors x b r other is that = ap Some (that ∙ ap (λ z. z || is_among e x.ancestors) (sym other ∙ is))

  pub within_lacking : (b : Bool) → b ≡ entity_eq d e → Some b ≡ within not_there d e
  unfolding within
  within_lacking b is = ap Some is

  pub within_nothing : None ≡ within not_known d e
  unfolding within
  within_nothing = refl
