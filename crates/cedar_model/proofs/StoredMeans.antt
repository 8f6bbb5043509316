-- A stored residual that is read means the attribute or the tag, in every world that agrees with the store.
use Rattle.std.specs.Prelude.{◌≡◌, true, false, cond, List, ◌∷◌, Option, Some, None, is_some}
use Rattle.std.proofs.Common.{refl, ap, ◌∙◌, subst}
use Rattle.cedar_model.specs.Terms.{Text, EntityName, bool_literal, long_literal, text_literal, entity_literal}
use Rattle.cedar_model.specs.Terms.{BinaryOperator, eq_operator, less_operator, less_eq_operator, add_operator}
use Rattle.cedar_model.specs.Terms.{sub_operator, mul_operator, in_operator, contains_operator, contains_all_operator}
use Rattle.cedar_model.specs.Terms.{contains_any_operator, get_tag_operator, has_tag_operator, Term}
use Rattle.cedar_model.specs.Values.{AbstractValue, plain, set_value, record_value, extension_value, Represented}
use Rattle.cedar_model.specs.Values.{abstract_value}
use Rattle.cedar_model.specs.Outcomes.{Outcome, gives, gives_bool, and_then, needing, bool_of, text_of, entity_of}
use Rattle.cedar_model.specs.Outcomes.{entity_attribute_does_not_exist}
use Rattle.cedar_model.specs.World.{WorldEntity, World, Functions}
use Rattle.cedar_model.specs.Meaning
use Rattle.cedar_model.specs.Failures.{Failure, PartialValue, value, residual, answers_bool, answers_value}
use Rattle.cedar_model.specs.Settings.{StoredEntity, Setting, part_at, Found, found, not_there, not_known}
use Rattle.cedar_model.specs.Settings.{look_up}
use Rattle.cedar_model.specs.Operators
use Rattle.cedar_model.specs.Agreement.{no_slots, AgreesAt, AgreesWithFound, AgreesWithStore}
use Rattle.cedar_model.proofs.Resolving.{residual_is}
use Rattle.cedar_model.proofs.Injections.{some_inj}

entity_is : (v : AbstractValue) (e : EntityName) → entity_of v ≡ Some e → v ≡ plain (entity_literal e)
unfolding entity_of
entity_is (plain (bool_literal b)) e h = absurd (cc)
entity_is (plain (long_literal n)) e h = absurd (cc)
entity_is (plain (text_literal t)) e h = absurd (cc)
entity_is (plain (entity_literal d)) e h = ap (λ x. plain (entity_literal x)) (some_inj h)
entity_is (set_value vs) e h = absurd (cc)
entity_is (record_value fs) e h = absurd (cc)
entity_is (extension_value t k) e h = absurd (cc)

-- where the attribute is there, an extended `has` goes on from it
pub path_goes_on : (w : World) (v u : AbstractValue) (k l : Text) (ls : List Text)
    → Meaning.has_meaning w v k ≡ gives_bool true → Meaning.attribute_meaning w v k ≡ gives u
    → Meaning.has_path w v k (l ∷ ls) ≡ and_then (gives u) (λ x. Meaning.has_path w x l ls)
unfolding Meaning.has_path and_then needing bool_of
path_goes_on w v u k l ls e h =
    ap (λ o. Meaning.and_then_bool o (λ b. cond b (and_then (Meaning.attribute_meaning w v k)
    (λ x. Meaning.has_path w x l ls)) (gives_bool false))) e
    ∙ ap (λ o. and_then o (λ x. Meaning.has_path w x l ls)) h

module _ (s : Setting) where
  walks_found : (f : Found) (e : EntityName) (k l : Text) (ls : List Text) (u : Represented)
      → Operators.walk_found f e k l ls ≡ Operators.walks_on u
      → (Operators.attribute_found s.map f e k ≡ answers_value u) × (Operators.has_found f e k ≡ answers_bool true)
  unfolding Operators.walk_found Operators.walk_to_stored Operators.attribute_found Operators.stored_attribute
      Operators.has_found
  walks_found not_known e k l ls u h = absurd (cc)
  walks_found not_there e k l ls u h = absurd (cc)
  walks_found (found x) e k l ls u h = by (part_at k x.attributes) refl h
    where
      walks_inj : (p q : Represented) → Operators.walks_on p ≡ Operators.walks_on q → p ≡ q
      walks_inj p q i = cc

      by : (o : Option PartialValue) → part_at k x.attributes ≡ o
          → Operators.walk_to_stored o l ls ≡ Operators.walks_on u
          → (Operators.stored_attribute s.map (part_at k x.attributes) (Operators.attribute_is_missing x e k)
          ≡ answers_value u) × (answers_bool (is_some (part_at k x.attributes)) ≡ answers_bool true)
      by None i j = absurd (cc)
      by (Some (value v)) i j = (
        ap (λ o. Operators.stored_attribute s.map o (Operators.attribute_is_missing x e k)) i
            ∙ ap answers_value (walks_inj v u j),
        ap (λ o. answers_bool (is_some o)) i,
      )
      by (Some (residual t)) i j = absurd (cc)

  walks_at : (o : Option Represented) (e : Failure) (u : Represented)
      → Operators.walk_to o ≡ Operators.walks_on u
      → (Operators.value_or_failure o e ≡ answers_value u) × (answers_bool (is_some o) ≡ answers_bool true)
  unfolding Operators.walk_to Operators.value_or_failure
  walks_at None e u h = absurd (cc)
  walks_at (Some v) e u h = (ap answers_value (walks_inj v u h), refl)
    where
      walks_inj : (p q : Represented) → Operators.walks_on p ≡ Operators.walks_on q → p ≡ q
      walks_inj p q i = cc

  -- a value that is walked on is the attribute
  pub walks_on_attribute : (c : Operators.Container) (e : Failure) (k l : Text) (ls : List Text) (u : Represented)
      → Operators.walk_in s.store c e k l ls ≡ Operators.walks_on u
      → (Operators.attribute_in s c e k ≡ answers_value u) × (Operators.has_in s.store c e k ≡ answers_bool true)
  unfolding Operators.walk_in Operators.attribute_in Operators.has_in
  walks_on_attribute (Operators.a_record fs) e k l ls u h = walks_at (Operators.represented_at k fs) _ u h
  walks_on_attribute (Operators.an_entity d) e k l ls u h = walks_found (look_up s.store d) d k l ls u h
  walks_on_attribute Operators.no_container e k l ls u h = absurd (cc)

module _ (ans : Functions) (w : World) (s : Setting) (agrees : AgreesWithStore s.extensions ans w s.store) where
  abbrev N : Term → Outcome
  N t = Meaning.meaning s.extensions ans w no_slots t

  -- what stands in the world where a residual is stored
  at_part : (o : Option PartialValue) (q : Option AbstractValue) (t : Term) → o ≡ Some (residual t)
      → AgreesAt s.extensions ans w o q → (u : AbstractValue) × (q ≡ Some u) × (N t ≡ gives u)
  at_part None q t e h = absurd (cc)
  at_part (Some p) None t e h = absurd h
  at_part (Some p) (Some u) t e h =
      (u, refl, subst (λ z. AgreesAt s.extensions ans w z (Some u)) e h)

  attribute_in : (d : EntityName) (x : StoredEntity) (o : Option WorldEntity) (k : Text) (t : Term)
      → AgreesWithFound s.extensions ans w d (found x) o → part_at k x.attributes ≡ Some (residual t)
      → (u : AbstractValue) × (N t ≡ gives u) × (Meaning.entity_attribute o k ≡ gives u)
      × (Meaning.entity_has o k ≡ true)
  unfolding Meaning.entity_attribute Meaning.entity_has Meaning.or_errs
  attribute_in d x None k t h e = absurd h
  attribute_in d x (Some y) k t h e =
      let z = at_part (part_at k x.attributes) (y.attribute k) t e (h.attributes_agree k) in
      (z.0, z.2, ap (Meaning.or_errs entity_attribute_does_not_exist) z.1, ap is_some z.1)

  tag_in : (d : EntityName) (x : StoredEntity) (o : Option WorldEntity) (k : Text) (t : Term)
      → AgreesWithFound s.extensions ans w d (found x) o → part_at k x.tags ≡ Some (residual t)
      → (u : AbstractValue) × (N t ≡ gives u) × (Meaning.tag_meaning o k ≡ gives u)
  unfolding Meaning.tag_meaning Meaning.or_errs
  tag_in d x None k t h e = absurd h
  tag_in d x (Some y) k t h e =
      let z = at_part (part_at k x.tags) (y.tag k) t e (h.tags_agree k) in
      (z.0, z.2, ap (Meaning.or_errs entity_attribute_does_not_exist) z.1)

  attribute_of : (v : AbstractValue) (d : EntityName) (k : Text) (t : Term) → v ≡ plain (entity_literal d)
      → Operators.attribute_residual_found (look_up s.store d) k ≡ Some t
      → (u : AbstractValue) × (N t ≡ gives u) × (Meaning.attribute_meaning w v k ≡ gives u)
      × (Meaning.has_meaning w v k ≡ gives_bool true)
  unfolding Operators.attribute_residual_found Meaning.attribute_meaning Meaning.has_meaning
  attribute_of v d k t e h = by (look_up s.store d) refl h
    where
      by : (f : Found) → look_up s.store d ≡ f → Operators.attribute_residual_found f k ≡ Some t
          → (u : AbstractValue) × (N t ≡ gives u) × (Meaning.attribute_meaning w v k ≡ gives u)
          × (Meaning.has_meaning w v k ≡ gives_bool true)
      by not_known i j = absurd (cc)
      by not_there i j = absurd (cc)
      by (found x) i j =
          let z = attribute_in d x (w.store d) k t
          (subst (λ f. AgreesWithFound s.extensions ans w d f (w.store d)) i (agrees d))
          (residual_is (part_at k x.attributes) t j) in (
            z.0,
            z.1,
            ap (λ y. Meaning.attribute_meaning w y k) e ∙ z.2,
            ap (λ y. Meaning.has_meaning w y k) e
                ∙ ap gives_bool z.3,
          )

  attribute_by : (v : AbstractValue) (o : Option EntityName) (k : Text) (t : Term) → entity_of v ≡ o
      → Operators.attribute_residual_of s.store o k ≡ Some t
      → (u : AbstractValue) × (N t ≡ gives u) × (Meaning.attribute_meaning w v k ≡ gives u)
      × (Meaning.has_meaning w v k ≡ gives_bool true)
  unfolding Operators.attribute_residual_of
  attribute_by v None k t e h = absurd (cc)
  attribute_by v (Some d) k t e h = attribute_of v d k t (entity_is v d e) h

  pub attribute_stored : (v : Represented) (k : Text) (t : Term) → Operators.attribute_residual s.store v k ≡ Some t
      → (u : AbstractValue) × (N t ≡ gives u) × (Meaning.attribute_meaning w (abstract_value v) k ≡ gives u)
      × (Meaning.has_meaning w (abstract_value v) k ≡ gives_bool true)
  attribute_stored v k t h = attribute_by (abstract_value v) (entity_of (abstract_value v)) k t refl h

  tag_by : (o : Option EntityName) (p : Option Text) (t : Term) → Operators.tag_residual_of s.store o p ≡ Some t
      → (u : AbstractValue) × (N t ≡ gives u)
      × (needing o (λ d. needing p (λ k. Meaning.tag_meaning (w.store d) k)) ≡ gives u)
  unfolding Operators.tag_residual_of Operators.tag_residual_found needing
  tag_by None p t h = absurd (cc)
  tag_by (Some d) None t h = absurd (cc)
  tag_by (Some d) (Some k) t h = by (look_up s.store d) refl h
    where
      by : (f : Found) → look_up s.store d ≡ f → Operators.tag_residual_found f k ≡ Some t
          → (u : AbstractValue) × (N t ≡ gives u) × (Meaning.tag_meaning (w.store d) k ≡ gives u)
      by not_known i j = absurd (cc)
      by not_there i j = absurd (cc)
      by (found x) i j =
          tag_in d x (w.store d) k t (subst (λ f. AgreesWithFound s.extensions ans w d f (w.store d)) i (agrees d))
          (residual_is (part_at k x.tags) t j)

  pub binary_stored : (op : BinaryOperator) (v v' : Represented) (t : Term)
      → Operators.binary_residual s.store op v v' ≡ Some t
      → (u : AbstractValue) × (N t ≡ gives u)
      × (Meaning.binary_meaning s.extensions w op (abstract_value v) (abstract_value v') ≡ gives u)
  unfolding Operators.binary_residual Meaning.binary_meaning
  binary_stored eq_operator v v' t h = absurd (cc)
  binary_stored less_operator v v' t h = absurd (cc)
  binary_stored less_eq_operator v v' t h = absurd (cc)
  binary_stored add_operator v v' t h = absurd (cc)
  binary_stored sub_operator v v' t h = absurd (cc)
  binary_stored mul_operator v v' t h = absurd (cc)
  binary_stored in_operator v v' t h = absurd (cc)
  binary_stored contains_operator v v' t h = absurd (cc)
  binary_stored contains_all_operator v v' t h = absurd (cc)
  binary_stored contains_any_operator v v' t h = absurd (cc)
  binary_stored get_tag_operator v v' t h =
      tag_by (entity_of (abstract_value v)) (text_of (abstract_value v')) t h
  binary_stored has_tag_operator v v' t h = absurd (cc)
