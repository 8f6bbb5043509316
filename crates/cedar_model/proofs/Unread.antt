-- Look-ups in a concrete store that read no stored residual answer none.
use Rattle.std.specs.Prelude.{◌≡◌, Bool, true, false, List, [], ◌∷◌, Option, Some, None}
use Rattle.std.proofs.Common.{refl}
use Rattle.cedar_model.specs.Terms.{Text, EntityName, bool_literal, long_literal, text_literal, entity_literal}
use Rattle.cedar_model.specs.Terms.{Term}
use Rattle.cedar_model.specs.Values.{AbstractValue, Represented, plain_represented, set_represented}
use Rattle.cedar_model.specs.Values.{record_represented, extension_represented, abstract_value}
use Rattle.cedar_model.specs.Outcomes.{entity_of, text_of}
use Rattle.cedar_model.specs.Meaning.{entities_of}
use Rattle.cedar_model.specs.Failures.{Failure, PartialValue, value, residual, Answer, answers, fails}
use Rattle.cedar_model.specs.Settings.{StoredEntity, Setting, part_at, Found, found, not_there, not_known}
use Rattle.cedar_model.specs.Settings.{found_in, look_up}
use Rattle.cedar_model.specs.Operators
use Rattle.cedar_model.specs.Rules
use Rattle.cedar_model.proofs.Resolving as resolving
use Rattle.cedar_model.proofs.Resolving.{IsStored, attribute_is_stored, none_read}

abbrev pub IsNoResidual : Answer → Type 0
IsNoResidual (answers (value v)) = Unit {0}
IsNoResidual (answers (residual t)) = ⊥
IsNoResidual (fails e) = Unit {0}

expecting_values : {A : Type 0} (o : Option A) (e : Failure) (next : A → Answer) → ((x : A) → IsNoResidual (next x))
    → IsNoResidual (Operators.expecting o e next)
unfolding Operators.expecting
expecting_values None e next h = tt
expecting_values (Some x) e next h = h x

pub concrete_found : (o : Option StoredEntity) (b : Bool) → b ≡ false → found_in o b ≡ not_known → ⊥
unfolding found_in
concrete_found None true e h = absurd (cc)
concrete_found None false e h = cc
concrete_found (Some x) b e h = cc

value_or : (o : Option Represented) (e : Failure) → IsNoResidual (Operators.value_or_failure o e)
unfolding Operators.value_or_failure
value_or None e = tt
value_or (Some v) e = tt

stored_unread : (map : Text → Option Represented) (o : Option PartialValue) (e : Failure)
    → Operators.residual_in o ≡ None → IsNoResidual (Operators.stored_attribute map o e)
unfolding Operators.stored_attribute Operators.residual_in
stored_unread map None e h = tt
stored_unread map (Some (value v)) e h = tt
stored_unread map (Some (residual t)) e h = absurd (cc)

tag_unread : (o : Option PartialValue) (e : Failure) → Operators.residual_in o ≡ None
    → IsNoResidual (Operators.stored_tag o e)
unfolding Operators.stored_tag Operators.residual_in
tag_unread None e h = tt
tag_unread (Some (value v)) e h = tt
tag_unread (Some (residual t)) e h = absurd (cc)

module _ (s : Setting) (concrete : s.store.is_partial ≡ false) where
  not_unknown : (e : EntityName) → look_up s.store e ≡ not_known → ⊥
  not_unknown e h = concrete_found (s.store.entity e) s.store.is_partial concrete h

  attribute_found : (e : EntityName) (k : Text) (f : Found) → look_up s.store e ≡ f
      → Operators.attribute_residual_found f k ≡ None → IsNoResidual (Operators.attribute_found s.map f e k)
  unfolding Operators.attribute_found Operators.attribute_residual_found
  attribute_found e k not_known i h = absurd (not_unknown e i)
  attribute_found e k not_there i h = tt
  attribute_found e k (found x) i h = stored_unread s.map (part_at k x.attributes) _ h

  pub attribute_values : (v : Represented) (k : Text) → Operators.attribute_residual s.store v k ≡ None
      → IsNoResidual (Operators.attribute_answer s v k)
  unfolding Operators.container_of Operators.attribute_in Operators.attribute_residual_of entity_of
  attribute_values (plain_represented (bool_literal b)) k h = tt
  attribute_values (plain_represented (long_literal n)) k h = tt
  attribute_values (plain_represented (text_literal t)) k h = tt
  attribute_values (plain_represented (entity_literal e)) k h = attribute_found e k (look_up s.store e) refl h
  attribute_values (set_represented vs) k h = tt
  attribute_values (record_represented fs) k h = value_or (Operators.represented_at k fs) _
  attribute_values (extension_represented t j f ts) k h = tt

  tag_found : (e : EntityName) (k : Text) (f : Found) → look_up s.store e ≡ f
      → Operators.tag_residual_found f k ≡ None → IsNoResidual (Operators.tag_found f e k)
  unfolding Operators.tag_found Operators.tag_residual_found
  tag_found e k not_known i h = absurd (not_unknown e i)
  tag_found e k not_there i h = tt
  tag_found e k (found x) i h = tag_unread (part_at k x.tags) _ h

  tag_by : (o : Option EntityName) (p : Option Text) (e f : Failure) → Operators.tag_residual_of s.store o p ≡ None
      → IsNoResidual (Operators.expecting o e
      (λ d. Operators.expecting p f (Operators.tag_found (look_up s.store d) d)))
  unfolding Operators.tag_residual_of Operators.expecting
  tag_by None p e f h = tt
  tag_by (Some d) None e f h = tt
  tag_by (Some d) (Some k) e f h = tag_found d k (look_up s.store d) refl h

  -- a tag
  pub tag_values : (v w : AbstractValue) → Operators.tag_residual_of s.store (entity_of v) (text_of w) ≡ None
      → IsNoResidual (Operators.on_entity_and_text (λ e. Operators.tag_found (look_up s.store e) e) v w)
  tag_values v w h = tag_by (entity_of v) (text_of w) _ _ h

  has_tag_found : (e : EntityName) (k : Text) (f : Found) → look_up s.store e ≡ f
      → IsNoResidual (Operators.has_tag_found f e k)
  unfolding Operators.has_tag_found
  has_tag_found e k not_known i = absurd (not_unknown e i)
  has_tag_found e k not_there i = tt
  has_tag_found e k (found x) i = tt

  -- whether there is one
  pub has_tag_values : (v w : AbstractValue)
      → IsNoResidual (Operators.on_entity_and_text (λ e. Operators.has_tag_found (look_up s.store e) e) v w)
  has_tag_values v w =
      expecting_values (entity_of v) _ _ (λ e. expecting_values (text_of w) _ _
      (λ t. has_tag_found e t (look_up s.store e) refl))

  in_found : (e : EntityName) (w : Represented) (f : Found) → look_up s.store e ≡ f
      → IsNoResidual (Operators.in_found f e w)
  unfolding Operators.in_found
  in_found e w not_known i = absurd (not_unknown e i)
  in_found e w not_there i = expecting_values (entities_of (abstract_value w)) _ _ (λ es. tt)
  in_found e w (found x) i = expecting_values (entities_of (abstract_value w)) _ _ (λ es. tt)

  pub in_values : (v w : Represented) → IsNoResidual (Operators.in_answer s.store v w)
  in_values v w = expecting_values (entity_of (abstract_value v)) _ _ (λ e. in_found e w (look_up s.store e) refl)

  has_found : (e : EntityName) (k : Text) (f : Found) → look_up s.store e ≡ f
      → IsNoResidual (Operators.has_found f e k)
  unfolding Operators.has_found
  has_found e k not_known i = absurd (not_unknown e i)
  has_found e k not_there i = tt
  has_found e k (found x) i = tt

  pub has_values : (v : Represented) (k : Text) → IsNoResidual (Operators.has_answer s v k)
  unfolding Operators.container_of Operators.has_in
  has_values (plain_represented (bool_literal b)) k = tt
  has_values (plain_represented (long_literal n)) k = tt
  has_values (plain_represented (text_literal t)) k = tt
  has_values (plain_represented (entity_literal e)) k = has_found e k (look_up s.store e) refl
  has_values (set_represented vs) k = tt
  has_values (record_represented fs) k = tt
  has_values (extension_represented t j f ts) k = tt

  -- ---- extended `has`

  last_found : (e : EntityName) (k : Text) (f : Found) → look_up s.store e ≡ f
      → IsNoResidual (Operators.last_found f e k)
  unfolding Operators.last_found
  last_found e k not_known i = absurd (not_unknown e i)
  last_found e k not_there i = tt
  last_found e k (found x) i = tt

  last_values : (v : Represented) (k : Text)
      → IsNoResidual (Operators.last_in s.store (Operators.container_of v) (Operators.container_expected v) k)
  unfolding Operators.container_of Operators.last_in
  last_values (plain_represented (bool_literal b)) k = tt
  last_values (plain_represented (long_literal n)) k = tt
  last_values (plain_represented (text_literal t)) k = tt
  last_values (plain_represented (entity_literal e)) k = last_found e k (look_up s.store e) refl
  last_values (set_represented vs) k = tt
  last_values (record_represented fs) k = tt
  last_values (extension_represented t j f ts) k = tt

  module _ (G : Rules.MayAnswer) where
    step_to : (o : Option Represented) → resolving.StopsWith G IsNoResidual (Operators.walk_to o)
    unfolding Operators.walk_to
    step_to None = tt
    step_to (Some v) = tt

    step_stored : (o : Option PartialValue) (l : Text) (ls : List Text) → Operators.residual_in o ≡ None
        → resolving.StopsWith G IsNoResidual (Operators.walk_to_stored o l ls)
    unfolding Operators.walk_to_stored Operators.residual_in
    step_stored None l ls h = tt
    step_stored (Some (value v)) l ls h = tt
    step_stored (Some (residual t)) l ls h = absurd (cc)

    step_found : (e : EntityName) (k l : Text) (ls : List Text) (f : Found) → look_up s.store e ≡ f
        → Operators.attribute_residual_found f k ≡ None
        → resolving.StopsWith G IsNoResidual (Operators.walk_found f e k l ls)
    unfolding Operators.walk_found Operators.attribute_residual_found
    step_found e k l ls not_known i h = absurd (not_unknown e i)
    step_found e k l ls not_there i h = tt
    step_found e k l ls (found x) i h = step_stored (part_at k x.attributes) l ls h

    step_values : (v : Represented) (k l : Text) (ls : List Text) → Operators.attribute_residual s.store v k ≡ None
        → resolving.StopsWith G IsNoResidual (Operators.walk_in s.store (Operators.container_of v)
        (Operators.container_expected v) k l ls)
    unfolding Operators.container_of Operators.walk_in Operators.attribute_residual_of entity_of
    step_values (plain_represented (bool_literal b)) k l ls h = tt
    step_values (plain_represented (long_literal n)) k l ls h = tt
    step_values (plain_represented (text_literal t)) k l ls h = tt
    step_values (plain_represented (entity_literal e)) k l ls h = step_found e k l ls (look_up s.store e) refl h
    step_values (set_represented vs) k l ls h = tt
    step_values (record_represented fs) k l ls h = step_to (Operators.represented_at k fs)
    step_values (extension_represented t j f ts) k l ls h = tt

    goes_on : (x : Answer) (l : Text) (ls : List Text) → IsNoResidual x → resolving.ReadStopsWith G IsNoResidual x l ls
    goes_on (fails e) l ls h = tt
    goes_on (answers (value v)) l ls h = tt
    goes_on (answers (residual t)) l ls h = absurd h

    -- where what is read answers no residual
    pub walks_values : ((t : Term) → IsStored s.store t → (x : Answer) → G t x → IsNoResidual x)
        → (ks : List Text) (v : Represented) (k : Text) (a : Answer) → Rules.Walks G s.store v k ks a → IsNoResidual a
    walks_values read ks v k a h =
        resolving.walks G IsNoResidual s.store last_values step_values
        (λ t i x g l ls. goes_on x l ls (read t i x g)) ks v k a h

  -- where nothing is read at all
  after_step : (z : Operators.Walk) (next : Represented → Answer)
      → resolving.StopsWith (λ t a. ⊥) IsNoResidual z → ((v : Represented) → IsNoResidual (next v))
      → IsNoResidual (Operators.after_walk z next)
  unfolding Operators.after_walk
  after_step (Operators.walks_on v) next h f = f v
  after_step (Operators.stops a) next h f = h

  pub path_values : ((t : Term) → IsStored s.store t → ⊥) → (ks : List Text) (v : Represented) (k : Text)
      → IsNoResidual (Operators.path_answer s.store v k ks)
  unfolding Operators.path_answer
  path_values none [] v k = last_values v k
  path_values none (l ∷ ls) v k =
      after_step (Operators.walk_in s.store (Operators.container_of v) (Operators.container_expected v) k l ls) _
      (step_values (λ t a. ⊥) v k l ls (none_read (Operators.attribute_residual s.store v k)
      (λ t e. none t (attribute_is_stored s.store v k t e)))) (λ u. path_values none ls u l)
