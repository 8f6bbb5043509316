-- The own world agrees with a request and a store in which nothing is unknown.
use Rattle.std.specs.Prelude.{◌≡◌, Bool, true, false, Option, Some, None}
use Rattle.std.proofs.Common.{refl, ap}
use Rattle.cedar_model.specs.Terms.{Text, EntityName}
use Rattle.cedar_model.specs.Values.{AbstractValue}
use Rattle.cedar_model.specs.World.{World, Functions}
use Rattle.cedar_model.specs.Failures.{PartialValue, value, residual}
use Rattle.cedar_model.specs.Settings.{Entry, known_entry, unknown_entry, ContextPart, absent_context, known_context}
use Rattle.cedar_model.specs.Settings.{residual_context, StoredEntity, Setting, part_at, found_in}
use Rattle.cedar_model.specs.Agreement

module _ (ans : Functions) (s : Setting) (sigma : Text → AbstractValue) (known : Agreement.HasNothingUnknown s) where
  abbrev w : World
  w = Agreement.own_world s sigma

  entry : (name : Text) (e : Entry) → Agreement.IsKnownEntry e
      → Agreement.AgreesWithEntry w name (Agreement.entity_of_entry e) e
  unfolding Agreement.entity_of_entry
  entry name (known_entry d) k = refl
  entry name (unknown_entry t) k = absurd k

  context : (c : ContextPart) → c ≡ s.request.context_part → Agreement.IsKnownContext c
      → Agreement.AgreesWithContext s.extensions ans w c
  unfolding Agreement.fields_of_context
  context absent_context e k = absurd k
  context (known_context fs) e k = ap Agreement.fields_of_context e
  context (residual_context fs) e k = absurd k

  part : (o : Option PartialValue) → ((p : PartialValue) → o ≡ Some p → Agreement.IsValue p)
      → Agreement.AgreesAt s.extensions ans w o (Agreement.value_of_part o)
  unfolding Agreement.value_of_part
  part None h = tt
  part (Some (value v)) h = refl
  part (Some (residual t)) h = absurd (h (residual t) refl)

  entity : (d : EntityName) (o : Option StoredEntity) (b : Bool) → s.store.entity d ≡ o → b ≡ false
      → Agreement.AgreesWithFound s.extensions ans w d (found_in o b) (Agreement.world_entity o)
  unfolding found_in Agreement.world_entity
  entity d None true e f = absurd (cc)
  entity d None false e f = refl
  entity d (Some x) b e f = record {
    ancestors_agree = λ c. refl;
    attributes_agree = λ k. part (part_at k x.attributes) (λ p h. (known.store_known d x k p e).0 h);
    tags_agree = λ k. part (part_at k x.tags) (λ p h. (known.store_known d x k p e).1 h);
  }

  pub own_request : Agreement.AgreesWithRequest s.extensions ans w s.request
  own_request = record {
    principal_agrees = entry _ s.request.principal_entry known.principal_known;
    action_agrees = entry _ s.request.action_entry known.action_known;
    resource_agrees = entry _ s.request.resource_entry known.resource_known;
    context_agrees = context s.request.context_part refl known.context_known;
  }

  pub own_store : Agreement.AgreesWithStore s.extensions ans w s.store
  own_store d = entity d (s.store.entity d) s.store.is_partial refl known.store_concrete
