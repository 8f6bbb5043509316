-- Nothing is unknown in what the engine decides: not in its own store, nor in properties, nor in entities that are
-- brought.
use Rattle.std.proofs.Common.{◌≡◌, Bool, true, false, true≢false, cond, if◌then◌else◌, List, [], ◌∷◌, Option, None, Some, refl, sym, ap, ◌∙◌, subst, codes, Global}
use Rattle.std.proofs.Common.{Ordering, Less, Equal, Greater}
use Rattle.std.specs.Prelude.{option_map, IsSomeAnd}
use Rattle.std.specs.BTreeMap.{BTreeMap}
use Rattle.std.specs.Cmp.Lexicographic.{slice_cmp}
use Rattle.std.specs.Ordering.{nat_cmp, match_ordering}
use Rattle.std.specs.declared.rc.RcStr.{RcStr}
use Rattle.json.specs.Find.{get}
use Rattle.json.specs.Json.{Json, document}
use Rattle.json.specs.Strict.{HasUniqueKeys}
use Rattle.cedar_model.specs.Terms.{Text, EntityName}
use Rattle.cedar_model.specs.World as world
use Rattle.cedar_model.specs.Rules.{StoredCalls}
use Rattle.cedar_model.specs.Outcomes.{text_eq, entity_eq}
use Rattle.cedar_model.specs.Failures.{PartialValue}
use Rattle.cedar_model.specs.Settings.{StoredEntity, Store, part_at, ContextPart, absent_context, known_context, residual_context, RequestPart}
use Rattle.cedar_model.specs.Agreement.{IsValue, EachStored, IsKnownContext, IsKnownEntry, HasNothingUnknown}
use Rattle.cedar_model.proofs.Injections.{none_is_not_some, some_inj}
use Rattle.cedar_values.specs.Sound.{Placed}
use Rattle.cedar_layers.specs.declared.policies.entities.Entities.{Entities}
use Rattle.cedar_layers.specs.declared.policies.entities.Entity.{Entity}
use Rattle.cedar_layers.specs.Parts.{parts_view, values_as_parts}
use Rattle.cedar_layers.specs.Stores.{entity_name, entity_view, facts_of_values, with_entity, with_entities, store_view, stored_entity, none_stands, last_of_each_name}
use Rattle.cedar_requests.specs.declared.request.Request.{Request}
use Rattle.cedar_requests.specs.Requests.{request_view, request_parts}
use Rattle.cedar_json_reader.specs.Held.{FactsAre}
use Rattle.cedar_json_reader.specs.NothingUnknown.{AreKnownEntities, IsKnownRequest}
use Rattle.cedar_json_reader.specs.SaidRequests.{IsRequestOf}
use Rattle.cedar_json_reader.proofs.UnknownLemmas.{known_entry_of_text}
use Rattle.cedar_faithful.proofs.Stored.{StandsSuch, standing_such, alike_such, facts_such}
use Rattle.cedar_overlay.specs.Added.{IsAddedTo}
use Rattle.cedar_overlay.specs.Overlaid.{Parts, Brought, put_at, put_each, brought_for, values_view, with_parts, overlaid_entity, overlaid}
use Rattle.cedar_endpoints.specs.Asked.{Evaluation}
use Rattle.cedar_search.specs.declared.searches.Part.{Part}
use Rattle.cedar_search.specs.declared.searches.Part.TheVariants as parts
use Rattle.cedar_search.specs.Found.{HasNothingElseUnknown}
use Rattle.cedar_service.specs.declared.engine.Engine.{Engine}
use Rattle.cedar_service.specs.Levels.{levels}
use Rattle.cedar_service.specs.Ways.{Ways, wins}
use Rattle.cedar_service.specs.declared.ways.RequestProperties.{RequestProperties}
use Rattle.cedar_endpoints.specs.declared.bounds.Bounds.{Bounds}
use Rattle.cedar_service.specs.declared.ways.RequestEntities.{RequestEntities}
use Rattle.cedar_service.specs.declared.ways.RequestEntities.TheVariants as allowances
use Rattle.cedar_service.specs.declared.ways.RequestProperties.TheVariants as claims
use Rattle.cedar_service.specs.Engines.{entities_of}
use Rattle.cedar_service.specs.Standard.{standard_extensions, standard_calls}
use Rattle.cedar_service.specs.Asked.{is_known_part, has_known_context}
use Rattle.cedar_service.specs.Brought.{AreBrought, IsBroughtFor, IsBroughtBy, IsOver, HasAdded}
use Rattle.cedar_service.specs.Decided.{setting_of}
use Rattle.cedar_service.specs.Properties.{Attributes, HasOneMore, IsLaidOver, beside, alone, is_empty, AreLaidUnless, IsWithProperties, IsAskedOver}
use Rattle.cedar_service.specs.Searched.{opened, question_of}
use Rattle.cedar_service.specs.Started.{IsStoreFor, with_properties, with_entities as with_brought, IsRequestFor, of_evaluation, of_text}

-- ---- parts

abbrev Known : Parts → Text → Type 0
Known qs k = (y : PartialValue) → part_at k qs ≡ Some y → IsValue y

here_or : (b : Bool) (p x : PartialValue) (o : Option PartialValue) → IsValue p → (o ≡ Some x → IsValue x)
    → cond b (Some p) o ≡ Some x → IsValue x
here_or true p x o h next e = subst IsValue (some_inj e) h
here_or false p x o h next e = next e

same_place : (b : Bool) (p q x : PartialValue) (o : Option PartialValue) → IsValue p
    → ((y : PartialValue) → cond b (Some q) o ≡ Some y → IsValue y) → cond b (Some p) o ≡ Some x → IsValue x
same_place true p q x o h known e = subst IsValue (some_inj e) h
same_place false p q x o h known e = known x e

later : (b : Bool) (q x : PartialValue) (o n : Option PartialValue)
    → ((y : PartialValue) → cond b (Some q) o ≡ Some y → IsValue y)
    → (((y : PartialValue) → o ≡ Some y → IsValue y) → n ≡ Some x → IsValue x) → cond b (Some q) n ≡ Some x → IsValue x
later true q x o n known next e = known x e
later false q x o n known next e = next known e

ordered : (c : Ordering) (j k : Text) (p x : PartialValue) (q : Text × PartialValue) (qs more : Parts) → IsValue p
    → Known (q ∷ qs) k → (Known qs k → part_at k more ≡ Some x → IsValue x)
    → part_at k (match_ordering c ((j, p) ∷ q ∷ qs) ((q.0, p) ∷ qs) (q ∷ more)) ≡ Some x → IsValue x
unfolding part_at
ordered Less j k p x q qs more h known next e = here_or (text_eq k j) p x (part_at k (q ∷ qs)) h (known x) e
ordered Equal j k p x q qs more h known next e = same_place (text_eq k q.0) p q.1 x (part_at k qs) h known e
ordered Greater j k p x q qs more h known next e = later (text_eq k q.0) q.1 x (part_at k qs) (part_at k more) known next e

put_known : (j k : Text) (p x : PartialValue) (qs : Parts) → IsValue p → Known qs k → part_at k (put_at j p qs) ≡ Some x
    → IsValue x
unfolding part_at
put_known j k p x [] h known e = here_or (text_eq k j) p x None h (λ m. absurd (none_is_not_some m)) e
put_known j k p x (q ∷ qs) h known e =
    ordered (slice_cmp nat_cmp j q.0) j k p x q qs (put_at j p qs) h known (λ less. put_known j k p x qs h less) e

-- each of these parts is a value
abbrev AreValues : Parts → Type 0
AreValues [] = Unit {0}
AreValues (p ∷ ps) = IsValue p.1 × AreValues ps

each_known : (k : Text) (ps qs : Parts) → AreValues ps → Known qs k → Known (put_each ps qs) k
each_known k [] qs all known = known
each_known k (p ∷ ps) qs all known =
    each_known k ps (put_at p.0 p.1 qs) all.1 (λ y. put_known p.0 k p.1 y qs all.0 known)

values_known : (es : List (RcStr Global × Placed)) → AreValues (parts_view (values_as_parts es))
values_known [] = tt
values_known (e ∷ es) = (tt, values_known es)

under_name : (k : Text) (ps : Parts) → AreValues ps → Known ps k
unfolding part_at
under_name k [] all y e = absurd (none_is_not_some e)
under_name k (p ∷ ps) all y e = here_or (text_eq k p.0) p.1 y (part_at k ps) all.0 (under_name k ps all.1 y) e

-- ---- properties

with_known : (ps : Parts) (d : StoredEntity) → AreValues ps → FactsAre IsValue d → FactsAre IsValue (with_parts ps d)
with_known ps d all h k p = (each_known k ps d.attributes all (λ y. (h k y).0) p, (h k p).1)

over_known : (o : Option (BTreeMap (RcStr Global) Placed)) (d : Option StoredEntity) (x : StoredEntity)
    → ((y : StoredEntity) → d ≡ Some y → FactsAre IsValue y) → overlaid_entity o d ≡ Some x → FactsAre IsValue x
over_known None d x h e = h x e
over_known (Some m) None x h e = absurd (none_is_not_some e)
over_known (Some m) (Some y) x h e =
    subst (FactsAre IsValue) (some_inj e) (with_known (values_view m) y (values_known m.entries) (h y refl))

overlaid_known : (s : Store) (gs : Brought) → EachStored IsValue s → EachStored IsValue (overlaid s gs)
overlaid_known s gs h n x k p at = over_known (brought_for gs n) (s.entity n) x (λ y is j q. h n y j q is) at k p

-- a store in which nothing is unknown
pub record IsKnown (s : Entities) : Type 0 where
  pub known : EachStored IsValue (store_view s)
  pub whole : (store_view s).is_partial ≡ false

one_known : (b : Bool) (y : StoredEntity) (o : Option StoredEntity) (x : StoredEntity) → FactsAre IsValue y
    → (o ≡ Some x → FactsAre IsValue x) → (if b then Some y else o) ≡ Some x → FactsAre IsValue x
one_known true y o x h next e = subst (FactsAre IsValue) (some_inj e) h
one_known false y o x h next e = next e

facts_known : (m : Attributes) → FactsAre IsValue (facts_of_values m.entries [] [])
facts_known m k p = (
  λ at. under_name k (parts_view (values_as_parts m.entries)) (values_known m.entries) p at,
  λ at. under_name k [] tt p at,
)

laid_known : (wins : Bool) (s : Entities) (n : EntityName) (m : Attributes) (made : Entities) → IsLaidOver wins s n m made
    → IsKnown s → IsKnown made
laid_known wins s n m made (beside u named free is) h = record {
  known = subst (λ (t : Store). EachStored IsValue t) (sym is) (overlaid_known (store_view s) ((u, m) ∷ []) h.known);
  whole = ap (λ (t : Store). t.is_partial) is ∙ h.whole;
}
laid_known wins s n m made (alone free more) h =
    let facts : FactsAre IsValue (entity_view more.entity) = subst (FactsAre IsValue) (sym more.facts) (facts_known m) in record {
      known = λ e x k p at.
          one_known (entity_eq e (entity_name more.entity)) (entity_view more.entity) ((store_view s).entity e) x facts
          (λ is j q. h.known e x j q is) (sym (ap (λ (held : EntityName → Option StoredEntity). held e) more.held) ∙ at) k p;
      whole = more.partial ∙ h.whole;
    }

unless_known : (b : Bool) (c : RequestProperties) (s : Entities) (Is : EntityName → Type 0) (j : Json) (made : Entities)
    → AreLaidUnless b standard_extensions standard_calls c s Is j made → IsKnown s → IsKnown made
unless_known true c s Is j made is h = subst IsKnown (sym is) h
unless_known false c s Is j made (n, named, (m, are, taken, laid)) h = laid_known (wins c) s n m made laid h

properties_known : (c : RequestProperties) (s : Entities) (Is : EntityName → Type 0) (o : Option Json) (made : Entities)
    → IsWithProperties standard_extensions standard_calls c s Is o made → IsKnown s → IsKnown made
properties_known c s Is None made is h = subst IsKnown (sym is) h
properties_known c s Is (Some j) made is h = unless_known (is_empty j) c s Is j made is h

asked_known : (w : Ways) (s : Entities) (q : Evaluation) (made : Entities)
    → IsAskedOver standard_extensions standard_calls w s q made → IsKnown s → IsKnown made
asked_known w s q made is h =
    properties_known w.properties is.others.with_action _ q.properties.resource made is.others.resource
    (properties_known w.properties is.with_subject _ q.properties.action is.others.with_action is.others.action
    (properties_known w.properties s _ q.properties.subject is.with_subject is.subject h))

-- of no entity

unless_untouched : (b : Bool) (s : Entities) (Is : EntityName → Type 0) (j : Json) (made : Entities)
    → AreLaidUnless b standard_extensions standard_calls claims.None s Is j made → made ≡ s
unless_untouched true s Is j made is = is
unless_untouched false s Is j made (n, named, (m, are, taken, laid)) = absurd (true≢false (sym taken))

none_laid : (c : RequestProperties) (s : Entities) (Is : EntityName → Type 0) (o : Option Json) (made : Entities)
    → c ≡ claims.None → IsWithProperties standard_extensions standard_calls c s Is o made → made ≡ s
none_laid c s Is None made none is = is
none_laid c s Is (Some j) made none is =
    unless_untouched (is_empty j) s Is j made
    (subst (λ (d : RequestProperties). AreLaidUnless (is_empty j) standard_extensions standard_calls d s Is j made) none is)

pub asked_untouched : (w : Ways) (s : Entities) (q : Evaluation) (made : Entities) → w.properties ≡ claims.None
    → IsAskedOver standard_extensions standard_calls w s q made → made ≡ s
asked_untouched w s q made none is =
    none_laid w.properties is.others.with_action _ q.properties.resource made none is.others.resource
    ∙ none_laid w.properties is.with_subject _ q.properties.action is.others.with_action none is.others.action
    ∙ none_laid w.properties s _ q.properties.subject is.with_subject none is.subject

-- ---- entities that are brought

added_known : (o b made : Option Entity) → IsAddedTo o b made → StandsSuch IsValue o → StandsSuch IsValue b
    → StandsSuch IsValue made
added_known o None made is h k = subst (StandsSuch IsValue) (sym is) h
added_known o (Some e) made is h k = alike_such IsValue (Some e) made is k

-- what stands under a name
stands_known : (o : Option Entity) → ((x : StoredEntity) → option_map entity_view o ≡ Some x → FactsAre IsValue x)
    → StandsSuch IsValue o
stands_known None h = tt
stands_known (Some e) h = h (entity_view e) refl

has_known : (s : Entities) (es : List Entity) (made : Entities) → HasAdded s es made → AreKnownEntities es → IsKnown s
    → IsKnown made
has_known s es made added known h = record {
  known = λ n x k p at.
      facts_such IsValue (stored_entity made n) x
      (added_known (stored_entity s n) (last_of_each_name es n) (stored_entity made n) (added.entities n)
      (stands_known (stored_entity s n) (λ y is j q. h.known n y j q is))
      (standing_such IsValue none_stands es (λ m. tt) known n)) at k p;
  whole = added.partial ∙ h.whole;
}

brought_over_known : (s : Entities) (es : List Entity) (made : Entities) → IsOver s es made → AreKnownEntities es
    → IsKnown s → IsKnown made
brought_over_known s [] made is known h = subst IsKnown (sym is) h
brought_over_known s (e ∷ es) made is known h = has_known s (e ∷ es) made is known h

are_known : (o : Option Json) (es : List Entity) → AreBrought standard_extensions standard_calls o es → AreKnownEntities es
are_known None es is = subst AreKnownEntities (sym is) tt
are_known (Some j) es is = is.1

brought_for_known : (c : RequestEntities) (b : Bounds) (s : Entities) (o : Option Json) (made : Entities)
    → IsBroughtFor c b standard_extensions standard_calls s o made → IsKnown s → IsKnown made
brought_for_known allowances.None b s o made is h = subst IsKnown (sym is.1) h
brought_for_known allowances.Allowed b s o made (fit, (es, are, over)) h =
    brought_over_known s es made over (are_known o es are) h

brought_known : (w : Ways) (s : Entities) (text : Text) (made : Entities)
    → IsBroughtBy standard_extensions standard_calls w s text made → IsKnown s → IsKnown made
brought_known w s text made is h = in_document (document text) is where
  in_document : (o : Option Json)
      → IsSomeAnd o (λ j. HasUniqueKeys j
      × IsBroughtFor w.entities w.bounds standard_extensions standard_calls s (get (codes "entities") j) made)
      → IsKnown made
  in_document None is = absurd is
  in_document (Some j) (unique, is) =
      brought_for_known w.entities w.bounds s (get (codes "entities") j) made is h

-- where none may be

none_for : (c : RequestEntities) (b : Bounds) (s : Entities) (o : Option Json) (made : Entities) → c ≡ allowances.None
    → IsBroughtFor c b standard_extensions standard_calls s o made → made ≡ s
none_for allowances.None b s o made none is = is.1
none_for allowances.Allowed b s o made none is = absurd (cc)

pub brought_alone : (w : Ways) (s : Entities) (text : Text) (made : Entities) → w.entities ≡ allowances.None
    → IsBroughtBy standard_extensions standard_calls w s text made → made ≡ s
brought_alone w s text made none is = in_document (document text) is where
  in_document : (o : Option Json)
      → IsSomeAnd o (λ j. HasUniqueKeys j
      × IsBroughtFor w.entities w.bounds standard_extensions standard_calls s (get (codes "entities") j) made)
      → made ≡ s
  in_document None is = absurd is
  in_document (Some j) (unique, is) = none_for w.entities w.bounds s (get (codes "entities") j) made none is

-- ---- the whole

pub store_known : (e : Engine) (s : Entities) → IsStoreFor e s → IsKnown (entities_of e) → IsKnown s
store_known e s (with_properties w q is) h = asked_known w (entities_of e) q s is h
store_known e s (with_brought w text is) h = brought_known w (entities_of e) text s is h

known_part : (c : ContextPart) → is_known_part c ≡ true → IsKnownContext c
known_part absent_context h = absurd (true≢false (sym h))
known_part (known_context fs) h = tt
known_part (residual_context fs) h = absurd (true≢false (sym h))

pub request_known : (r : Request) → IsRequestFor r → has_known_context r ≡ true → IsKnownRequest (request_view r)
request_known r (of_evaluation ty q is) h = record {
  principal = subst (λ (p : RequestPart). IsKnownEntry p.principal_entry) (sym is.request_is) tt;
  action = subst (λ (p : RequestPart). IsKnownEntry p.action_entry) (sym is.request_is) tt;
  resource = subst (λ (p : RequestPart). IsKnownEntry p.resource_entry) (sym is.request_is) tt;
  context = known_part (request_view r).context_part h;
}
request_known r (of_text text (t, is, said)) h = record {
  principal = known_entry_of_text (codes "principal") (λ j. IsRequestOf standard_extensions standard_calls levels j r) t
      (request_parts r).0 (λ j of. of.principal) said;
  action = known_entry_of_text (codes "action") (λ j. IsRequestOf standard_extensions standard_calls levels j r) t
      (request_parts r).1 (λ j of. of.action) said;
  resource = known_entry_of_text (codes "resource") (λ j. IsRequestOf standard_extensions standard_calls levels j r) t
      (request_parts r).2 (λ j of. of.resource) said;
  context = known_part (request_view r).context_part h;
}

pub none_unknown : (e : Engine) (s : Entities) (r : Request) → IsKnown (entities_of e) → IsStoreFor e s → IsRequestFor r
    → has_known_context r ≡ true → HasNothingUnknown (setting_of standard_extensions r s)
none_unknown e s r engine store request known =
    let stored = store_known e s store engine in
    let asked = request_known r request known in record {
      principal_known = asked.principal;
      action_known = asked.action;
      resource_known = asked.resource;
      context_known = asked.context;
      store_concrete = stored.whole;
      store_known = stored.known;
    }

pub none_else_unknown : (e : Engine) (s : Entities) (r : Request) (part : Part) → IsKnown (entities_of e) → IsStoreFor e s
    → IsRequestFor r → has_known_context r ≡ true
    → HasNothingElseUnknown (question_of standard_extensions standard_calls e s part (opened part (request_view r)))
none_else_unknown e s r parts.Principal engine store request known n =
    let stored = store_known e s store engine in
    let asked = request_known r request known in record {
      principal_known = tt;
      action_known = asked.action;
      resource_known = asked.resource;
      context_known = asked.context;
      store_concrete = stored.whole;
      store_known = stored.known;
    }
none_else_unknown e s r parts.Action engine store request known n =
    let stored = store_known e s store engine in
    let asked = request_known r request known in record {
      principal_known = asked.principal;
      action_known = tt;
      resource_known = asked.resource;
      context_known = asked.context;
      store_concrete = stored.whole;
      store_known = stored.known;
    }
none_else_unknown e s r parts.Resource engine store request known n =
    let stored = store_known e s store engine in
    let asked = request_known r request known in record {
      principal_known = asked.principal;
      action_known = asked.action;
      resource_known = tt;
      context_known = asked.context;
      store_concrete = stored.whole;
      store_known = stored.known;
    }
