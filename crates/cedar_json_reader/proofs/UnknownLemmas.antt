-- Where an unknown is found, and that none is left where none is found.
use Rattle.std.proofs.Common.{◌≡◌, ℕ, ◌+◌, Bool, true, false, true≢false, if◌then◌else◌, cond, List, [], ◌∷◌, ◌++◌, Option, Some, None, refl, sym, ap, ◌∙◌, subst, codes}
use Rattle.std.specs.Prelude.{option_map, IsSomeAnd}
use Rattle.std.specs.Option.{option_or}
use Rattle.json.specs.Json.{Json, document}
use Rattle.json.specs.Strict.{HasUniqueKeys}
use Rattle.cedar_model.specs.Terms.{Text, Fields}
use Rattle.cedar_model.specs.Outcomes.{text_eq}
use Rattle.cedar_model.specs.Failures.{PartialValue, value, residual}
use Rattle.cedar_model.specs.Settings.{StoredEntity, part_at, names_of, ContextPart, absent_context, known_context, residual_context}
use Rattle.cedar_model.specs.Agreement.{IsValue, IsKnownContext, IsKnownEntry}
use Rattle.cedar_model.proofs.Injections.{none_is_not_some, some_inj}
use Rattle.cedar_names.specs.EqualityLaws.{text_eq-decides}
use Rattle.cedar_expressions.specs.View.{fields_view}
use Rattle.cedar_layers.specs.declared.policies.entities.Entity.{Entity}
use Rattle.cedar_layers.specs.Stores.{entity_view}
use Rattle.cedar_requests.specs.declared.context.Context.{Context}
use Rattle.cedar_requests.specs.declared.context.pairs.ContextPairs.{ContextPairs}
use Rattle.cedar_requests.specs.declared.context.pairs.ContextPairs.TheVariants as kinds
use Rattle.cedar_requests.specs.declared.entry.EntityUIDEntry.{EntityUIDEntry}
use Rattle.cedar_requests.specs.declared.entry.EntityUIDEntry.TheVariants as entries
use Rattle.cedar_requests.specs.Contexts.{ExprMap, context_view, context_residual, context_pairs_view, pairs_residual}
use Rattle.cedar_requests.specs.Requests.{entry_view}
use Rattle.cedar_json_reader.specs.declared.errors.JsonError.{JsonError}
use Rattle.cedar_json_reader.specs.declared.errors.JsonError.TheVariants as errors
use Rattle.cedar_json_reader.specs.declared.errors.RefusalReason.{RefusalReason}
use Rattle.cedar_json_reader.specs.declared.errors.RefusalReason.TheVariants as reasons
use Rattle.cedar_json_reader.specs.Paths.{Step, at_key, at_index}
use Rattle.cedar_json_reader.specs.Refusals.{IsRefusedAt, IsUnder}
use Rattle.cedar_json_reader.specs.JsonTexts.{SaysSo, IsTextError}
use Rattle.cedar_json_reader.specs.SaidRequests.{IsEntryAt}
use Rattle.cedar_json_reader.specs.Held.{FactsAre}
use Rattle.cedar_json_reader.specs.NothingUnknown.{is_left, first_left, unknown_of, unknown_from, first_open, way_to}
use Rattle.cedar_json_reader.specs.NothingUnknown.{AreKnownEntities, IsUnknownAt, IsUnknownContext}
use Rattle.cedar_json_reader.proofs.TextLemmas.{IsOfValue, part_of_value}

-- ---- a refusal, seen from the value that the part is a part of

pub refused_below : (way : List Step) (r : RefusalReason) (s : Step) (d e : JsonError) → IsRefusedAt way r d → IsUnder s d e
    → IsRefusedAt (s ∷ way) r e
refused_below way r s d errors.Syntax h u = subst (λ (x : JsonError). IsRefusedAt way r x) u h
refused_below way r s d errors.DuplicateKey h u = subst (λ (x : JsonError). IsRefusedAt way r x) u h
refused_below way r s errors.Syntax (errors.Refused q t) h u = absurd u
refused_below way r s errors.DuplicateKey (errors.Refused q t) h u = absurd u
refused_below way r s (errors.Refused p x) (errors.Refused q t) h u = (u.0 ∙ ap (λ ss. s ∷ ss) h.0, u.1 ∙ h.1)
refused_below way r s (errors.Evaluation p x) (errors.Refused q t) h u = absurd u
refused_below way r s (errors.Memory m) (errors.Refused q t) h u = absurd u
refused_below way r s errors.Syntax (errors.Evaluation q t) h u = u
refused_below way r s errors.DuplicateKey (errors.Evaluation q t) h u = u
refused_below way r s (errors.Refused p x) (errors.Evaluation q t) h u = u
refused_below way r s (errors.Evaluation p x) (errors.Evaluation q t) h u = h
refused_below way r s (errors.Memory m) (errors.Evaluation q t) h u = u
refused_below way r s d (errors.Memory m) h u = tt

-- ---- entities

pub at_attribute : (x : StoredEntity) (k : Text) (e : JsonError)
    → Some k ≡ first_left x.attributes (names_of x.attributes)
    → IsRefusedAt (at_key (codes "attrs") ∷ at_key k ∷ []) reasons.Unknown e → IsUnknownAt (unknown_of x) e
at_attribute x k e is h =
    subst (λ (o : Option Text). IsUnknownAt (option_or (option_map (λ n. at_key (codes "attrs") ∷ at_key n ∷ []) o)
    (option_map (λ n. at_key (codes "tags") ∷ at_key n ∷ []) (first_left x.tags (names_of x.tags)))) e) is h

pub at_tag : (x : StoredEntity) (k : Text) (e : JsonError) → None ≡ first_left x.attributes (names_of x.attributes)
    → Some k ≡ first_left x.tags (names_of x.tags)
    → IsRefusedAt (at_key (codes "tags") ∷ at_key k ∷ []) reasons.Unknown e → IsUnknownAt (unknown_of x) e
at_tag x k e empty is h =
    subst (λ (o : Option Text). IsUnknownAt (option_or (option_map (λ n. at_key (codes "attrs") ∷ at_key n ∷ []) o)
    (option_map (λ n. at_key (codes "tags") ∷ at_key n ∷ []) (first_left x.tags (names_of x.tags)))) e) empty
    (subst (λ (o : Option Text). IsUnknownAt (option_map (λ n. at_key (codes "tags") ∷ at_key n ∷ []) o) e) is h)

pub at_neither : (x : StoredEntity) → None ≡ first_left x.attributes (names_of x.attributes)
    → None ≡ first_left x.tags (names_of x.tags) → unknown_of x ≡ None
at_neither x empty none =
    λ i. option_or (option_map (λ n. at_key (codes "attrs") ∷ at_key n ∷ []) (sym empty i))
    (option_map (λ n. at_key (codes "tags") ∷ at_key n ∷ []) (sym none i))

-- what is not left is a value
value_not_left : (p : PartialValue) → is_left (Some p) ≡ false → IsValue p
value_not_left (value v) h = tt
value_not_left (residual t) h = absurd (true≢false h)

if_none : (b : Bool) (k : Text) (o : Option Text) → (if b then Some k else o) ≡ None → (b ≡ false) × (o ≡ None)
if_none true k o h = absurd (none_is_not_some (sym h))
if_none false k o h = (refl, h)

module _ (ps : List (Text × PartialValue)) (k : Text) (p : PartialValue) (at : part_at k ps ≡ Some p) where
  not_left : (n : Text) → n ≡ k → is_left (part_at n ps) ≡ false → IsValue p
  not_left n same h = value_not_left p (ap is_left (sym at) ∙ ap (λ m. is_left (part_at m ps)) (sym same) ∙ h)

  among : (q : Text × PartialValue) (more : List (Text × PartialValue)) (b : Bool) → text_eq k q.0 ≡ b
      → cond b (Some q.1) (part_at k more) ≡ Some p → (part_at k more ≡ Some p → first_left ps (names_of more) ≡ None → IsValue p)
      → first_left ps (q.0 ∷ names_of more) ≡ None → IsValue p
  among q more true is there next none =
      not_left q.0 (sym ((text_eq-decides k q.0).0 is)) (if_none (is_left (part_at q.0 ps)) q.0 (first_left ps (names_of more)) none).0
  among q more false is there next none =
      next there (if_none (is_left (part_at q.0 ps)) q.0 (first_left ps (names_of more)) none).1

  under_name : (qs : List (Text × PartialValue)) → part_at k qs ≡ Some p → first_left ps (names_of qs) ≡ None → IsValue p
  unfolding part_at
  under_name [] there none = absurd (none_is_not_some there)
  under_name (q ∷ qs) there none = among q qs (text_eq k q.0) refl there (under_name qs) none

all_values : (ps : List (Text × PartialValue)) → first_left ps (names_of ps) ≡ None → (k : Text) (p : PartialValue)
    → part_at k ps ≡ Some p → IsValue p
all_values ps none k p at = under_name ps k p at ps at none

or_none : {A : Type 0} (o q : Option A) → option_or o q ≡ None → (o ≡ None) × (q ≡ None)
or_none None q h = (refl, h)
or_none (Some x) q h = absurd (none_is_not_some (sym h))

map_none : {A B : Type 0} (f : A → B) (o : Option A) → option_map f o ≡ None → o ≡ None
map_none f None h = refl
map_none f (Some x) h = absurd (none_is_not_some (sym h))

known_facts : (x : StoredEntity) → unknown_of x ≡ None → FactsAre IsValue x
known_facts x h k p =
    let both = or_none (option_map (λ n. at_key (codes "attrs") ∷ at_key n ∷ []) (first_left x.attributes (names_of x.attributes)))
    (option_map (λ n. at_key (codes "tags") ∷ at_key n ∷ []) (first_left x.tags (names_of x.tags))) h in (
      all_values x.attributes (map_none _ (first_left x.attributes (names_of x.attributes)) both.0) k p,
      all_values x.tags (map_none _ (first_left x.tags (names_of x.tags)) both.1) k p,
    )

pub known_from : (n : ℕ) (es : List Entity) → unknown_from n es ≡ None → AreKnownEntities es
known_from n [] h = tt
known_from n (e ∷ es) h =
    let both = or_none (option_map (λ w. at_index n ∷ w) (unknown_of (entity_view e))) (unknown_from (n + 1) es) h in
    (known_facts (entity_view e) (map_none _ (unknown_of (entity_view e)) both.0), known_from (n + 1) es both.1)

-- the first of what is left is known, so the unknown is further on
pub next_known : (n : ℕ) (e : Entity) (es : List Entity) → unknown_of (entity_view e) ≡ None
    → unknown_from n (e ∷ es) ≡ unknown_from (n + 1) es
next_known n e es h = ap (λ o. option_or (option_map (λ w. at_index n ∷ w) o) (unknown_from (n + 1) es)) h

-- or it is here
pub first_unknown : (n : ℕ) (x : Entity) (es : List Entity) (d e : JsonError) → IsUnknownAt (unknown_of (entity_view x)) d
    → IsUnder (at_index n) d e → IsUnknownAt (unknown_from n (x ∷ es)) e
first_unknown n x es d e h u = here (unknown_of (entity_view x)) h where
  here : (o : Option (List Step)) → IsUnknownAt o d
      → IsUnknownAt (option_or (option_map (λ w. at_index n ∷ w) o) (unknown_from (n + 1) es)) e
  here None h = absurd h
  here (Some way) h = refused_below way reasons.Unknown (at_index n) d e h u

-- ---- contexts

pairs_known : (p : ContextPairs) → None ≡ pairs_residual p → IsKnownContext (context_pairs_view p)
pairs_known (kinds.Values m) h = tt
pairs_known (kinds.Residual r) h = absurd (none_is_not_some h)

pub context_known : (c : Context) → None ≡ context_residual c → IsKnownContext (context_view c)
context_known c h = pairs_known c.pairs h

pairs_unknown : (p : ContextPairs) (m : ExprMap) (e : JsonError) → Some m ≡ pairs_residual p
    → IsRefusedAt (way_to (first_open (fields_view m.entries))) reasons.Unknown e
    → IsUnknownContext (context_pairs_view p) [] e
pairs_unknown (kinds.Values n) m e is h = absurd (none_is_not_some (sym is))
pairs_unknown (kinds.Residual r) m e is h =
    subst (λ (n : ExprMap). IsRefusedAt (way_to (first_open (fields_view n.entries))) reasons.Unknown e) (some_inj is) h

pub context_unknown : (c : Context) (m : ExprMap) (e : JsonError) → Some m ≡ context_residual c
    → IsRefusedAt (way_to (first_open (fields_view m.entries))) reasons.Unknown e
    → IsUnknownContext (context_view c) [] e
context_unknown c m e is h = pairs_unknown c.pairs m e is h

-- the same, seen from the object
pub unknown_below : (c : ContextPart) (there : List Step) (s : Step) (d e : JsonError) → IsUnknownContext c there d
    → IsUnder s d e → IsUnknownContext c (s ∷ there) e
unknown_below absent_context there s d e h u = refused_below there reasons.Unknown s d e h u
unknown_below (known_context fs) there s d e h u = absurd h
unknown_below (residual_context fs) there s d e h u =
    refused_below (there ++ way_to (first_open fs)) reasons.Unknown s d e h u

-- ---- texts

context_of_value : (c : ContextPart) (there : List Step) (e : JsonError) → IsUnknownContext c there e → IsOfValue e
context_of_value absent_context there e h = part_of_value there reasons.Unknown e h
context_of_value (known_context fs) there e h = absurd h
context_of_value (residual_context fs) there e h =
    part_of_value (there ++ way_to (first_open fs)) reasons.Unknown e h

entities_of_value : (o : Option (List Step)) (e : JsonError) → IsUnknownAt o e → IsOfValue e
entities_of_value None e h = absurd h
entities_of_value (Some way) e h = part_of_value way reasons.Unknown e h

some_and : (o : Option Json) (P Q : Json → Type 0) → ((j : Json) → P j → Q j) → IsSomeAnd o P → IsSomeAnd o Q
some_and None P Q f h = absurd h
some_and (Some j) P Q f h = f j h

-- what the text says is refused
text_unknown : (text : Text) (P : Json → Type 0) (R : Json → JsonError → Type 0) (e : JsonError) → IsOfValue e
    → ((j : Json) → P j → R j e) → SaysSo text P → IsTextError text R e
text_unknown text P R errors.Syntax v f h = absurd v
text_unknown text P R errors.DuplicateKey v f h = absurd v
text_unknown text P R (errors.Refused p r) v f h =
    some_and (document text) (λ j. HasUniqueKeys j × P j) (λ j. R j (errors.Refused p r)) (λ j g. f j g.1) h
text_unknown text P R (errors.Evaluation p x) v f h =
    some_and (document text) (λ j. HasUniqueKeys j × P j) (λ j. R j (errors.Evaluation p x)) (λ j g. f j g.1) h
text_unknown text P R (errors.Memory m) v f h = tt

pub text_of_context : (text : Text) (P : Json → Type 0) (R : Json → JsonError → Type 0) (c : ContextPart)
    (there : List Step) (e : JsonError) → IsUnknownContext c there e → ((j : Json) → P j → R j e) → SaysSo text P
    → IsTextError text R e
text_of_context text P R c there e h f said = text_unknown text P R e (context_of_value c there e h) f said

pub text_of_entities : (text : Text) (P : Json → Type 0) (R : Json → JsonError → Type 0) (o : Option (List Step))
    (e : JsonError) → IsUnknownAt o e → ((j : Json) → P j → R j e) → SaysSo text P → IsTextError text R e
text_of_entities text P R o e h f said = text_unknown text P R e (entities_of_value o e h) f said

-- what is refused without that stays refused
pub text_still : (text : Text) (P R : Json → JsonError → Type 0) (e : JsonError)
    → ((j : Json) (d : JsonError) → P j d → R j d) → IsTextError text P e → IsTextError text R e
text_still text P R errors.Syntax f h = h
text_still text P R errors.DuplicateKey f h = h
text_still text P R (errors.Refused p r) f h =
    some_and (document text) (λ j. P j (errors.Refused p r)) (λ j. R j (errors.Refused p r))
    (λ j g. f j (errors.Refused p r) g) h
text_still text P R (errors.Evaluation p x) f h =
    some_and (document text) (λ j. P j (errors.Evaluation p x)) (λ j. R j (errors.Evaluation p x))
    (λ j g. f j (errors.Evaluation p x) g) h
text_still text P R (errors.Memory m) f h = tt

-- ---- requests

entry_known : (k : Text) (j : Json) (i : EntityUIDEntry) → IsEntryAt k j i → IsKnownEntry (entry_view i)
entry_known k j (entries.Known u l) h = tt
entry_known k j (entries.Unknown t l) h = absurd h

pub known_entry_of_text : (k : Text) (P : Json → Type 0) (text : Text) (i : EntityUIDEntry)
    → ((j : Json) → P j → IsEntryAt k j i) → SaysSo text P → IsKnownEntry (entry_view i)
known_entry_of_text k P text i f h = in_document (document text) h where
  in_document : (o : Option Json) → IsSomeAnd o (λ j. HasUniqueKeys j × P j) → IsKnownEntry (entry_view i)
  in_document None h = absurd h
  in_document (Some j) h = entry_known k j i (f j h.1)

pub ruleset unknowns = (refused_below, at_attribute, at_tag, at_neither, context_known, context_unknown, unknown_below)
