-- Entities that are kept, one after another.
use Rattle.std.proofs.Common.{◌≡◌, Bool, true, false, if◌then◌else◌, List, [], ◌∷◌, ◌++◌, None, Some, refl, sym, ap, ◌∙◌}
use Rattle.cedar_model.specs.Terms.{EntityName}
use Rattle.cedar_model.specs.Outcomes.{entity_eq}
use Rattle.cedar_names.specs.EqualityLaws.{entity_eq-decides}
use Rattle.cedar_layers.specs.declared.policies.entities.Entity.{Entity}
use Rattle.cedar_layers.specs.Stores.{entity_name, entity_view, Held, no_entities, with_entity, with_entities}
use Rattle.cedar_reasons.specs.Facts.{KnownFact, of_entity, is_kept}
use Rattle.cedar_reasons.specs.Reduced.{reduced_entity, kept_entity}
use Rattle.cedar_reasons.specs.Kept.{with_kept, are_kept}

-- one more behind others
pub one_more : (before : Held) (es : List Entity) (e : Entity)
    → with_entities before (es ++ e ∷ []) ≡ with_entity (with_entities before es) (entity_name e) (entity_view e)
one_more before [] e = refl
one_more before (d ∷ es) e = one_more (with_entity before (entity_name d) (entity_view d)) es e

module _ (fs : List KnownFact) where
  -- of what is held, what is kept
  abbrev pub kept_of : Held → Held
  kept_of before n = kept_entity (is_kept fs (of_entity n)) fs n (before n)

  module _ (before : Held) (e : Entity) (n : EntityName) where
    added : (b c : Bool) → is_kept fs (of_entity (entity_name e)) ≡ b → entity_eq n (entity_name e) ≡ c
        → (if b then (λ m. if entity_eq m (entity_name e) then Some (reduced_entity fs (entity_name e) (entity_view e)) else kept_of before m) else kept_of before) n
        ≡ kept_entity (is_kept fs (of_entity n)) fs n (if entity_eq n (entity_name e) then Some (entity_view e) else before n)
    added true true k h =
        let same : n ≡ entity_name e = (entity_eq-decides n (entity_name e)).0 h in
        let kept : is_kept fs (of_entity n) ≡ true = ap (λ (m : EntityName). is_kept fs (of_entity m)) same ∙ k in
        ap (λ (c : Bool). if c then Some (reduced_entity fs (entity_name e) (entity_view e)) else kept_of before n) h
        ∙ ap (λ (m : EntityName). Some (reduced_entity fs m (entity_view e))) (sym same)
        ∙ sym (λ i. kept_entity (kept i) fs n (if h i then Some (entity_view e) else before n))
    added true false k h =
        ap (λ (c : Bool). if c then Some (reduced_entity fs (entity_name e) (entity_view e)) else kept_of before n) h
        ∙ sym (ap (λ (c : Bool). kept_entity (is_kept fs (of_entity n)) fs n (if c then Some (entity_view e) else before n)) h)
    added false true k h =
        let same : n ≡ entity_name e = (entity_eq-decides n (entity_name e)).0 h in
        let left : is_kept fs (of_entity n) ≡ false = ap (λ (m : EntityName). is_kept fs (of_entity m)) same ∙ k in
        ap (λ (b : Bool). kept_entity b fs n (before n)) left
        ∙ sym (ap (λ (b : Bool). kept_entity b fs n (if entity_eq n (entity_name e) then Some (entity_view e) else before n)) left)
    added false false k h =
        sym (ap (λ (c : Bool). kept_entity (is_kept fs (of_entity n)) fs n (if c then Some (entity_view e) else before n)) h)

    added_so : (b : Bool) → is_kept fs (of_entity (entity_name e)) ≡ b
        → with_kept fs (kept_of before) e n ≡ kept_of (with_entity before (entity_name e) (entity_view e)) n
    added_so b k =
        ap
        (λ (c : Bool). (if c then with_entity (kept_of before) (entity_name e) (reduced_entity fs (entity_name e) (entity_view e)) else kept_of before) n)
        k ∙ added b (entity_eq n (entity_name e)) k refl

  kept_with : (before : Held) (e : Entity) → with_kept fs (kept_of before) e ≡ kept_of (with_entity before (entity_name e) (entity_view e))
  kept_with before e = λ i n. added_so before e n (is_kept fs (of_entity (entity_name e))) refl i

  kept_each : (before : Held) (es : List Entity) → are_kept fs (kept_of before) es ≡ kept_of (with_entities before es)
  kept_each before [] = refl
  kept_each before (e ∷ es) =
      ap (λ (h : Held). are_kept fs h es) (kept_with before e) ∙ kept_each (with_entity before (entity_name e) (entity_view e)) es

  none_kept : (b : Bool) (n : EntityName) → None ≡ kept_entity b fs n None
  none_kept true n = refl
  none_kept false n = refl

  -- what is kept of all entities is what is held of each that is kept
  pub kept_are : (es : List Entity) → are_kept fs no_entities es ≡ kept_of (with_entities no_entities es)
  kept_are es =
      ap (λ (h : Held). are_kept fs h es) (λ i n. none_kept (is_kept fs (of_entity n)) n i) ∙ kept_each no_entities es

-- an entity that is kept is held, and else what was held stays
pub kept_now : (fs : List KnownFact) (before : Held) (e : Entity) → is_kept fs (of_entity (entity_name e)) ≡ true
    → with_kept fs before e ≡ with_entity before (entity_name e) (reduced_entity fs (entity_name e) (entity_view e))
kept_now fs before e k =
    ap (λ (b : Bool). if b then with_entity before (entity_name e) (reduced_entity fs (entity_name e) (entity_view e)) else before) k

pub not_now : (fs : List KnownFact) (before : Held) (e : Entity) → is_kept fs (of_entity (entity_name e)) ≡ false → with_kept fs before e ≡ before
not_now fs before e k =
    ap (λ (b : Bool). if b then with_entity before (entity_name e) (reduced_entity fs (entity_name e) (entity_view e)) else before) k
