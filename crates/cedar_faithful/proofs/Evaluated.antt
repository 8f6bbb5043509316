-- What restricted expressions are evaluated to beside extensions alone: where each answers such a part, so does each
-- attribute and tag of an entity.
use Rattle.std.specs.Prelude.{◌≡◌, ℕ, Bool, true, false, cond, List, [], ◌∷◌, Option, Some}
use Rattle.std.proofs.Common.{refl, subst}
use Rattle.cedar_model.specs.Terms.{Text, Term, Fields, no_fields, one_field}
use Rattle.cedar_model.specs.World as model
use Rattle.cedar_model.specs.Shapes.{is_restricted}
use Rattle.cedar_model.specs.Outcomes.{text_eq}
use Rattle.cedar_model.specs.Failures.{PartialValue, answers}
use Rattle.cedar_model.specs.Settings.{StoredEntity, part_at}
use Rattle.cedar_model.specs.Rules.{StoredCalls}
use Rattle.cedar_model.proofs.Injections.{none_is_not_some, some_inj}
use Rattle.cedar_restricted.specs.Evaluations.{IsBare, IsAnswerWithin, bare_setting}
use Rattle.cedar_json_reader.specs.Evaluated.{IsAnswerOf, AreAnswered, IsFacts}
use Rattle.cedar_json_reader.specs.SaidEntities.{SaidEntity}
use Rattle.cedar_faithful.specs.Held.{FactsAre}
use Rattle.cedar_faithful.proofs.Restricted.{EachField, in_order_restricted}
use Rattle.cedar_faithful.proofs.RestrictedEntities.{IsRestrictedEntity}

pub bare : (x : model.Extensions) → IsBare x (bare_setting x)
bare x = record { no_map = refl; has_extensions = refl }

-- with these extensions, functions and levels each restricted expression answers such a part
abbrev pub EachAnswerIs : (PartialValue → Type 0) → model.Extensions → StoredCalls → ℕ → Type 0
EachAnswerIs Such x calls n =
    (t : Term) (p : PartialValue) → is_restricted t ≡ true → IsAnswerWithin (bare_setting x) calls n t (answers p)
    → Such p

module _ (Such : PartialValue → Type 0) where
  -- each part under its name
  abbrev EachPart : List (Text × PartialValue) → Type 0
  EachPart [] = Unit {0}
  EachPart (p ∷ ps) = Such p.1 × EachPart ps

  -- the part that is found first, or one behind it
  found_by : (b : Bool) (q : PartialValue) (o : Option PartialValue) (p : PartialValue) → Such q
      → (o ≡ Some p → Such p) → cond b (Some q) o ≡ Some p → Such p
  found_by true q o p h k e = subst Such (some_inj e) h
  found_by false q o p h k e = k e

  found_such : (ps : List (Text × PartialValue)) → EachPart ps → (k : Text) (p : PartialValue) → part_at k ps ≡ Some p
      → Such p
  unfolding part_at
  found_such [] h k p e = absurd (none_is_not_some e)
  found_such (q ∷ ps) h k p e = found_by (text_eq k q.0) q.1 (part_at k ps) p h.0 (found_such ps h.1 k p) e

  module _ (x : model.Extensions) (calls : StoredCalls) (n : ℕ) (answered : EachAnswerIs Such x calls n) where
    pub answer_such : (t : Term) (p : PartialValue) → is_restricted t ≡ true → IsAnswerOf x calls n t p → Such p
    answer_such t p r h = answered t p r (h (bare_setting x) (bare x))

    each_such : (fs : Fields) (ps : List (Text × PartialValue)) → EachField fs → AreAnswered x calls n fs ps
        → EachPart ps
    each_such no_fields [] r h = tt
    each_such no_fields (p ∷ ps) r h = absurd h
    each_such (one_field k t fs) [] r h = absurd h
    each_such (one_field k t fs) (p ∷ ps) r h = (answer_such t p.1 r.0 h.1, each_such fs ps r.1 h.2)

    pub facts_such : (e : SaidEntity) (f : StoredEntity) → IsRestrictedEntity e → IsFacts x calls n e f
        → FactsAre Such f
    facts_such e f r h k p = (
      found_such f.attributes (each_such _ f.attributes (in_order_restricted e.attributes r.0) h.attributes) k p,
      found_such f.tags (each_such _ f.tags (in_order_restricted e.tags r.1) h.tags) k p,
    )
