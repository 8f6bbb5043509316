-- What entities are evaluated to.
use Rattle.std.specs.Prelude.{◌≡◌, ⊤, ℕ, List, [], ◌∷◌, ◌++◌, ◌||◌, Ok, Err}
use Rattle.cedar_model.specs.Terms.{Text, EntityName, Term, Fields, no_fields, one_field}
use Rattle.cedar_model.specs.World.{Extensions}
use Rattle.cedar_model.specs.Rules.{StoredCalls}
use Rattle.cedar_model.specs.Outcomes.{entity_eq}
use Rattle.cedar_model.specs.Settings.{Setting, StoredEntity, is_among}
use Rattle.cedar_model.specs.Failures.{PartialValue, answers}
use Rattle.cedar_expressions.specs.Records.{put_field, fields_in_order}
use Rattle.std.specs.Cmp.Lexicographic.{slice_cmp}
use Rattle.std.specs.Ordering.{nat_cmp}
use Rattle.std.specs.Rc.{rc_str_bytes}
use Rattle.std.specs.declared.alloc.Global.{Global}
use Rattle.std.specs.declared.cmp.Ordering.{Ordering}
use Rattle.std.specs.declared.rc.RcStr.{RcStr}
use Rattle.cedar_values.specs.declared.partial_value.PartialValue as parts
use Rattle.cedar_layers.specs.Parts.{parts_view}
use Rattle.cedar_layers.specs.declared.policies.entities.Entity.{Entity}
use Rattle.cedar_layers.specs.Stores.{entity_name, entity_view}
use Rattle.cedar_restricted.specs.Evaluations.{IsBare, IsAnswerWithin}
use Rattle.cedar_json_reader.specs.Refusals.{Said}
use Rattle.cedar_json_reader.specs.SaidEntities.{SaidEntity}

-- with these extensions and so many levels the expression answers this
abbrev pub IsAnswerOf : Extensions → StoredCalls → ℕ → Term → PartialValue → Type 0
IsAnswerOf x calls n t p = (s : Setting) → IsBare x s → IsAnswerWithin s calls n t (answers p)

-- so does each of these, under the same key
abbrev pub AreAnswered : Extensions → StoredCalls → ℕ → Fields → List (Text × PartialValue) → Type 0
AreAnswered x calls n no_fields [] = ⊤
AreAnswered x calls n no_fields (p ∷ ps) = ⊥
AreAnswered x calls n (one_field k t fs) [] = ⊥
AreAnswered x calls n (one_field k t fs) (p ∷ ps) = (p.0 ≡ k) × IsAnswerOf x calls n t p.1 × AreAnswered x calls n fs ps

-- the same are among these and among those
abbrev pub AreAmong : List EntityName → List EntityName → Type 0
AreAmong these those = (e : EntityName) → is_among e these ≡ is_among e those

-- its attributes and tags, in byte order of their keys, answer these; and the entities that are recorded above it are
-- its parents
pub record IsFacts (x : Extensions) (calls : StoredCalls) (n : ℕ) (e : SaidEntity) (f : StoredEntity) : Type 0 where
  pub attributes : AreAnswered x calls n (fields_in_order e.attributes) f.attributes
  pub tags : AreAnswered x calls n (fields_in_order e.tags) f.tags
  pub parents : AreAmong f.ancestors e.parents

abbrev pub IsEvaluated : Extensions → StoredCalls → ℕ → SaidEntity → Entity → Type 0
IsEvaluated x calls n e d = (entity_name d ≡ e.uid) × IsFacts x calls n e (entity_view d)

-- one by one, in order
abbrev pub AreEvaluated : Extensions → StoredCalls → ℕ → List SaidEntity → List Entity → Type 0
AreEvaluated x calls n [] [] = ⊤
AreEvaluated x calls n [] (d ∷ ds) = ⊥
AreEvaluated x calls n (e ∷ es) [] = ⊥
AreEvaluated x calls n (e ∷ es) (d ∷ ds) = IsEvaluated x calls n e d × AreEvaluated x calls n es ds

-- the entities that are said are evaluated to these
abbrev pub AreEntitiesOf : Extensions → StoredCalls → ℕ → Said (List SaidEntity) → List Entity → Type 0
AreEntitiesOf x calls n (Ok es) ds = AreEvaluated x calls n es ds
AreEntitiesOf x calls n (Err r) ds = ⊥

-- ---- how they are collected; for private clauses

-- the new parts have one more, which answers this expression
abbrev pub AddsPart : Extensions → StoredCalls → ℕ → Text → Term → List (RcStr Global × parts.PartialValue) → List (RcStr Global × parts.PartialValue) → Type 0
AddsPart x calls n k t old new =
    (fs : Fields) → AreAnswered x calls n fs (parts_view old) → AreAnswered x calls n (put_field fs k t) (parts_view new)

-- the new entities have one more at their end, which is evaluated so
abbrev pub AddsEntity : Extensions → StoredCalls → ℕ → SaidEntity → List Entity → List Entity → Type 0
AddsEntity x calls n e old new = (es : List SaidEntity) → AreEvaluated x calls n es old → AreEvaluated x calls n (es ++ e ∷ []) new

-- the new names have this one too
abbrev pub PutsName : List EntityName → EntityName → List EntityName → Type 0
PutsName old e new = (d : EntityName) → is_among d new ≡ (entity_eq d e || is_among d old)

-- and the name of the entity that is said
abbrev pub SeesEntity : List EntityName → Said SaidEntity → List EntityName → Type 0
SeesEntity old (Ok e) new = PutsName old e.uid new
SeesEntity old (Err r) new = ⊤
