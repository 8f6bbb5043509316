-- Engines with the texts that they are made of, and what takes the place of one.
use Rattle.std.specs.Prelude.{◌≡◌, ⊤, Bool, codes, string_bytes}
use Rattle.cedar_model.specs.Terms.{Text}
use Rattle.cedar_endpoints.specs.declared.replies.NotRemade.{NotRemade}
use Rattle.cedar_endpoints.specs.declared.replies.NotRemade.TheVariants as unmade
use Rattle.cedar_endpoints.specs.declared.routes.Replaced.{Replaced}
use Rattle.cedar_endpoints.specs.declared.routes.Replaced.TheVariants as parts
use Rattle.cedar_service.specs.declared.engine.Engine.{Engine}
use Rattle.cedar_service.specs.declared.engine.NotStarted.{NotStarted}
use Rattle.cedar_service.specs.declared.engine.NotStarted.TheVariants as failures
use Rattle.cedar_service.specs.declared.faults.Refusal.{Refusal}
use Rattle.cedar_service.specs.declared.faults.Refusal.TheVariants as refusals
use Rattle.cedar_service.specs.declared.loaded.Loaded.{Loaded}
use Rattle.cedar_service.specs.declared.loaded.Texts as rust_texts
use Rattle.cedar_service.specs.Faults.{IsFaultBelow}
use Rattle.cedar_service.specs.Started.{IsEngineOf, IsNotStarted}
use Rattle.cedar_service.specs.Ways.{Ways, ways_of}

-- the policies, in Cedar's text, and the entities, in Cedar's JSON; and how requests are taken
pub record Texts : Type 0 where
  pub policies : Text
  pub entities : Text
  pub ways : Ways

abbrev pub both_texts : Text → Text → Ways → Texts
both_texts policies entities w = record { policies = policies; entities = entities; ways = w }

abbrev pub texts_view : rust_texts.Texts → Texts
texts_view t =
    both_texts (string_bytes t.policies) (string_bytes t.entities)
    (ways_of t.properties t.brings t.bounds (string_bytes t.action_type))

-- what decides
abbrev pub engine_of : Loaded → Engine
engine_of l = l.engine

-- the texts that it is made of
abbrev pub texts_of : Loaded → Texts
texts_of l = texts_view l.texts

-- how it takes requests
abbrev pub loaded_ways : Loaded → Ways
loaded_ways l = (texts_of l).ways

-- it has these texts, and the engine of them
pub record IsLoadedOf (ts : Texts) (l : Loaded) : Type 0 where
  pub engine : IsEngineOf ts.policies ts.entities (engine_of l)
  pub texts : texts_of l ≡ ts

-- the same, with this text in place of the policies or of the entities
abbrev pub replaced_with : Replaced → Text → Texts → Texts
replaced_with parts.Policies t ts = both_texts t ts.entities ts.ways
replaced_with parts.Entities t ts = both_texts ts.policies t ts.ways

-- what takes its place has the engine of these
abbrev pub Remakes : Loaded → Replaced → Text → Loaded → Type 0
Remakes l part t made = IsLoadedOf (replaced_with part t (texts_of l)) made

-- ---- why there is none

-- the reason is not that memory ran out
abbrev pub IsOfTexts : NotStarted → Type 0
IsOfTexts (failures.Policies errors) = ⊤
IsOfTexts (failures.Entities error) = ⊤
IsOfTexts (failures.Parents error) = ⊤
IsOfTexts failures.Memory = ⊥

-- of the texts no engine is made, for their readers' reasons, and something is told of the body
pub record IsRefusedFor (ts : Texts) (t : Text) : Type 0 where
  pub reason : NotStarted
  pub not_started : IsNotStarted ts.policies ts.entities reason
  pub of_texts : IsOfTexts reason
  pub told : IsFaultBelow (codes "$") t

abbrev pub Refuses : Loaded → Replaced → Text → Text → Type 0
Refuses l part text t = IsRefusedFor (replaced_with part text (texts_of l)) t

-- the same refusal; for private clauses
abbrev pub IsSameRefusal : Refusal → NotRemade → Type 0
IsSameRefusal refusals.Memory n = n ≡ unmade.Memory
IsSameRefusal (refusals.Told t) n = n ≡ unmade.Told t
