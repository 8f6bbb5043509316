-- Progress: a step whose map names every unknown leaves no residual.
use Rattle.std.specs.Prelude.{◌≡◌, ℕ, true, false, List, [], ◌∷◌, Some, is_some, codes}
use Rattle.cedar_model.specs.Terms.{Text, Term, Terms, Fields}
use Rattle.cedar_model.specs.Values.{Represented, expression_of}
use Rattle.cedar_model.specs.World.{World, Extensions, Functions}
use Rattle.cedar_model.specs.Settings.{Entry, known_entry, unknown_entry, ContextPart, absent_context, known_context}
use Rattle.cedar_model.specs.Settings.{residual_context, Store, Resolution, shallow, deep}
use Rattle.cedar_model.specs.Failures.{PartialValue, value, residual}
use Rattle.cedar_model.specs.Rules.{StoredCalls}
use Rattle.cedar_model.specs.Agreement.{HoldsThroughout, HoldsOfEach, HoldsOfEachAt, NeverAsks, IsKnown}
use Rattle.cedar_model.specs.Agreement.{AgreesWithFunctions, EachStored, IsValue}
use Rattle.cedar_model.specs.Policies.{Policy, ErrorHandling}
use Rattle.cedar_model.specs.Configurations.{configured}
use Rattle.cedar_model.specs.Restricted.{IsSound, IsSoundContext}
use Rattle.cedar_model.specs.Responses.{Reported, reported_true, reported_false, reported_residual, Row, Stand}
use Rattle.cedar_model.specs.Chains.{Mapping, Response, StepsTo}
use Rattle.cedar_model.specs.Reports.{HaveNoResidual}
use Rattle.cedar_model.specs.laws.Reports.{AreDecidedAs}

module _ (ans : Functions) (m : Mapping) where
  -- the map names each unknown of the expression, and no function that is called in it can answer one
  abbrev pub IsNamed : Term → Type 0
  IsNamed t = HoldsThroughout (λ n o. is_some (m n) ≡ true) (NeverAsks ans) t

  abbrev pub AreNamed : Terms → Type 0
  AreNamed ts = HoldsOfEach (λ n o. is_some (m n) ≡ true) (NeverAsks ans) ts

  abbrev pub AreNamedAt : Fields → Type 0
  AreNamedAt fs = HoldsOfEachAt (λ n o. is_some (m n) ≡ true) (NeverAsks ans) fs

  -- a stored part from which no residual is answered: a value; with deep resolution also a residual whose unknowns the
  -- map names, and that calls no function that can answer one
  abbrev pub LeavesNoResidual : Resolution → PartialValue → Type 0
  LeavesNoResidual shallow p = IsValue p
  LeavesNoResidual deep (value v) = Unit {0}
  LeavesNoResidual deep (residual t) = IsNamed t

  -- an unknown entry is named by its variable
  abbrev pub EntryIsNamed : Text → Entry → Type 0
  EntryIsNamed name (known_entry e) = Unit {0}
  EntryIsNamed name (unknown_entry t) = is_some (m name) ≡ true

  -- so is an absent context; a residual one has its unknowns named
  abbrev pub ContextIsNamed : ContextPart → Type 0
  ContextIsNamed absent_context = is_some (m (codes "context")) ≡ true
  ContextIsNamed (known_context fs) = Unit {0}
  ContextIsNamed (residual_context fs) = AreNamedAt fs

  abbrev pub ReportIsNamed : Reported → Type 0
  ReportIsNamed reported_true = Unit {0}
  ReportIsNamed (reported_false e) = Unit {0}
  ReportIsNamed (reported_residual t) = IsNamed t

  abbrev pub RowsAreNamed : List Row → Type 0
  RowsAreNamed [] = Unit {0}
  RowsAreNamed (r ∷ rs) = ReportIsNamed r.reported × RowsAreNamed rs

  -- the map names every unknown of a response's residuals and request, and its values are written without unknowns
  pub record NamesAll (r : Response) : Type 0 where
    pub principal_is_named : EntryIsNamed (codes "principal") r.request.principal_entry
    pub action_is_named : EntryIsNamed (codes "action") r.request.action_entry
    pub resource_is_named : EntryIsNamed (codes "resource") r.request.resource_entry
    pub context_is_named : ContextIsNamed r.request.context_part
    pub rows_are_named : RowsAreNamed r.rows
    pub values_are_known : (n : Text) (v : Represented) → m n ≡ Some v → IsKnown ans (expression_of v)

-- where a map of sound values names all, the context that is given is sound, and the store is concrete and no residual
-- is answered from it, a step leaves no residual; and where its rows stand, the concrete decision is that of the
-- policies, and the reasons are theirs
abbrev pub StepsFinish : StoredCalls → Type 0
StepsFinish calls =
    (ans : Functions) → AgreesWithFunctions ans calls
    → (mode : ErrorHandling) (resolution : Resolution) (X : Extensions) (levels : ℕ) (m : Mapping) (store : Store)
    (old new : Response)
    → store.is_partial ≡ false → EachStored (LeavesNoResidual ans m resolution) store
    → IsSoundContext old.request.context_part → ((n : Text) (v : Represented) → m n ≡ Some v → IsSound v)
    → NamesAll ans m old → StepsTo (configured calls mode resolution X levels) m store old new
    → HaveNoResidual new.rows
    × ((w : World) (ps : List Policy) → Stand mode X ans w ps new.rows → AreDecidedAs mode X ans w ps new.rows)
