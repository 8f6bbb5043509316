-- Maps that name what is listed of the unknowns of a response, and what progress asks of a map.
use Rattle.std.specs.Prelude.{◌≡◌, ◌↔◌, true, List, [], ◌∷◌, ◌++◌, Some, is_some}
use Rattle.cedar_model.specs.Terms.{Text, EntityName, Term}
use Rattle.cedar_model.specs.Values.{Represented, expression_of}
use Rattle.cedar_model.specs.World.{Functions}
use Rattle.cedar_model.specs.Settings.{ContextPart, absent_context, known_context, residual_context, printed_entity}
use Rattle.cedar_model.specs.Agreement.{HoldsThroughout, HoldsOfEachAt, NeverAsks, IsKnown}
use Rattle.cedar_model.specs.Responses.{Reported, reported_true, reported_false, reported_residual, Row}
use Rattle.cedar_model.specs.Chains.{Mapping, Response}
use Rattle.cedar_model.specs.Progress.{NamesAll}
use Rattle.cedar_laws.specs.Faithful.{MapHoldsNoExtensionValue}
use Rattle.cedar_unknowns.specs.Occurrences.{Asked, request_occurrences, row_occurrences, each_once}
use Rattle.cedar_unknowns.specs.Entities.{entities_asked, others_asked}

-- the unknowns of a response: of its request, and then of what is left of its policies
abbrev pub response_occurrences : Response → List Asked
response_occurrences r = request_occurrences r.request ++ row_occurrences r.rows

module _ (m : Mapping) where
  -- the map has a value for the name of each of these unknowns
  abbrev pub NamesEach : List Asked → Type 0
  NamesEach [] = Unit {0}
  NamesEach (a ∷ more) = (is_some (m a.0) ≡ true) × NamesEach more

  -- and for the text of each of these entities
  abbrev pub NamesEachEntity : List EntityName → Type 0
  NamesEachEntity [] = Unit {0}
  NamesEachEntity (e ∷ es) = (is_some (m (printed_entity e)) ≡ true) × NamesEachEntity es

  -- for all that is listed of these unknowns: those that stand for no entity, and the entities that others stand for
  pub record NamesListed (all : List Asked) : Type 0 where
    pub unknowns_are_named : NamesEach (others_asked (each_once all))
    pub entities_are_named : NamesEachEntity (entities_asked (each_once all))

module _ (ans : Functions) where
  -- no function that is called in the expression can answer an unknown
  abbrev pub CallsNoneThatAsks : Term → Type 0
  CallsNoneThatAsks t = HoldsThroughout (λ n o. Unit {0}) (NeverAsks ans) t

  abbrev pub ContextCallsNoneThatAsks : ContextPart → Type 0
  ContextCallsNoneThatAsks absent_context = Unit {0}
  ContextCallsNoneThatAsks (known_context fs) = Unit {0}
  ContextCallsNoneThatAsks (residual_context fs) = HoldsOfEachAt (λ n o. Unit {0}) (NeverAsks ans) fs

  abbrev pub ReportCallsNoneThatAsks : Reported → Type 0
  ReportCallsNoneThatAsks reported_true = Unit {0}
  ReportCallsNoneThatAsks (reported_false e) = Unit {0}
  ReportCallsNoneThatAsks (reported_residual t) = CallsNoneThatAsks t

  abbrev pub RowsCallNoneThatAsks : List Row → Type 0
  RowsCallNoneThatAsks [] = Unit {0}
  RowsCallNoneThatAsks (r ∷ rs) = ReportCallsNoneThatAsks r.reported × RowsCallNoneThatAsks rs

  -- none that is called in a residual context, or in what is left of policies
  pub record ResponseCallsNoneThatAsks (r : Response) : Type 0 where
    pub context_calls_none : ContextCallsNoneThatAsks r.request.context_part
    pub rows_call_none : RowsCallNoneThatAsks r.rows

  -- the map's values are written without unknowns, and without calls of functions that can answer one
  abbrev pub HasKnownValues : Mapping → Type 0
  HasKnownValues m = (n : Text) (v : Represented) → m n ≡ Some v → IsKnown ans (expression_of v)

-- what progress asks of a map is that it names all that is listed, and functions aside no more: that no function which
-- is called in what is left asks, and that the map's values are known
abbrev pub NamesAllByLists : Type 0
NamesAllByLists =
    (ans : Functions) (m : Mapping) (r : Response) → NamesAll ans m r ↔ (NamesListed m (response_occurrences r)
    × ResponseCallsNoneThatAsks ans r × HasKnownValues ans m)

-- where no function asks, a map of values without extension values that names all that is listed is one that progress
-- asks for
abbrev pub ListedNamesAreAll : Type 0
ListedNamesAreAll =
    (ans : Functions) → ((f : Text) → NeverAsks ans f) → (m : Mapping) → MapHoldsNoExtensionValue m → (r : Response)
    → NamesListed m (response_occurrences r) → NamesAll ans m r
