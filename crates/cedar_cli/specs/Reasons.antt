-- Why nothing is answered.
use Rattle.std.specs.Prelude.{⊤, ℕ, ◌<◌, Bool, true, false, List, [], ◌∷◌, Option, Some, None}
use Rattle.std.specs.Borrow.{Bor}
use Rattle.json.specs.Json.{Json}
use Rattle.cedar_model.specs.Terms.{Text, EntityName}
use Rattle.cedar_model.specs.World as world
use Rattle.cedar_model.specs.Rules.{StoredCalls}
use Rattle.cedar_functions.specs.Functions.{Knowledge}
use Rattle.cedar_text_lexer.specs.declared.errors.ReadError.{ReadError}
use Rattle.cedar_text_lexer.specs.declared.errors.ReadError.TheVariants as reading
use Rattle.cedar_text_parser.specs.declared.errors.ParseError.{ParseError}
use Rattle.cedar_text_parser.specs.declared.errors.ParseError.TheVariants as parsing
use Rattle.cedar_text_formatter.specs.Formatted.{IsFormatted, IsUnreadable}
use Rattle.cedar_text_parser.specs.Paths.{IsPathRefused}
use Rattle.cedar_text_parser.specs.PolicyReading.{AreTold}
use Rattle.cedar_layers.specs.declared.policies.entities.Entity.{Entity}
use Rattle.cedar_hierarchy.specs.Ancestry.{parents_of}
use Rattle.cedar_hierarchy.specs.declared.error.ClosureError.{ClosureError}
use Rattle.cedar_hierarchy.specs.declared.error.ClosureError.TheVariants as closing
use Rattle.cedar_hierarchy.specs.Paths.{Leads}
use Rattle.cedar_json_reader.specs.declared.errors.JsonError.{JsonError}
use Rattle.cedar_json_reader.specs.declared.errors.JsonError.TheVariants as errors
use Rattle.cedar_json_reader.specs.JsonTexts.{SaysSo, IsTextError}
use Rattle.cedar_json_reader.specs.SaidContexts.{context_said, IsContextRefusal}
use Rattle.cedar_json_reader.specs.SaidEntities.{entities_said}
use Rattle.cedar_json_reader.specs.SaidRequests.{IsRequestRefusal}
use Rattle.cedar_json_reader.specs.Evaluated.{AreEntitiesOf}
use Rattle.cedar_json_reader.specs.FailedEntities.{IsEntitiesError}
use Rattle.cedar_json_reader.specs.NothingUnknown.{IsKnownContextRefusal, IsKnownEntitiesError, IsKnownRequestRefusal}
use Rattle.cedar_cli.specs.declared.asked.Asked.{Asked}
use Rattle.cedar_cli.specs.declared.asked.Source.{Source}
use Rattle.cedar_cli.specs.declared.refusal.Refusal.{Refusal}
use Rattle.cedar_cli.specs.declared.refusal.Refusal.TheVariants as refusals
use Rattle.cedar_cli.specs.Questions.{levels, AreGiven, most_in, at_most_ancestors}
use Rattle.cedar_cli.specs.Standard.{standard_extensions, standard_calls, standard_knowledge}

-- what is told is told for this reason; else memory ran out
abbrev pub IsToldFor : Type 0 → Refusal → Type 0
IsToldFor Why refusals.Memory = ⊤
IsToldFor Why (refusals.Told lines) = Why

-- ---- errors that are not out of memory

abbrev pub IsOfText : ReadError → Type 0
IsOfText reading.Memory = ⊥
IsOfText (reading.Expected w k s e) = ⊤
IsOfText (reading.TooDeep n s e) = ⊤

abbrev pub IsOfPolicies : ParseError → Type 0
IsOfPolicies (parsing.Read e) = IsOfText e
IsOfPolicies (parsing.UnknownFunction n c o s e) = ⊤
IsOfPolicies (parsing.WrongStyle n c s e) = ⊤
IsOfPolicies (parsing.WrongNumberOfArguments n m k s e) = ⊤

abbrev pub IsOfJson : JsonError → Type 0
IsOfJson errors.Syntax = ⊤
IsOfJson errors.DuplicateKey = ⊤
IsOfJson (errors.Refused p r) = ⊤
IsOfJson (errors.Evaluation p e) = ⊤
IsOfJson (errors.Memory e) = ⊥

-- ---- what can't be read

-- the text is no entity and no name: this is the reader's error
pub record IsPathUnread (text : Text) : Type 0 where
  pub error : ReadError
  pub of_text : IsOfText error
  pub refused : IsPathRefused text error

-- the text is no JSON, or this is so of what it says: this is the reader's error
pub record IsJsonUnread (text : Text) (Is : Json → JsonError → Type 0) : Type 0 where
  pub error : JsonError
  pub of_json : IsOfJson error
  pub refused : IsTextError text Is error

-- the text is no policies: these are the reader's errors
pub record ArePoliciesUnread (k : Knowledge) (text : Text) : Type 0 where
  pub first : ParseError
  pub others : List ParseError
  pub of_policies : IsOfPolicies first
  pub refused : AreTold k text levels (first ∷ others)

-- there is a knowledge of functions by which the text is no policies
pub record AreUnread (text : Text) : Type 0 where
  pub known : Knowledge
  pub unread : ArePoliciesUnread known text

-- with the standard functions it is no policies; where they may have unknowns, with some functions
abbrev pub AreUnreadFor : Bool → Text → Type 0
AreUnreadFor false text = ArePoliciesUnread standard_knowledge text
AreUnreadFor true text = AreUnread text

-- the text is no policies, or a token of it can't be read, so that it has no layout
pub data HasNoLayout (text : Text) : Type 0 where
  for_reading : AreUnread text → HasNoLayout text
  for_tokens : IsUnreadable text → HasNoLayout text

-- or it has another one
pub data IsNotLaidOut (text : Text) : Type 0 where
  for_layout : HasNoLayout text → IsNotLaidOut text
  for_change : ¬ IsFormatted text text → IsNotLaidOut text

-- ---- the parts of a question

-- the entity that is given can't be read or, where none is, the type
abbrev pub IsEntryUnread : Option (Bor Text) → Option (Bor Text) → Type 0
IsEntryUnread (Some t) type_name = IsPathUnread t.now
IsEntryUnread None (Some t) = IsPathUnread t.now
IsEntryUnread None None = ⊥

-- one of the three can't be read
pub data AreEntriesUnread (q : Asked) : Type 0 where
  for_principal : IsEntryUnread q.principal q.principal_type → AreEntriesUnread q
  for_action : IsEntryUnread q.action None → AreEntriesUnread q
  for_resource : IsEntryUnread q.resource q.resource_type → AreEntriesUnread q

-- the context that is given can't be read, does not evaluate, or has an unknown in it
abbrev pub IsContextUnread : world.Extensions → StoredCalls → Option Source → Type 0
IsContextUnread X calls None = ⊥
IsContextUnread X calls (Some s) =
    IsJsonUnread s.text.now (λ j e. IsKnownContextRefusal X calls levels (context_said j) [] e)

-- an entity or the context can't be read
pub data ArePartsUnread (X : world.Extensions) (calls : StoredCalls) (q : Asked) : Type 0 where
  for_entries : AreEntriesUnread q → ArePartsUnread X calls q
  for_context : IsContextUnread X calls q.context → ArePartsUnread X calls q

-- or an entity is not given
pub data IsWholeUnread (X : world.Extensions) (calls : StoredCalls) (q : Asked) : Type 0 where
  not_given : ¬ AreGiven q → IsWholeUnread X calls q
  for_parts : ArePartsUnread X calls q → IsWholeUnread X calls q

abbrev pub IsUnreadOr : world.Extensions → StoredCalls → Option Source → Asked → Type 0
IsUnreadOr X calls (Some s) q = IsJsonUnread s.text.now (λ j e. IsKnownRequestRefusal X calls levels j e)
IsUnreadOr X calls None q = IsWholeUnread X calls q

-- the request is given as JSON and can't be read, or its parts can't; or an unknown stands in it
abbrev pub IsRequestUnread : world.Extensions → StoredCalls → Asked → Type 0
IsRequestUnread X calls q = IsUnreadOr X calls q.request q

-- the same where something may be unknown: the context can't be read, or does not evaluate
abbrev pub IsPartialContextUnread : world.Extensions → StoredCalls → Option Source → Type 0
IsPartialContextUnread X calls None = ⊥
IsPartialContextUnread X calls (Some s) =
    IsJsonUnread s.text.now (λ j e. IsContextRefusal X calls levels (context_said j) [] e)

-- an entity or the context can't
pub data ArePartialPartsUnread (X : world.Extensions) (calls : StoredCalls) (q : Asked) : Type 0 where
  partial_entries : AreEntriesUnread q → ArePartialPartsUnread X calls q
  partial_context : IsPartialContextUnread X calls q.context → ArePartialPartsUnread X calls q

abbrev pub IsPartialUnreadOr : world.Extensions → StoredCalls → Option Source → Asked → Type 0
IsPartialUnreadOr X calls (Some s) q = IsJsonUnread s.text.now (λ j e. IsRequestRefusal X calls levels j e)
IsPartialUnreadOr X calls None q = ArePartialPartsUnread X calls q

-- the same of a request that may be known in part: no part of it has to be given
abbrev pub IsPartialUnread : world.Extensions → StoredCalls → Asked → Type 0
IsPartialUnread X calls q = IsPartialUnreadOr X calls q.request q

-- the parents of an entity lead back to it
pub record IsCyclic (es : List Entity) : Type 0 where
  pub name : EntityName
  pub leads : Leads (parents_of es) name name

-- an entity is named whose parents lead back to it; it is not out of memory
abbrev pub NamesOne : ClosureError → Type 0
NamesOne (closing.Memory e) = ⊥
NamesOne (closing.Cycle u) = ⊤

-- the entities can have more ancestors than they may have: more than the limit that is set or, where none is, than
-- 5,000,000
abbrev pub CanHaveMore : List Entity → Option ℕ → Type 0
CanHaveMore es limit = most_in limit < at_most_ancestors es

-- why entities are not closed: their parents lead in a circle, or they are counted, and have more ancestors than that
pub data AreNotClosed (es : List Entity) (limit : Option ℕ) : Type 0 where
  for_cycle : IsCyclic es → AreNotClosed es limit
  for_ancestors : CanHaveMore es limit → AreNotClosed es limit

-- the entities that the JSON says are not closed
pub record AreLeftUnclosed (X : world.Extensions) (calls : StoredCalls) (text : Text) (limit : Option ℕ) : Type 0 where
  pub entities : List Entity
  pub said : SaysSo text (λ j. AreEntitiesOf X calls levels (entities_said j) entities)
  pub not_closed : AreNotClosed entities limit

-- the entities can't be read, or are not closed
pub data AreEntitiesUnread (X : world.Extensions) (calls : StoredCalls) (text : Text) (limit : Option ℕ) : Type 0 where
  entities_unread : IsJsonUnread text (λ j e. IsEntitiesError X calls levels (entities_said j) e)
      → AreEntitiesUnread X calls text limit
  left_unclosed : AreLeftUnclosed X calls text limit → AreEntitiesUnread X calls text limit

abbrev pub IsStoreUnread : world.Extensions → StoredCalls → Option Source → Option ℕ → Type 0
IsStoreUnread X calls None limit = ⊥
IsStoreUnread X calls (Some s) limit = AreEntitiesUnread X calls s.text.now limit

-- the entities can't be read, have an unknown in them, or are not closed
pub data AreKnownEntitiesUnread (X : world.Extensions) (calls : StoredCalls) (text : Text) (limit : Option ℕ)
    : Type 0 where
  known_unread : IsJsonUnread text (λ j e. IsKnownEntitiesError X calls levels (entities_said j) e)
      → AreKnownEntitiesUnread X calls text limit
  known_unclosed : AreLeftUnclosed X calls text limit → AreKnownEntitiesUnread X calls text limit

abbrev pub IsKnownStoreUnread : world.Extensions → StoredCalls → Option Source → Option ℕ → Type 0
IsKnownStoreUnread X calls None limit = ⊥
IsKnownStoreUnread X calls (Some s) limit = AreKnownEntitiesUnread X calls s.text.now limit

-- ---- the whole

-- the entities can't be read, or the request
pub data IsAskedUnread (X : world.Extensions) (calls : StoredCalls) (q : Asked) : Type 0 where
  for_entities : IsKnownStoreUnread X calls q.entities q.max_ancestors → IsAskedUnread X calls q
  for_request : IsRequestUnread X calls q → IsAskedUnread X calls q

-- the policies can't be read, or what is asked
pub data IsUnanswered (k : Knowledge) (X : world.Extensions) (calls : StoredCalls) (text : Text) (q : Asked)
    : Type 0 where
  for_policies : ArePoliciesUnread k text → IsUnanswered k X calls text q
  for_question : IsAskedUnread X calls q → IsUnanswered k X calls text q

-- so it is by the standard extensions
abbrev pub IsUnauthorized : Text → Asked → Type 0
IsUnauthorized text q = IsUnanswered standard_knowledge standard_extensions standard_calls text q
