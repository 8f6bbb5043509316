-- When a world fits an expression and agrees with what an evaluator is given; faithful values; where nothing is
-- unknown.
use Rattle.std.specs.Prelude.{◌≡◌, ◌≢◌, ℕ, suc, max, true, false, List, [], ◌∷◌, map, Option, Some, None, Ok, codes}
use Rattle.cedar_model.specs.Terms.{Text, EntityName, entity_literal, ValueType, Term, literal, variable, slot, unknown}
use Rattle.cedar_model.specs.Terms.{if_then_else, both, either, unary, binary, call, get_attribute, has_attribute}
use Rattle.cedar_model.specs.Terms.{extended_has, like, is_of_type, set_of, record_of, Terms, no_terms, one_term}
use Rattle.cedar_model.specs.Terms.{Fields, no_fields, one_field}
use Rattle.cedar_model.specs.Values.{AbstractValue, plain, record_value, extension_value, AbstractFields, no_values_at}
use Rattle.cedar_model.specs.Values.{Represented, plain_represented, set_represented, record_represented}
use Rattle.cedar_model.specs.Values.{extension_represented, RepresentedValues, no_represented, one_represented}
use Rattle.cedar_model.specs.Values.{RepresentedFields, no_represented_at, one_represented_at, abstract_value}
use Rattle.cedar_model.specs.Values.{abstract_fields}
use Rattle.cedar_model.specs.Sets.{IsStrictlyInOrder}
use Rattle.cedar_model.specs.Shapes.{is_restricted}
use Rattle.cedar_model.specs.Outcomes.{Outcome, gives, errs, value_type}
use Rattle.cedar_model.specs.World.{WorldEntity, World, Slots, FunctionAnswer, function_gives, function_errs}
use Rattle.cedar_model.specs.World.{function_asks, Extensions, Functions}
use Rattle.cedar_model.specs.Meaning.{meaning, field_meanings}
use Rattle.cedar_model.specs.Failures.{FailureKind, of_meaning, of_residual, of_limit, of_memory, failure_kind}
use Rattle.cedar_model.specs.Failures.{PartialValue, value, residual, Answer, answers, fails}
use Rattle.cedar_model.specs.Settings.{Entry, known_entry, unknown_entry, ContextPart, absent_context, known_context}
use Rattle.cedar_model.specs.Settings.{residual_context, RequestPart, StoredEntity, Store, Setting, printed_entity}
use Rattle.cedar_model.specs.Settings.{part_at, is_among, Found, found, not_there, not_known, look_up}
use Rattle.cedar_model.specs.Rules.{StoredCalls}

-- ---- height

-- one more than the greatest height of the parts
abbrev mutual
  pub height : Term → ℕ
  height (literal l) = 1
  height (variable v) = 1
  height (slot s) = 1
  height (unknown n t) = 1
  height (if_then_else c a b) = suc (max (height c) (max (height a) (height b)))
  height (both a b) = suc (max (height a) (height b))
  height (either a b) = suc (max (height a) (height b))
  height (unary op a) = suc (height a)
  height (binary op a b) = suc (max (height a) (height b))
  height (call f ts) = suc (greatest_height ts)
  height (get_attribute a k) = suc (height a)
  height (has_attribute a k) = suc (height a)
  height (extended_has a k ks) = suc (height a)
  height (like a p) = suc (height a)
  height (is_of_type a t) = suc (height a)
  height (set_of ts) = suc (greatest_height ts)
  height (record_of fs) = suc (greatest_height_at fs)

  pub greatest_height : Terms → ℕ
  greatest_height no_terms = 0
  greatest_height (one_term t ts) = max (height t) (greatest_height ts)

  pub greatest_height_at : Fields → ℕ
  greatest_height_at no_fields = 0
  greatest_height_at (one_field k t fs) = max (height t) (greatest_height_at fs)

-- ---- the same outcome

-- the value, if there is one
unfoldable pub outcome_value : Outcome → Option AbstractValue
outcome_value (gives v) = Some v
outcome_value (errs e) = None

-- equal values, or an error on both sides, of whatever kind
abbrev pub HaveSameOutcome : Outcome → Outcome → Type 0
HaveSameOutcome o p = outcome_value o ≡ outcome_value p

-- ---- unknowns

module _ (OfUnknown : Text → Option ValueType → Type 0) (OfFunction : Text → Type 0) where
  -- one thing holds of each unknown of the expression (of its name and its annotation), and another of each function
  -- that is called in it
  abbrev mutual
    pub HoldsThroughout : Term → Type 0
    HoldsThroughout (literal l) = Unit {0}
    HoldsThroughout (variable v) = Unit {0}
    HoldsThroughout (slot s) = Unit {0}
    HoldsThroughout (unknown n t) = OfUnknown n t
    HoldsThroughout (if_then_else c a b) = HoldsThroughout c × HoldsThroughout a × HoldsThroughout b
    HoldsThroughout (both a b) = HoldsThroughout a × HoldsThroughout b
    HoldsThroughout (either a b) = HoldsThroughout a × HoldsThroughout b
    HoldsThroughout (unary op a) = HoldsThroughout a
    HoldsThroughout (binary op a b) = HoldsThroughout a × HoldsThroughout b
    HoldsThroughout (call f ts) = OfFunction f × HoldsOfEach ts
    HoldsThroughout (get_attribute a k) = HoldsThroughout a
    HoldsThroughout (has_attribute a k) = HoldsThroughout a
    HoldsThroughout (extended_has a k ks) = HoldsThroughout a
    HoldsThroughout (like a p) = HoldsThroughout a
    HoldsThroughout (is_of_type a t) = HoldsThroughout a
    HoldsThroughout (set_of ts) = HoldsOfEach ts
    HoldsThroughout (record_of fs) = HoldsOfEachAt fs

    pub HoldsOfEach : Terms → Type 0
    HoldsOfEach no_terms = Unit {0}
    HoldsOfEach (one_term t ts) = HoldsThroughout t × HoldsOfEach ts

    pub HoldsOfEachAt : Fields → Type 0
    HoldsOfEachAt no_fields = Unit {0}
    HoldsOfEachAt (one_field k t fs) = HoldsThroughout t × HoldsOfEachAt fs

-- the unknown's value has the annotated type
abbrev pub HasType : World → Text → Option ValueType → Type 0
HasType w n None = Unit {0}
HasType w n (Some t) = value_type (w.sigma n) ≡ t

-- so has the value of each unknown that the function can answer
abbrev pub FitsFunction : Functions → World → Text → Type 0
FitsFunction ans w f =
    (vs : List AbstractValue) (n : Text) (t : Option ValueType) → ans f vs ≡ function_asks n t → HasType w n t

module _ (ans : Functions) (w : World) where
  -- each annotated unknown of the expression, and of the functions that it calls, has its type
  abbrev pub Fits : Term → Type 0
  Fits t = HoldsThroughout (HasType w) (FitsFunction ans w) t

  abbrev pub FitEach : Terms → Type 0
  FitEach ts = HoldsOfEach (HasType w) (FitsFunction ans w) ts

  abbrev pub FitEachAt : Fields → Type 0
  FitEachAt fs = HoldsOfEachAt (HasType w) (FitsFunction ans w) fs

-- the function answers no unknown
abbrev pub NeverAsks : Functions → Text → Type 0
NeverAsks ans f = (vs : List AbstractValue) (n : Text) (t : Option ValueType) → ans f vs ≢ function_asks n t

module _ (ans : Functions) where
  -- the expression has no unknown and calls no function that can answer one
  abbrev pub IsKnown : Term → Type 0
  IsKnown t = HoldsThroughout (λ n o. ⊥) (NeverAsks ans) t

  abbrev pub AreKnown : Terms → Type 0
  AreKnown ts = HoldsOfEach (λ n o. ⊥) (NeverAsks ans) ts

  abbrev pub AreKnownAt : Fields → Type 0
  AreKnownAt fs = HoldsOfEachAt (λ n o. ⊥) (NeverAsks ans) fs

-- ---- faithful values

module _ (X : Extensions) (ans : Functions) where
  -- each extension value in it is written as a call that is known and means it in every world; and its sets are in
  -- order
  abbrev mutual
    pub IsFaithful : Represented → Type 0
    IsFaithful (plain_represented l) = Unit {0}
    IsFaithful (set_represented vs) = IsStrictlyInOrder vs × AreFaithful vs
    IsFaithful (record_represented fs) = AreFaithfulAt fs
    IsFaithful (extension_represented t k f ts) =
        IsKnown ans (call f ts) × ((w : World) (slots : Slots)
        → meaning X ans w slots (call f ts) ≡ gives (extension_value t k))

    pub AreFaithful : RepresentedValues → Type 0
    AreFaithful no_represented = Unit {0}
    AreFaithful (one_represented v vs) = IsFaithful v × AreFaithful vs

    pub AreFaithfulAt : RepresentedFields → Type 0
    AreFaithfulAt no_represented_at = Unit {0}
    AreFaithfulAt (one_represented_at k v fs) = IsFaithful v × AreFaithfulAt fs

  abbrev pub AllFaithful : List Represented → Type 0
  AllFaithful [] = Unit {0}
  AllFaithful (v ∷ vs) = IsFaithful v × AllFaithful vs

-- ---- functions

-- what a stored function answered, as the model sees it: a value, an error of one of the nine kinds, or an unknown
unfoldable pub failure_answer : FailureKind → Option FunctionAnswer
failure_answer (of_meaning k) = Some (function_errs k)
failure_answer of_residual = None
failure_answer of_limit = None
failure_answer of_memory = None

unfoldable pub function_answer : Answer → Option FunctionAnswer
function_answer (answers (value v)) = Some (function_gives (abstract_value v))
function_answer (answers (residual (unknown n t))) = Some (function_asks n t)
function_answer (answers (residual t)) = None
function_answer (fails e) = failure_answer (failure_kind e)

-- each stored function answers one outcome to equal arguments, and `ans` says which
abbrev pub AgreesWithFunctions : Functions → StoredCalls → Type 0
AgreesWithFunctions ans calls =
    (f : Text) (vs : List Represented) (a : Answer) → calls f vs a
    → function_answer a ≡ Some (ans f (map abstract_value vs))

-- to faithful values the functions answer faithful values
abbrev pub AnswerFaithfully : Extensions → Functions → StoredCalls → Type 0
AnswerFaithfully X ans calls =
    (f : Text) (vs : List Represented) (v : Represented) → AllFaithful X ans vs → calls f vs (answers (value v))
    → IsFaithful X ans v

-- ---- agreement

abbrev pub no_slots : Slots
no_slots s = None

abbrev pub IsOfType : Option Text → EntityName → Type 0
IsOfType None e = Unit {0}
IsOfType (Some t) e = e.type_name ≡ t

-- a known entry is the world's entity; an unknown one stands for it
abbrev pub AgreesWithEntry : World → Text → EntityName → Entry → Type 0
AgreesWithEntry w name e (known_entry d) = e ≡ d
AgreesWithEntry w name e (unknown_entry t) = (w.sigma name ≡ plain (entity_literal e)) × IsOfType t e

module _ (X : Extensions) (ans : Functions) (w : World) where
  -- the value, or what the residual means without slots, is this
  abbrev pub PartMeans : PartialValue → AbstractValue → Type 0
  PartMeans (value v) u = abstract_value v ≡ u
  PartMeans (residual t) u = meaning X ans w no_slots t ≡ gives u

  abbrev pub AgreesWithContext : ContextPart → Type 0
  AgreesWithContext absent_context = w.sigma (codes "context") ≡ record_value w.context_record
  AgreesWithContext (known_context fs) = abstract_fields fs ≡ w.context_record
  AgreesWithContext (residual_context fs) = field_meanings X ans w no_slots fs ≡ Ok w.context_record

  pub record AgreesWithRequest (r : RequestPart) : Type 0 where
    pub principal_agrees : AgreesWithEntry w (codes "principal") w.principal_entity r.principal_entry
    pub action_agrees : AgreesWithEntry w (codes "action") w.action_entity r.action_entry
    pub resource_agrees : AgreesWithEntry w (codes "resource") w.resource_entity r.resource_entry
    pub context_agrees : AgreesWithContext r.context_part

  -- the part is there exactly where the world's value is, and means it
  abbrev pub AgreesAt : Option PartialValue → Option AbstractValue → Type 0
  AgreesAt None None = Unit {0}
  AgreesAt None (Some u) = ⊥
  AgreesAt (Some p) None = ⊥
  AgreesAt (Some p) (Some u) = PartMeans p u

  -- exactly the recorded ancestors, attributes and tags
  pub record AgreesWithFacts (x : StoredEntity) (y : WorldEntity) : Type 0 where
    pub ancestors_agree : (e : EntityName) → y.is_ancestor e ≡ is_among e x.ancestors
    pub attributes_agree : (k : Text) → AgreesAt (part_at k x.attributes) (y.attribute k)
    pub tags_agree : (k : Text) → AgreesAt (part_at k x.tags) (y.tag k)

  abbrev pub AgreesWithFound : EntityName → Found → Option WorldEntity → Type 0
  AgreesWithFound e (found x) (Some y) = AgreesWithFacts x y
  AgreesWithFound e (found x) None = ⊥
  AgreesWithFound e not_there o = o ≡ None
  AgreesWithFound e not_known o = w.sigma (printed_entity e) ≡ plain (entity_literal e)

  -- each entity of the store is in the world. A concrete store has no other; of a partial one the unknown of each
  -- missing entity is that entity
  abbrev pub AgreesWithStore : Store → Type 0
  AgreesWithStore s = (e : EntityName) → AgreesWithFound e (look_up s e) (w.store e)

-- each unknown that the map names is its value
abbrev pub AgreesWithMap : World → (Text → Option Represented) → Type 0
AgreesWithMap w m = (n : Text) (v : Represented) → m n ≡ Some v → w.sigma n ≡ abstract_value v

module _ (X : Extensions) (ans : Functions) where
  -- a value is faithful
  abbrev pub IsFaithfulPart : PartialValue → Type 0
  IsFaithfulPart (value v) = IsFaithful X ans v
  IsFaithfulPart (residual t) = Unit {0}

  abbrev pub IsFaithfulContext : ContextPart → Type 0
  IsFaithfulContext absent_context = Unit {0}
  IsFaithfulContext (known_context fs) = AreFaithfulAt X ans fs
  IsFaithfulContext (residual_context fs) = Unit {0}

  -- a residual fits the world
  abbrev pub FitsPart : World → PartialValue → Type 0
  FitsPart w (value v) = Unit {0}
  FitsPart w (residual t) = Fits ans w t

  abbrev pub FitsContext : World → ContextPart → Type 0
  FitsContext w absent_context = Unit {0}
  FitsContext w (known_context fs) = Unit {0}
  FitsContext w (residual_context fs) = FitEachAt ans w fs

-- each stored attribute and tag is such a part
abbrev pub EachStored : (PartialValue → Type 0) → Store → Type 0
EachStored Such s =
    (e : EntityName) (x : StoredEntity) (k : Text) (p : PartialValue) → s.entity e ≡ Some x
    → ((part_at k x.attributes ≡ Some p → Such p) × (part_at k x.tags ≡ Some p → Such p))

-- a residual is restricted
abbrev pub IsRestrictedPart : PartialValue → Type 0
IsRestrictedPart (value v) = Unit {0}
IsRestrictedPart (residual t) = is_restricted t ≡ true

-- ---- completion: a world agrees and fits, the values that are given are faithful, and (of policies, `FitPolicies`)
-- the world fits the conditions

-- a world agrees with all that the evaluator is given, and fits its residuals
pub record AgreesAndFits (ans : Functions) (w : World) (s : Setting) : Type 0 where
  pub request_agrees : AgreesWithRequest s.extensions ans w s.request
  pub store_agrees : AgreesWithStore s.extensions ans w s.store
  pub map_agrees : AgreesWithMap w s.map
  pub context_fits : FitsContext s.extensions ans w s.request.context_part
  pub store_fits : EachStored (FitsPart s.extensions ans w) s.store

-- the values of the context, the store and the map are faithful
pub record HasFaithfulValues (ans : Functions) (s : Setting) : Type 0 where
  pub context_faithful : IsFaithfulContext s.extensions ans s.request.context_part
  pub store_faithful : EachStored (IsFaithfulPart s.extensions ans) s.store
  pub map_faithful : (n : Text) (v : Represented) → s.map n ≡ Some v → IsFaithful s.extensions ans v

-- both
pub record IsCompletion (ans : Functions) (w : World) (s : Setting) : Type 0 where
  pub agreement : AgreesAndFits ans w s
  pub values : HasFaithfulValues ans s

-- a completion, with stored functions that each answer what `ans` says, and faithful values to faithful ones
pub record CompletesWith (calls : StoredCalls) (ans : Functions) (w : World) (s : Setting) : Type 0 where
  pub completion : IsCompletion ans w s
  pub functions_agree : AgreesWithFunctions ans calls
  pub functions_are_faithful : AnswerFaithfully s.extensions ans calls

-- ---- where nothing is unknown

abbrev pub IsKnownEntry : Entry → Type 0
IsKnownEntry (known_entry e) = Unit {0}
IsKnownEntry (unknown_entry t) = ⊥

abbrev pub IsKnownContext : ContextPart → Type 0
IsKnownContext absent_context = ⊥
IsKnownContext (known_context fs) = Unit {0}
IsKnownContext (residual_context fs) = ⊥

abbrev pub IsValue : PartialValue → Type 0
IsValue (value v) = Unit {0}
IsValue (residual t) = ⊥

-- the entries are known, the context is a value, and the store is concrete and holds values alone
pub record HasNothingUnknown (s : Setting) : Type 0 where
  pub principal_known : IsKnownEntry s.request.principal_entry
  pub action_known : IsKnownEntry s.request.action_entry
  pub resource_known : IsKnownEntry s.request.resource_entry
  pub context_known : IsKnownContext s.request.context_part
  pub store_concrete : s.store.is_partial ≡ false
  pub store_known : EachStored IsValue s.store

-- nothing is unknown, and stored functions each answer what `ans` says
pub record IsAllKnown (calls : StoredCalls) (ans : Functions) (s : Setting) : Type 0 where
  pub nothing_unknown : HasNothingUnknown s
  pub functions_agree : AgreesWithFunctions ans calls

-- and a world agrees with the request and the store
pub record IsAllKnownIn (calls : StoredCalls) (ans : Functions) (w : World) (s : Setting) : Type 0 where
  pub all_known : IsAllKnown calls ans s
  pub request_agrees : AgreesWithRequest s.extensions ans w s.request
  pub store_agrees : AgreesWithStore s.extensions ans w s.store

-- the answer is the outcome: its value, or an error of its kind
abbrev pub FailsAs : FailureKind → Outcome → Type 0
FailsAs (of_meaning k) o = o ≡ errs k
FailsAs of_residual o = ⊥
FailsAs of_limit o = ⊥
FailsAs of_memory o = ⊥

abbrev pub AnswersOutcome : Answer → Outcome → Type 0
AnswersOutcome (answers (value v)) o = o ≡ gives (abstract_value v)
AnswersOutcome (answers (residual t)) o = ⊥
AnswersOutcome (fails e) o = FailsAs (failure_kind e) o

-- an answer stands for an outcome: a faithful value that is its value; an error, where it errs; or a residual that fits
-- the world and has the same outcome without slots. The recursion limit and running out of memory say nothing
abbrev pub FailsFor : FailureKind → Outcome → Type 0
FailsFor (of_meaning k) o = outcome_value o ≡ None
FailsFor of_residual o = outcome_value o ≡ None
FailsFor of_limit o = Unit {0}
FailsFor of_memory o = Unit {0}

abbrev pub StandsFor : Extensions → Functions → World → Answer → Outcome → Type 0
StandsFor X ans w (answers (value v)) o = IsFaithful X ans v × (o ≡ gives (abstract_value v))
StandsFor X ans w (answers (residual t)) o =
    Fits ans w t × HaveSameOutcome (meaning X ans w no_slots t) o
StandsFor X ans w (fails e) o = FailsFor (failure_kind e) o

-- ---- the own world: the request's entities and context, the store's entities, and any values for unknowns

unfoldable pub entity_of_entry : Entry → EntityName
entity_of_entry (known_entry e) = e
entity_of_entry (unknown_entry t) = record { type_name = []; id = [] }

unfoldable pub fields_of_context : ContextPart → AbstractFields
fields_of_context absent_context = no_values_at
fields_of_context (known_context fs) = abstract_fields fs
fields_of_context (residual_context fs) = no_values_at

unfoldable pub value_of_part : Option PartialValue → Option AbstractValue
value_of_part None = None
value_of_part (Some (value v)) = Some (abstract_value v)
value_of_part (Some (residual t)) = None

unfoldable pub world_entity : Option StoredEntity → Option WorldEntity
world_entity None = None
world_entity (Some x) =
    Some record {
      is_ancestor = λ e. is_among e x.ancestors;
      attribute =
          λ k. value_of_part (part_at k x.attributes);
      tag = λ k. value_of_part (part_at k x.tags);
    }

abbrev pub own_world : Setting → (Text → AbstractValue) → World
own_world s sigma = record {
  principal_entity = entity_of_entry s.request.principal_entry;
  action_entity = entity_of_entry s.request.action_entry;
  resource_entity = entity_of_entry s.request.resource_entry;
  context_record = fields_of_context s.request.context_part;
  store = λ e. world_entity (s.store.entity e);
  sigma = sigma;
}
