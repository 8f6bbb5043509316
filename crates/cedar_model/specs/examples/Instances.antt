-- Instances of the laws' premises: worlds that complete what is unknown, functions that answer, and what is no higher
-- than a bound.
use Rattle.std.specs.Prelude.{◌≡◌, ℕ, pos, Bool, true, false, cond, [], ◌∷◌, Option, Some, None, codes}
use Rattle.cedar_model.specs.Terms.{Text, EntityName, bool_literal, long_literal, entity_literal, bool_type}
use Rattle.cedar_model.specs.Terms.{long_type, context, Term, variable, unknown, if_then_else, both, call}
use Rattle.cedar_model.specs.Terms.{get_attribute, set_of, record_of, no_terms, terms_of, Fields, fields_of}
use Rattle.cedar_model.specs.Values.{AbstractValue, plain, no_values_at, one_value_at, Represented, plain_represented}
use Rattle.cedar_model.specs.Values.{set_represented, no_represented, one_represented, no_represented_at}
use Rattle.cedar_model.specs.Values.{expression_of}
use Rattle.cedar_model.specs.Outcomes.{function_failed, text_eq, entity_eq}
use Rattle.cedar_model.specs.World.{Extensions, Functions, function_gives, function_errs, function_asks, World}
use Rattle.cedar_model.specs.World.{WorldEntity}
use Rattle.cedar_model.specs.Failures.{residual, Answer, answers_bool, answers_value, answers_residual, fails}
use Rattle.cedar_model.specs.Failures.{function_has_failed}
use Rattle.cedar_model.specs.Settings.{RequestPart, known_entry, unknown_entry, ContextPart, known_context}
use Rattle.cedar_model.specs.Settings.{residual_context}
use Rattle.cedar_model.specs.Settings.{StoredEntity, shallow, Setting}
use Rattle.cedar_model.specs.Rules.{StoredCalls, Runs, Exceeds}
use Rattle.cedar_model.specs.Agreement.{height, no_slots, IsCompletion, AgreesWithFunctions, AnswerFaithfully}
use Rattle.cedar_model.specs.laws.Levels.{FunctionsAnswer, FunctionsMeetNoLimit}
use Rattle.cedar_model.specs.Chains.{at_step}
use Rattle.cedar_model.specs.Restricted.{IsGivenSound, first_disallowed, disallowed, of_variable, of_and}
use Rattle.cedar_model.specs.laws.Restricted.{ResidualsHoldUnknowns}
use Rattle.cedar_model.specs.Depth.{IsNoHigher, ContextFollows}
use Rattle.cedar_model.specs.Printing.{read_entity}
use Rattle.cedar_model.specs.examples.Setting.{entity_of_type, user, long, x, some_calls, some_extensions}

-- ---- what is given, with unknowns: the principal, a value in the context, and a stored attribute that the map names

abbrev pub waiting_entity : EntityName
waiting_entity = entity_of_type (codes "E") (codes "e")

abbrev pub waiting_facts : StoredEntity
waiting_facts =
    record { attributes = (codes "f", residual (unknown (codes "u") None)) ∷ []; tags = []; ancestors = [] }

abbrev pub seven : Represented
seven = plain_represented (long_literal (pos 7))

-- the store is concrete or partial
abbrev pub waiting : Bool → Setting
waiting is_partial = record {
  request =
      record {
        principal_entry = unknown_entry (Some (codes "User"));
        action_entry = known_entry
            (user (codes "act"));
        resource_entry = known_entry (user (codes "r"));
        context_part = residual_context
            (fields_of ((codes "test", unknown (codes "name") (Some bool_type)) ∷ []));
      };
  store =
      record { entity = λ e. cond (entity_eq e waiting_entity) (Some waiting_facts) None; is_partial = is_partial };
  map = λ n. cond (text_eq n (codes "u")) (Some seven) None;
  slots = no_slots;
  extensions = some_extensions;
  resolution = shallow;
}

-- ---- a world that completes it

unfoldable pub value_of_unknown : Option EntityName → Text → AbstractValue
value_of_unknown (Some e) n = plain (entity_literal e)
value_of_unknown None n =
    cond (text_eq n (codes "principal")) (plain (entity_literal (user (codes "a")))) (cond (text_eq n (codes "name"))
    (plain (bool_literal true)) (plain (long_literal (pos 7))))

abbrev pub known_facts : WorldEntity
known_facts = record {
  is_ancestor = λ e. false;
  attribute = λ k. cond (text_eq k (codes "f")) (Some (plain (long_literal (pos 7)))) None;
  tag = λ k. None;
}

-- the unknown of each entity that is missing is that entity
abbrev pub completing : World
completing = record {
  principal_entity = user (codes "a");
  action_entity = user (codes "act");
  resource_entity = user (codes "r");
  context_record = one_value_at (codes "test") (plain (bool_literal true)) no_values_at;
  store = λ e. cond (entity_eq e waiting_entity) (Some known_facts) None;
  sigma = λ n. value_of_unknown (read_entity n) n;
}

-- ---- functions: `ask` answers an unknown, `fail` an error, any other true

abbrev pub asking : Text → Answer
asking f =
    cond (text_eq f (codes "ask")) (answers_residual (unknown (codes "q") (Some long_type)))
    (cond (text_eq f (codes "fail")) (fails (function_has_failed (codes "ext") (codes "no"))) (answers_bool true))

abbrev pub asking_calls : StoredCalls
asking_calls f vs a = a ≡ asking f

abbrev pub asked_functions : Functions
asked_functions f vs =
    cond (text_eq f (codes "ask")) (function_asks (codes "q") (Some long_type)) (cond (text_eq f (codes "fail"))
    (function_errs function_failed) (function_gives (plain (bool_literal true))))

-- the world completes what is given, with a concrete store and with a partial one
abbrev pub UnknownsAreCompleted : Type 0
UnknownsAreCompleted = (is_partial : Bool) → IsCompletion asked_functions completing (waiting is_partial)

-- the functions answer to any arguments, agree with one answer, answer faithfully and never by the limit
abbrev pub FunctionsCanAnswer : Type 0
FunctionsCanAnswer =
    ((arity : Text → Option ℕ) → FunctionsAnswer asking_calls arity) × AgreesWithFunctions asked_functions asking_calls ×
    ((X : Extensions) → AnswerFaithfully X asked_functions asking_calls) × FunctionsMeetNoLimit asking_calls

-- where no function exists, none has to answer
abbrev pub no_calls : StoredCalls
no_calls f vs a = ⊥

abbrev pub NoFunctionMustAnswer : Type 0
NoFunctionMustAnswer = FunctionsAnswer no_calls (λ f. None) × FunctionsMeetNoLimit no_calls

-- what is given here is sound, its residuals hold unknowns, and with its map it is no higher than 2
abbrev pub WaitingIsSound : Type 0
WaitingIsSound =
    (is_partial : Bool) → IsGivenSound asking_calls (waiting is_partial) ×
    ResidualsHoldUnknowns asking_calls (waiting is_partial) ×
    IsNoHigher asking_calls (waiting is_partial) (waiting is_partial).map 2

-- ---- depth

-- nothing is stored
abbrev pub bare : (Text → Option Represented) → ContextPart → Setting
bare m c = record {
  request =
      record {
        principal_entry = known_entry (user (codes "p"));
        action_entry = known_entry
            (user (codes "act"));
        resource_entry = known_entry (user (codes "r"));
        context_part = c;
      };
  store = record { entity = λ e. None; is_partial = false };
  map = m;
  slots = no_slots;
  extensions = some_extensions;
  resolution = shallow;
}

-- `{{1}}`, of height 3
abbrev pub nested_set : Represented
nested_set =
    set_represented (one_represented (set_represented
    (one_represented (plain_represented (long_literal (pos 1))) no_represented)) no_represented)

abbrev pub mapped_high : Setting
mapped_high = bare (λ n. cond (text_eq n (codes "x")) (Some nested_set) None) (known_context no_represented_at)

-- `{a: x, b: y}.a`, of height 3: the mapped value is projected, and interpreted again
abbrev pub projects_mapped : Term
projects_mapped =
    get_attribute (record_of (fields_of ((codes "a", x) ∷ (codes "b", unknown (codes "y") None) ∷ []))) (codes "a")

abbrev pub ProjectedValueNeedsFour : Type 0
ProjectedValueNeedsFour =
    IsGivenSound some_calls mapped_high × IsNoHigher some_calls mapped_high mapped_high.map 3 ×
    Exceeds mapped_high some_calls projects_mapped 3 ×
    Runs mapped_high some_calls 4 projects_mapped (answers_value nested_set)

-- why residuals are restricted: in a context `{a: {q: {r: context}}}`, of height 4, `context.a.q.r.a`, of height 5,
-- needs more than 9
abbrev pub looped : Setting
looped =
    bare (λ n. None) (residual_context (fields_of ((
      codes "a",
      record_of (fields_of ((codes "q", record_of (fields_of ((codes "r", variable context) ∷ []))) ∷ [])),
    ) ∷ [])))

abbrev pub follows_loop : Term
follows_loop =
    get_attribute (get_attribute (get_attribute (get_attribute (variable context) (codes "a")) (codes "q"))
    (codes "r")) (codes "a")

abbrev pub VariablesInContextsNeedMore : Type 0
VariablesInContextsNeedMore =
    IsNoHigher some_calls looped looped.map 4 × (height follows_loop ≡ 5) × Exceeds looped some_calls follows_loop 9

-- why a step has twice the bound: a function without arguments answers `{{{1}}}`, of height 4, and is called in a
-- context
-- of height 4, `{a: {b: {c: f(), d: x}}}`
abbrev pub deeper_set : Represented
deeper_set = set_represented (one_represented nested_set no_represented)

abbrev pub nesting_calls : StoredCalls
nesting_calls f vs a = a ≡ answers_value deeper_set

abbrev pub nesting_extensions : Extensions
nesting_extensions = record { arity = λ f. Some 0; overloaded = [] }

abbrev pub context_around : Term → Fields
context_around t =
    fields_of ((
      codes "a",
      record_of (fields_of ((
        codes "b",
        record_of (fields_of ((codes "c", t) ∷ (codes "d", x) ∷
            [])),
      ) ∷ [])),
    ) ∷ [])

-- the function is called, and once it has answered
abbrev pub calling_context : Fields
calling_context = context_around (call (codes "f") no_terms)

abbrev pub grown_context : Fields
grown_context = context_around (expression_of deeper_set)

abbrev pub request_with : ContextPart → RequestPart
request_with c = record {
  principal_entry = known_entry (user (codes "p"));
  action_entry = known_entry (user (codes "act"));
  resource_entry = known_entry (user (codes "r"));
  context_part = c;
}

abbrev pub calling : Setting
calling = record {
  request = request_with (residual_context calling_context);
  store = record { entity = λ e. None; is_partial = false };
  map = λ n. None;
  slots = no_slots;
  extensions = nesting_extensions;
  resolution = shallow;
}

-- then `context.a`, of height 2, needs more than 2 + 4
abbrev pub ContextGrows : Type 0
ContextGrows =
    IsGivenSound nesting_calls calling × IsNoHigher nesting_calls calling calling.map 4 ×
    ContextFollows calling nesting_calls calling.map (residual_context calling_context)
    (residual_context grown_context) ×
    Exceeds (at_step calling.extensions calling.resolution (request_with (residual_context grown_context))
    calling.store calling.map) nesting_calls
    (get_attribute (variable context) (codes "a")) 6

-- ---- disallowed parts

-- of `[1, {a: principal}]` the variable
abbrev pub VariableIsDisallowed : Type 0
VariableIsDisallowed =
    first_disallowed (set_of (terms_of (long 1 ∷ record_of (fields_of ((codes "a", variable context) ∷ [])) ∷
    []))) ≡ disallowed of_variable (variable context)

-- of `{b: if x then 1 else 2, a: x && x}` the part at the first key
abbrev pub FirstKeyIsDisallowed : Type 0
FirstKeyIsDisallowed =
    first_disallowed (record_of (fields_of ((codes "a", both x x) ∷ (codes "b", if_then_else x (long 1) (long 2)) ∷
    []))) ≡ disallowed of_and (both x x)
