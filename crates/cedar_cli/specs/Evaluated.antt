-- What `evaluate` answers to texts: the value of an expression, what is printed of it, and why there is none.
use Rattle.std.specs.Prelude.{◌≡◌, ◌≢◌, ◌++◌, ⊤, ℕ, Bool, true, false, Option, None, Some, codes, string_bytes}
use Rattle.json.specs.Print.{print}
use Rattle.json.specs.Tree.{json_tokens}
use Rattle.cedar_model.specs.Terms.{Text}
use Rattle.cedar_model.specs.Values.{Represented, expression_of}
use Rattle.cedar_model.specs.World as world
use Rattle.cedar_model.specs.Failures.{Failure, out_of_memory, Answer, fails, answers_value}
use Rattle.cedar_model.specs.Rules.{StoredCalls, Meets}
use Rattle.cedar_model.specs.Settings.{Setting, shallow}
use Rattle.cedar_model.specs.Agreement.{no_slots}
use Rattle.cedar_expressions.specs.View.{view}
use Rattle.cedar_expressions.specs.declared.expr.Expr.{Expr}
use Rattle.cedar_functions.specs.Functions.{Knowledge}
use Rattle.cedar_layers.specs.Stores.{store_view}
use Rattle.cedar_layers.specs.declared.policies.entities.Entities.{Entities}
use Rattle.cedar_requests.specs.Requests.{request_view}
use Rattle.cedar_requests.specs.declared.request.Request.{Request}
use Rattle.cedar_evaluator.specs.Evaluations.{setting_for, IsPromisedValue}
use Rattle.cedar_text_parser.specs.Reading.{IsRead, IsNotParsed}
use Rattle.cedar_text_parser.specs.declared.errors.ParseError.{ParseError}
use Rattle.cedar_text_printer.specs.Texts.{written}
use Rattle.cedar_json_reader.specs.JsonTexts.{SaysSo}
use Rattle.cedar_json_reader.specs.SaidRequests.{IsRequestOf}
use Rattle.cedar_json_writer.specs.Written as json
use Rattle.cedar_cli.specs.declared.asked.Asked.{Asked}
use Rattle.cedar_cli.specs.declared.asked.Source.{Source}
use Rattle.cedar_cli.specs.declared.decisions.Printed.{Printed}
use Rattle.cedar_cli.specs.Questions.{levels, IsOfParts, IsWholeRequest, IsKnownStore}
use Rattle.cedar_cli.specs.Reasons.{IsOfPolicies, IsRequestUnread, ArePartsUnread, IsKnownStoreUnread}
use Rattle.cedar_cli.specs.Standard.{standard_extensions, standard_calls, standard_knowledge}
use Rattle.cedar_cli.specs.Visible.{IsVisible}

-- ---- what is asked

-- the request that the JSON says, in which nothing is unknown, or, where none is given, that of the parts: an entity
-- that is not given is unknown
abbrev pub IsRequestOr : world.Extensions → StoredCalls → Option Source → Asked → Request → Type 0
IsRequestOr X calls (Some s) q r = IsWholeRequest X calls q r
IsRequestOr X calls None q r = IsOfParts X calls q r

-- the limit of levels is the one that is set, if one is
abbrev pub IsLimitOr : Option ℕ → ℕ → Type 0
IsLimitOr None n = ⊤
IsLimitOr (Some limit) n = n ≡ limit

-- ---- what is answered

-- what the evaluator is given: this request over this store, where no unknown has a value
abbrev pub given : world.Extensions → Entities → Request → Setting
given X s r = setting_for (request_view r) (store_view s) X (λ n. None) shallow no_slots

-- an answer to the expression for this request over this store, within so many levels: by the rules of evaluation,
-- and where nothing is unknown by what it means
abbrev pub IsAnswerBy : world.Extensions → StoredCalls → Expr → Entities → Request → ℕ → Answer → Type 0
IsAnswerBy X calls e s r n a = Meets (IsPromisedValue (given X s r) calls n (view e)) a

-- there is a request that is asked, and this is the answer
pub record IsAnswerOver (X : world.Extensions) (calls : StoredCalls) (e : Expr) (s : Entities) (q : Asked)
    (limit : Option ℕ) (a : Answer) : Type 0 where
  pub request : Request
  pub within : ℕ
  pub request_is : IsRequestOr X calls q.request q request
  pub limit_is : IsLimitOr limit within
  pub answer_is : IsAnswerBy X calls e s request within a

-- there is a store that is given, and over it this is the answer
pub record IsAnswerOf (X : world.Extensions) (calls : StoredCalls) (e : Expr) (q : Asked) (limit : Option ℕ)
    (a : Answer) : Type 0 where
  pub entities : Entities
  pub store_is : IsKnownStore X calls q entities
  pub answer : IsAnswerOver X calls e entities q limit a

-- ---- what is printed

-- the value in Cedar's text, as texts are told, on a line
pub record IsTextLine (v : Represented) (output : Text) : Type 0 where
  pub told : Text
  pub visible : IsVisible (written no_slots (expression_of v)) told
  pub line : output ≡ told ++ codes "\n"

-- the value in Cedar's JSON, on a line; or in Cedar's text
abbrev pub IsValueLine : Bool → Represented → Text → Type 0
IsValueLine true v output = output ≡ print (json_tokens (json.written (expression_of v))) ++ codes "\n"
IsValueLine false v output = IsTextLine v output

-- this value is printed, with status 0
pub record IsValuePrinted (is_json : Bool) (v : Represented) (p : Printed) : Type 0 where
  pub status_is : p.status ≡ 0
  pub output_is : IsValueLine is_json v (string_bytes p.output)

-- the whole: there are an expression, which the text's tokens derive, and its value, which is printed
pub record IsEvaluated (text : Text) (q : Asked) (limit : Option ℕ) (is_json : Bool) (p : Printed) : Type 0 where
  pub expr : Expr
  pub value : Represented
  pub expr_is : IsRead standard_knowledge text levels expr
  pub value_is : IsAnswerOf standard_extensions standard_calls expr q limit (answers_value value)
  pub printed : IsValuePrinted is_json value p

-- ---- why nothing is answered

-- the text is no expression: this is the reader's error
pub record IsExpressionUnread (k : Knowledge) (text : Text) : Type 0 where
  pub error : ParseError
  pub of_text : IsOfPolicies error
  pub refused : IsNotParsed k text error

-- the answer is an error, and not out of memory
pub record Errs (Answers : Answer → Type 0) : Type 0 where
  pub error : Failure
  pub is_final : error ≢ out_of_memory
  pub answer : Answers (fails error)

-- the request is given as JSON and can't be read, or its parts can't; or an unknown stands in it
abbrev pub IsEvaluatedUnread : world.Extensions → StoredCalls → Option Source → Asked → Type 0
IsEvaluatedUnread X calls (Some s) q = IsRequestUnread X calls q
IsEvaluatedUnread X calls None q = ArePartsUnread X calls q

-- the request can't be read, or the answer is an error
pub data IsUnvaluedOver (X : world.Extensions) (calls : StoredCalls) (e : Expr) (s : Entities) (q : Asked)
    (limit : Option ℕ) : Type 0 where
  for_request : IsEvaluatedUnread X calls q.request q → IsUnvaluedOver X calls e s q limit
  for_error : Errs (IsAnswerOver X calls e s q limit) → IsUnvaluedOver X calls e s q limit

-- the entities can't be read, or over them there is no value
pub data IsUnvalued (X : world.Extensions) (calls : StoredCalls) (e : Expr) (q : Asked) (limit : Option ℕ)
    : Type 0 where
  for_entities : IsKnownStoreUnread X calls q.entities q.max_ancestors → IsUnvalued X calls e q limit
  over_store : (s : Entities) → IsKnownStore X calls q s → IsUnvaluedOver X calls e s q limit
      → IsUnvalued X calls e q limit

-- the expression can't be read, it has no value, or it has one and JSON is asked for, of which none reads back
pub data IsUnevaluated (text : Text) (q : Asked) (limit : Option ℕ) (is_json : Bool) : Type 0 where
  for_text : IsExpressionUnread standard_knowledge text → IsUnevaluated text q limit is_json
  for_value : (e : Expr) → IsRead standard_knowledge text levels e
      → IsUnvalued standard_extensions standard_calls e q limit → IsUnevaluated text q limit is_json
  for_json : (e : Expr) (v : Represented) → IsRead standard_knowledge text levels e
      → IsAnswerOf standard_extensions standard_calls e q limit (answers_value v) → is_json ≡ true
      → IsUnevaluated text q limit is_json
