-- What `authorize --explain` answers to texts: the decision, and below it why each policy came to what it did.
use Rattle.std.specs.Prelude.{◌≡◌, ◌++◌, ℕ, Bool, List, [], ◌∷◌, Option, None, Some, codes, string_bytes}
use Rattle.std.specs.Fmt.{decimal}
use Rattle.cedar_model.specs.Terms.{Text}
use Rattle.cedar_model.specs.World as world
use Rattle.cedar_model.specs.World.{Slots}
use Rattle.cedar_model.specs.Rules.{StoredCalls}
use Rattle.cedar_model.specs.Settings.{Setting, shallow}
use Rattle.cedar_model.specs.Agreement.{HasNothingUnknown}
use Rattle.cedar_decisions.specs.Decisions.{decision_view, mode_view}
use Rattle.cedar_names.specs.declared.names.Loc.{Loc}
use Rattle.cedar_layers.specs.declared.policies.entities.Entities.{Entities}
use Rattle.cedar_layers.specs.declared.policies.policy_set.PolicySet.{PolicySet}
use Rattle.cedar_layers.specs.Policies.{PolicyView}
use Rattle.cedar_layers.specs.PolicySets.{policies_view}
use Rattle.cedar_layers.specs.Stores.{store_view}
use Rattle.cedar_requests.specs.declared.request.Request.{Request}
use Rattle.cedar_requests.specs.Requests.{request_view}
use Rattle.cedar_evaluator.specs.Evaluations.{setting_for}
use Rattle.cedar_text_parser.specs.PolicyReading.{AreAllRead}
use Rattle.cedar_text_parser.specs.declared.policies.ParsedPolicies.{ParsedPolicies}
use Rattle.cedar_explain_printer.specs.declared.lines.LineKind.{LineKind}
use Rattle.cedar_explain_printer.specs.declared.lines.LineKind.TheVariants.{Heading, Policy, Part}
use Rattle.cedar_explain_printer.specs.Lines.{Line}
use Rattle.cedar_explain_printer.specs.Explanations.{IsReachedIn, IsExplanation}
use Rattle.cedar_authorizer.specs.declared.responses.response.Response.{Response}
use Rattle.cedar_authorizer.specs.responses.Responses.{response_view}
use Rattle.cedar_cli.specs.declared.asked.Asked.{Asked}
use Rattle.cedar_cli.specs.declared.asked.Way.{Way}
use Rattle.cedar_cli.specs.declared.decisions.Printed.{Printed}
use Rattle.cedar_cli.specs.Noted.{place_at}
use Rattle.cedar_cli.specs.Printing.{status, word}
use Rattle.cedar_cli.specs.Questions.{levels, IsWholeRequest, IsKnownStore}
use Rattle.cedar_cli.specs.Standard.{standard_extensions, standard_calls, standard_knowledge}
use Rattle.cedar_cli.specs.Visible.{IsVisible}
use Rattle.cedar_cli.specs.Authorized.{AreReasonsIf, HasNoWordBelow, limit_in, setting_of, IsResponseTo, IsExact}
use Rattle.cedar_cli.specs.Authorized.{IsAllowedExactly}

-- ---- what is explained

-- what an evaluator is given of this request over this store, where no unknown has a value
abbrev pub given : world.Extensions → Entities → Request → Slots → Setting
given X s r slots = setting_for (request_view r) (store_view s) X (λ n. None) shallow slots

-- the lines are those of an explanation of the policies for this request over this store
abbrev pub AreExplained : world.Extensions → StoredCalls → PolicySet → Entities → Request → Way → Bool → List Line → Type 0
AreExplained X calls ps s r w has_values lines =
    IsExplanation (IsReachedIn (given X s r) calls (limit_in w.limit)) ps (mode_view w.error_handling) has_values lines

-- ---- how it is printed

-- how a line begins
abbrev pub start_of : LineKind → Text
start_of Heading = codes "\nnote: "
start_of Policy = codes "  "
start_of Part = codes "    "

abbrev pub numbered : ℕ × ℕ → Text
numbered p = codes "line " ++ (decimal p.0 ++ (codes ", column " ++ (decimal p.1 ++ codes ": ")))

-- the line and the column of a place, if it is known
abbrev pub place_text : Text → Option Loc → Text
place_text text None = []
place_text text (Some l) = numbered (place_at text l.start)

-- a line, with what it says as texts are told
pub record IsToldLine (text : Text) (l : Line) (line : Text) : Type 0 where
  pub told : Text
  pub visible : IsVisible l.text told
  pub line_is : line ≡ start_of l.kind ++ (place_text text l.place ++ (told ++ codes "\n"))

-- all of them, one behind the other
abbrev pub AreToldLines : Text → List Line → Text → Type 0
AreToldLines text [] t = t ≡ []
AreToldLines text (l ∷ ls) t =
    (line : Text) × (rest : Text) × IsToldLine text l line × AreToldLines text ls rest × (t ≡ line ++ rest)

-- the text below a decision: the lines of an explanation
pub record IsBelow (X : world.Extensions) (calls : StoredCalls) (text : Text) (ps : PolicySet) (s : Entities)
    (r : Request) (w : Way) (has_values : Bool) (t : Text) : Type 0 where
  pub lines : List Line
  pub explained : AreExplained X calls ps s r w has_values lines
  pub told : AreToldLines text lines t

-- the decision's word stands first, on a line of its own; then the policies that determined it, where they are asked
-- for, and then this text; and the exit status is the decision's
pub record IsWordAbove (is_verbose : Bool) (ps : List PolicyView) (r : Response) (below : Text) (p : Printed)
    : Type 0 where
  pub reasons : Text
  pub reasons_are : AreReasonsIf is_verbose ps r reasons
  pub status_is : p.status ≡ status (decision_view r.decision)
  pub output_is : string_bytes p.output ≡ word (decision_view r.decision) ++ (codes "\n" ++ (reasons ++ below))

-- ---- what is answered

-- of these policies, of this text, and this store: there is a request that is asked, and what is printed is the
-- response to it above an explanation of it; no line below the first one begins with the word of a decision
pub record IsExplainedOver (X : world.Extensions) (calls : StoredCalls) (text : Text) (ps : PolicySet) (s : Entities)
    (q : Asked) (w : Way) (has_values : Bool) (p : Printed) : Type 0 where
  pub request : Request
  pub response : Response
  pub below : Text
  pub request_is : IsWholeRequest X calls q request
  pub response_is : IsResponseTo X calls ps s request w (response_view response)
  pub explanation_is : IsBelow X calls text ps s request w has_values below
  pub printed : IsWordAbove w.is_verbose (policies_view ps) response below p
  pub no_other : HasNoWordBelow (string_bytes p.output)

-- of these policies: there is the closed store that is given
pub record IsExplainedBy (X : world.Extensions) (calls : StoredCalls) (text : Text) (ps : PolicySet) (q : Asked)
    (w : Way) (has_values : Bool) (p : Printed) : Type 0 where
  pub entities : Entities
  pub store_is : IsKnownStore X calls q entities
  pub over : IsExplainedOver X calls text ps entities q w has_values p

-- the whole: the policies are those that the text's tokens derive, the entities and the request those that the texts
-- say, in which nothing is unknown, and all of this is so; without a limit that is set, the response is exact, and
-- `ALLOW` stands first exactly where the policies allow
pub record IsExplained (text : Text) (q : Asked) (w : Way) (has_values : Bool) (p : Printed) : Type 0 where
  pub parsed : ParsedPolicies
  pub policies_are : AreAllRead standard_knowledge text levels parsed
  pub by : IsExplainedBy standard_extensions standard_calls text parsed.policies q w has_values p
  pub nothing_unknown : HasNothingUnknown (setting_of standard_extensions by.over.request by.entities)
  pub exact : w.limit ≡ None
      → IsExact (mode_view w.error_handling) parsed.policies by.entities by.over.request
      (response_view by.over.response)
  pub allows : w.limit ≡ None
      → IsAllowedExactly (mode_view w.error_handling) parsed.policies by.entities by.over.request
      (string_bytes p.output)
