-- What is planned of texts, and what is printed of it.
use Rattle.std.specs.Prelude.{◌≡◌, ◌++◌, Bool, true, false, [], Some, codes, string_bytes}
use Rattle.cedar_model.specs.Terms.{Text}
use Rattle.cedar_model.specs.World as world
use Rattle.cedar_model.specs.Rules.{StoredCalls}
use Rattle.cedar_model.specs.Authorizations.{HaveNoLimit}
use Rattle.cedar_functions.specs.Functions.{Knowledge}
use Rattle.cedar_names.specs.UnknownFields.{UnknownFields}
use Rattle.cedar_layers.specs.declared.policies.entities.Entities.{Entities}
use Rattle.cedar_layers.specs.declared.policies.policy_set.PolicySet.{PolicySet}
use Rattle.cedar_layers.specs.Stores.{store_view}
use Rattle.cedar_requests.specs.Requests.{request_view}
use Rattle.cedar_text_parser.specs.PolicyReading.{AreAllRead}
use Rattle.cedar_text_parser.specs.declared.policies.ParsedPolicies.{ParsedPolicies}
use Rattle.cedar_authorizer.specs.declared.responses.partial_response.PartialResponse.{PartialResponse}
use Rattle.cedar_authorizer.specs.Configured.{asked_of}
use Rattle.cedar_authorizer.specs.Responding.{considered}
use Rattle.cedar_authorizer.specs.Running.{errors_of, request_of, IsRun}
use Rattle.cedar_filter.specs.Filters.{row_term}
use Rattle.cedar_plan.specs.declared.plans.Plan.{Plan}
use Rattle.cedar_plan.specs.Planned.{plan_row, IsPlanOf}
use Rattle.cedar_sql.specs.declared.columns.Columns.{Columns}
use Rattle.cedar_sql.specs.declared.terms.SqlTerm.{SqlTerm}
use Rattle.cedar_sql.specs.Terms.{sql_term}
use Rattle.cedar_sql.specs.Texts.{term_text}
use Rattle.cedar_sql_columns.specs.declared.tables.SqlTable.{SqlTable}
use Rattle.cedar_sql_columns.specs.JsonTexts.{Says}
use Rattle.cedar_sql_columns.specs.Said.{table_said}
use Rattle.cedar_sql_columns.specs.Tables.{table_view}
use Rattle.cedar_sql_plan.specs.Meaning.{IsAllowedTerm, IsCandidateTerm, ShowsAllowed, LeavesOutDenied}
use Rattle.cedar_cli.specs.declared.asked.Asked.{Asked}
use Rattle.cedar_cli.specs.declared.asked.Way.{Way}
use Rattle.cedar_cli.specs.declared.decisions.Printed.{Printed}
use Rattle.cedar_cli.specs.Questions.{levels, IsPartialRequest, IsGivenStore}
use Rattle.cedar_cli.specs.Stages.{partial_configuration}
use Rattle.cedar_cli_sql.specs.Rows.{row_in, row_fits}

-- ---- what is printed

-- a line of SQL's comments, where the rows are candidates
abbrev pub first_line : Bool → Text
first_line false = []
first_line true = codes "-- candidates: rows that may be allowed\n"

-- the expression stands on a line, where the table and its columns are called so
abbrev pub sql_line : SqlTable → Bool → SqlTerm → Text
sql_line table is_candidates t =
    first_line is_candidates ++ (term_text table.names false t ++ codes "\n")

-- the expression is 1 exactly on the rows that can stand for the unknown and are allowed whatever the policies do that SQL
-- does not say: what it shows can, and is allowed
pub record IsOfAllowed (p : Plan) (columns : Columns) (t : SqlTerm) : Type 0 where
  pub allowed : IsAllowedTerm p columns (sql_term t)
  pub shown : ShowsAllowed p columns (sql_term t)

-- it is 0 exactly on those that can't or are denied whatever they do: what it leaves out of those that can is denied
pub record IsOfCandidates (p : Plan) (columns : Columns) (t : SqlTerm) : Type 0 where
  pub candidates : IsCandidateTerm p columns (sql_term t)
  pub left_out : LeavesOutDenied p columns (sql_term t)

abbrev pub IsTermOf : Bool → Plan → Columns → SqlTerm → Type 0
IsTermOf false p columns t = IsOfAllowed p columns t
IsTermOf true p columns t = IsOfCandidates p columns t

-- there is such an expression, and it is printed; the exit status is 0
pub record IsPrintedOf (table : SqlTable) (is_candidates : Bool) (plan : Plan) (p : Printed) : Type 0 where
  pub term : SqlTerm
  pub term_is : IsTermOf is_candidates plan table.columns term
  pub output_is : string_bytes p.output ≡ sql_line table is_candidates term
  pub status_is : p.status ≡ 0

-- ---- what is planned

-- of this response there is a plan for the rows that stand for this unknown
pub record IsPlannedFor (table : SqlTable) (is_candidates : Bool) (r : PartialResponse) (row : UnknownFields)
    (p : Printed) : Type 0 where
  pub plan : Plan
  pub plan_is : IsPlanOf r plan
  pub plan_row_is : row_term (plan_row plan) ≡ row_term row
  pub no_limit : HaveNoLimit (errors_of r)
  pub printed : IsPrintedOf table is_candidates plan p

-- its request has an unknown that entities of the table can stand for
pub record IsPlannedOf (table : SqlTable) (is_candidates : Bool) (r : PartialResponse) (p : Printed) : Type 0 where
  pub row : UnknownFields
  pub row_is : row_in (request_view (request_of r)) ≡ Some (row_term row)
  pub fits : row_fits row table.columns.entity_type ≡ true
  pub planned : IsPlannedFor table is_candidates r row p

-- the response is a run of these policies for the request that is asked, where what is not given is unknown
pub record IsFirstOf (X : world.Extensions) (calls : StoredCalls) (ps : PolicySet) (store : Entities) (q : Asked)
    (w : Way) (r : PartialResponse) : Type 0 where
  pub request_is : IsPartialRequest X calls q (request_of r)
  pub run : IsRun (partial_configuration X calls w)
      (asked_of (partial_configuration X calls w) (request_view (request_of r)) (store_view store)) (considered ps) r

-- of these policies, over this store: there is such a response
pub record IsPlannedOver (X : world.Extensions) (calls : StoredCalls) (ps : PolicySet) (store : Entities) (q : Asked)
    (table : SqlTable) (w : Way) (is_candidates : Bool) (p : Printed) : Type 0 where
  pub response : PartialResponse
  pub response_is : IsFirstOf X calls ps store q w response
  pub planned : IsPlannedOf table is_candidates response p

-- of these policies: there is the closed store that is given
pub record IsPlannedBy (X : world.Extensions) (calls : StoredCalls) (ps : PolicySet) (q : Asked) (table : SqlTable)
    (w : Way) (is_candidates : Bool) (p : Printed) : Type 0 where
  pub store : Entities
  pub store_is : IsGivenStore X calls q store
  pub planned : IsPlannedOver X calls ps store q table w is_candidates p

-- there are policies, those that the text's tokens derive
pub record IsPlannedWith (k : Knowledge) (X : world.Extensions) (calls : StoredCalls) (text : Text) (q : Asked)
    (table : SqlTable) (w : Way) (is_candidates : Bool) (p : Printed) : Type 0 where
  pub parsed : ParsedPolicies
  pub policies_are : AreAllRead k text levels parsed
  pub planned : IsPlannedBy X calls parsed.policies q table w is_candidates p

-- the whole: the store may lack entities, as it lacks the rows, and there is a table, the one that the JSON says
pub record IsPlanned (k : Knowledge) (X : world.Extensions) (calls : StoredCalls) (text : Text) (q : Asked)
    (columns : Text) (w : Way) (is_candidates : Bool) (p : Printed) : Type 0 where
  pub partial : q.is_partial ≡ true
  pub table : SqlTable
  pub table_is : Says columns table_said (table_view table)
  pub planned : IsPlannedWith k X calls text q table w is_candidates p
