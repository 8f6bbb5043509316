-- Why nothing is planned.
use Rattle.std.specs.Prelude.{◌≡◌, ⊤, true, false, None, Some}
use Rattle.cedar_model.specs.Terms.{Text}
use Rattle.cedar_model.specs.World as world
use Rattle.cedar_model.specs.Rules.{StoredCalls}
use Rattle.cedar_model.specs.Chains.{has_limit}
use Rattle.cedar_functions.specs.Functions.{Knowledge}
use Rattle.cedar_names.specs.UnknownFields.{UnknownFields}
use Rattle.cedar_layers.specs.declared.policies.entities.Entities.{Entities}
use Rattle.cedar_layers.specs.declared.policies.policy_set.PolicySet.{PolicySet}
use Rattle.cedar_requests.specs.Requests.{request_view}
use Rattle.cedar_text_parser.specs.PolicyReading.{AreAllRead}
use Rattle.cedar_text_parser.specs.declared.policies.ParsedPolicies.{ParsedPolicies}
use Rattle.cedar_authorizer.specs.declared.responses.partial_response.PartialResponse.{PartialResponse}
use Rattle.cedar_authorizer.specs.Running.{errors_of, request_of}
use Rattle.cedar_filter.specs.Filters.{row_term}
use Rattle.cedar_sql_columns.specs.declared.errors.ColumnsError.{ColumnsError}
use Rattle.cedar_sql_columns.specs.declared.errors.ColumnsError.TheVariants as errors
use Rattle.cedar_sql_columns.specs.declared.tables.SqlTable.{SqlTable}
use Rattle.cedar_sql_columns.specs.JsonTexts.{Says, IsTextRefusal}
use Rattle.cedar_sql_columns.specs.Said.{table_said}
use Rattle.cedar_sql_columns.specs.Tables.{table_view}
use Rattle.cedar_cli.specs.declared.asked.Asked.{Asked}
use Rattle.cedar_cli.specs.declared.asked.Way.{Way}
use Rattle.cedar_cli.specs.Questions.{levels, IsGivenStore}
use Rattle.cedar_cli.specs.Reasons.{ArePoliciesUnread, IsStoreUnread, IsPartialUnread}
use Rattle.cedar_cli_sql.specs.Planned.{IsFirstOf}
use Rattle.cedar_cli_sql.specs.Rows.{row_in, row_fits}

-- the error is not out of memory
abbrev pub IsOfTable : ColumnsError → Type 0
IsOfTable errors.Syntax = ⊤
IsOfTable errors.DuplicateKey = ⊤
IsOfTable (errors.Refused p r) = ⊤
IsOfTable (errors.Memory e) = ⊥

-- the text is no table: this is the reader's error
pub record IsTableUnread (text : Text) : Type 0 where
  pub error : ColumnsError
  pub of_table : IsOfTable error
  pub refused : IsTextRefusal text table_said error

-- an unknown of the request that entities of the table can't stand for
pub record DoesNotFit (table : SqlTable) (r : PartialResponse) : Type 0 where
  pub row : UnknownFields
  pub row_is : row_in (request_view (request_of r)) ≡ Some (row_term row)
  pub unfit : row_fits row table.columns.entity_type ≡ false

-- the request has no unknown that rows stand for, or one that they can't; or a policy met the limit of levels
pub data IsUnplannedOf (table : SqlTable) (r : PartialResponse) : Type 0 where
  for_no_row : row_in (request_view (request_of r)) ≡ None → IsUnplannedOf table r
  for_type : DoesNotFit table r → IsUnplannedOf table r
  for_limit : has_limit (errors_of r) ≡ true → IsUnplannedOf table r

-- a response to what is asked of which that is so
pub record HasNoPlan (X : world.Extensions) (calls : StoredCalls) (ps : PolicySet) (store : Entities) (q : Asked)
    (table : SqlTable) (w : Way) : Type 0 where
  pub response : PartialResponse
  pub response_is : IsFirstOf X calls ps store q w response
  pub unplanned : IsUnplannedOf table response

-- the request can't be read; or of the response there is no plan for the table
pub data IsUnplannedOver (X : world.Extensions) (calls : StoredCalls) (ps : PolicySet) (store : Entities) (q : Asked)
    (table : SqlTable) (w : Way) : Type 0 where
  for_request : IsPartialUnread X calls q → IsUnplannedOver X calls ps store q table w
  for_response : HasNoPlan X calls ps store q table w → IsUnplannedOver X calls ps store q table w

-- the entities can't be read; or over them it is so
pub data IsUnplannedBy (X : world.Extensions) (calls : StoredCalls) (ps : PolicySet) (q : Asked) (table : SqlTable)
    (w : Way) : Type 0 where
  for_entities : IsStoreUnread X calls q.entities q.max_ancestors → IsUnplannedBy X calls ps q table w
  for_answer : (store : Entities) → IsGivenStore X calls q store → IsUnplannedOver X calls ps store q table w
      → IsUnplannedBy X calls ps q table w

-- the policies can't be read; or of them it is so
pub data IsUnplannedWith (k : Knowledge) (X : world.Extensions) (calls : StoredCalls) (text : Text) (q : Asked)
    (table : SqlTable) (w : Way) : Type 0 where
  for_policies : ArePoliciesUnread k text → IsUnplannedWith k X calls text q table w
  for_question : (parsed : ParsedPolicies) → AreAllRead k text levels parsed
      → IsUnplannedBy X calls parsed.policies q table w → IsUnplannedWith k X calls text q table w

-- the whole: the store is said to have all entities; or the table can't be read; or for it it is so
pub data IsUnplanned (k : Knowledge) (X : world.Extensions) (calls : StoredCalls) (text : Text) (q : Asked)
    (columns : Text) (w : Way) : Type 0 where
  for_whole : q.is_partial ≡ false → IsUnplanned k X calls text q columns w
  for_table : IsTableUnread columns → IsUnplanned k X calls text q columns w
  for_plan : (table : SqlTable) → Says columns table_said (table_view table)
      → IsUnplannedWith k X calls text q table w → IsUnplanned k X calls text q columns w
