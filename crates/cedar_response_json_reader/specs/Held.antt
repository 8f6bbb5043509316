-- Parts of a response as they are held while it is read, for private clauses.
use Rattle.std.specs.Prelude.{◌≡◌, ℕ, map}
use Rattle.std.specs.declared.alloc.Global.{Global}
use Rattle.std.specs.declared.vec.Vec.{Vec}
use Rattle.cedar_model.specs.World as world
use Rattle.cedar_model.specs.Rules.{StoredCalls}
use Rattle.cedar_model.specs.Policies.{ErrorHandling}
use Rattle.cedar_expressions.specs.declared.expr.Expr.{Expr}
use Rattle.cedar_expressions.specs.View.{view}
use Rattle.cedar_layers.specs.declared.policies.policy.Policy.{Policy}
use Rattle.cedar_requests.specs.declared.entry.EntityUIDEntry.{EntityUIDEntry}
use Rattle.cedar_requests.specs.declared.request.Request.{Request}
use Rattle.cedar_requests.specs.Requests.{entry_view, request_view}
use Rattle.cedar_authorizer.specs.declared.responses.err.AuthorizationError.{AuthorizationError}
use Rattle.cedar_authorizer.specs.responses.Responses.{errors_view}
use Rattle.cedar_response_json_reader.specs.declared.reports.Report.{Report}
use Rattle.cedar_response_json_reader.specs.Contexts.{IsContextOf}
use Rattle.cedar_response_json_reader.specs.Responses.{Told}
use Rattle.cedar_response_json_reader.specs.Rows.{held_row}

abbrev pub Parts : Type 0
Parts = EntityUIDEntry × (EntityUIDEntry × (EntityUIDEntry × Expr))

abbrev pub Reports : Type 0
Reports = Vec (Report × Policy) Global × Vec AuthorizationError Global

-- what these tell
abbrev pub told : ErrorHandling → Parts → Reports → Told
told mode p r = (
  mode,
  (
    (entry_view p.0, (entry_view p.1.0, (entry_view p.1.1.0, view p.1.1.1))),
    (map held_row r.0.items, errors_view r.1.items),
  ),
)

-- the request of these
pub record IsRequestOf (x : world.Extensions) (calls : StoredCalls) (n : ℕ) (p : Parts) (r : Request) : Type 0 where
  pub principal_is : (request_view r).principal_entry ≡ entry_view p.0
  pub action_is : (request_view r).action_entry ≡ entry_view p.1.0
  pub resource_is : (request_view r).resource_entry ≡ entry_view p.1.1.0
  pub context_is : IsContextOf x calls n (view p.1.1.1) (request_view r).context_part
