-- What copies of responses have of their sources.
use Rattle.std.specs.Prelude.{◌≡◌, List}
use Rattle.cedar_model.specs.Policies.{Effect}
use Rattle.cedar_authorizer.specs.declared.responses.partial_response.PartialResponse.{PartialResponse}
use Rattle.cedar_authorizer.specs.declared.responses.response.Diagnostics.{Diagnostics}
use Rattle.cedar_authorizer.specs.declared.responses.response.Response.{Response}
use Rattle.cedar_authorizer.specs.responses.Responses.{has_id, errors_view, error_places, response_view}
use Rattle.cedar_authorizer.specs.responses.Responses.{response_places}
use Rattle.cedar_authorizer.specs.responses.Rows.{TrueEntry, FalseEntry, ResidualEntry, true_rows, false_rows}
use Rattle.cedar_authorizer.specs.responses.Rows.{residual_rows}
use Rattle.cedar_authorizer.specs.responses.Rows.{mode_of, located_view}

-- the same ids as reasons, and in order the same errors: the ids of their policies, their kinds and fields, and their places
pub record IsCopyOfDiagnostics (d copy : Diagnostics) : Type 0 where
  pub reasons : has_id copy.reason ≡ has_id d.reason
  pub errors : errors_view copy.errors.items ≡ errors_view d.errors.items
  pub places : error_places copy.errors.items ≡ error_places d.errors.items

-- the same decision, reasons and errors, and the places of these
pub record IsCopyOfResponse (r copy : Response) : Type 0 where
  pub response : response_view copy ≡ response_view r
  pub places : response_places copy ≡ response_places r

-- the same way to handle errors, rows with their residuals whole, errors, places of these and request
pub record IsCopyOfPartialResponse (r copy : PartialResponse) : Type 0 where
  pub mode : mode_of copy ≡ mode_of r
  pub rows : located_view copy ≡ located_view r
  pub errors : errors_view copy.errors.items ≡ errors_view r.errors.items
  pub places : error_places copy.errors.items ≡ error_places r.errors.items
  pub request : copy.request.value ≡ r.request.value

-- the entries of a map and of its copy are the same rows, of whichever effect
abbrev pub AreSameTrue : List TrueEntry → List TrueEntry → Type 0
AreSameTrue es copies = (effect : Effect) → true_rows effect copies ≡ true_rows effect es

abbrev pub AreSameFalse : List FalseEntry → List FalseEntry → Type 0
AreSameFalse es copies = (effect : Effect) → false_rows effect copies ≡ false_rows effect es

abbrev pub AreSameResidual : List ResidualEntry → List ResidualEntry → Type 0
AreSameResidual es copies = (effect : Effect) → residual_rows effect copies ≡ residual_rows effect es
