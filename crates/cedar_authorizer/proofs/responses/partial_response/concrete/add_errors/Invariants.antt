use Rattle.std.proofs.Common.{◌≡◌, ◌++◌}
use Rattle.cedar_authorizer.specs.responses.Responses.{errors_view, error_places}
use Rattle.cedar_authorizer.specs.responses.Concrete.{errors_left, places_left}
use Rattle.cedar_authorizer.proofs.responses.partial_response.concrete.add_errors.Given as goal

-- the errors so far and those that are still to come
abbrev pub invariant-residuals : goal.invariant-residuals
invariant-residuals l = record {
  places : error_places l.errors.items ++ places_left l.id-iterator ≡ error_places l.fn.errors.items ++ places_left l.fn.entries.entries;
  errors : errors_view l.errors.items ++ errors_left l.id-iterator ≡ errors_view l.fn.errors.items ++ errors_left l.fn.entries.entries;
}
