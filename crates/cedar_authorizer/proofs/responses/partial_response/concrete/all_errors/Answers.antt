use Rattle.std.proofs.Common.{ap}
use Rattle.cedar_authorizer.specs.responses.Responses.{error_place, error_view}
use Rattle.cedar_authorizer.specs.responses.Concrete.{errors_left, places_left}
use Rattle.cedar_authorizer.proofs.Concretes.{on_ok, left_then}
use Rattle.cedar_authorizer.proofs.responses.partial_response.concrete.all_errors.Goals as goal

pub returns-clause-places : goal.returns-clause-places
returns-clause-places c =
    left_then error_place _ _ _ _ _ _ _ _ c.new-errors.ensures.items (on_ok _ _ c.in_ok-residual_permits.ensures.answer c.add_errors.ensures.places) c.in_ok-add_errors.ensures.places (ap (λ m. places_left m.entries) c.in_ok-residual_permits.ensures.held) c.in_ok-append.ensures.items

pub returns-clause-errors : goal.returns-clause-errors
returns-clause-errors c =
    left_then error_view _ _ _ _ _ _ _ _ c.new-errors.ensures.items (on_ok _ _ c.in_ok-residual_permits.ensures.answer c.add_errors.ensures.errors) c.in_ok-add_errors.ensures.errors (ap (λ m. errors_left m.entries) c.in_ok-residual_permits.ensures.held) c.in_ok-append.ensures.items
