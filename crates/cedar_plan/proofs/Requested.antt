-- A decision at an entity is that of the whole request.
use Rattle.std.proofs.Common.{◌≡◌, ◌∙◌, sym, subst}
use Rattle.cedar_model.specs.Policies.{ErrorHandling, counted_each, decision}
use Rattle.cedar_model.specs.Configurations.{Configuration}
use Rattle.cedar_model.specs.Responses.{Stand}
use Rattle.cedar_model.specs.Agreement.{own_world}
use Rattle.cedar_authorizer.specs.responses.Rows.{rows_view}
use Rattle.cedar_authorizer.specs.Configured.{asked_of}
use Rattle.cedar_plan.specs.Worlds.{DecisionsAreOfRequests, DecisionsAreOfSteps, DecisionsAreAnswered}

module _ (c : Configuration) where
  pub of_requests : DecisionsAreOfRequests c
  of_requests s ps r n e x d at same stands quiet ans w done fit row =
      subst (λ (m : ErrorHandling). decision (counted_each m s.extensions ans w ps) ≡ d) same
      (at s.extensions ans w ps (subst (λ (m : ErrorHandling). Stand m s.extensions ans w ps (rows_view r)) (sym same) (stands ans w done fit quiet)) row)

  pub of_steps : DecisionsAreOfSteps c
  of_steps s ps steps r n e x d at same headline ans w given row =
      subst (λ (m : ErrorHandling). decision (counted_each m s.extensions ans w ps) ≡ d) same
      (at s.extensions ans w ps (subst (λ (m : ErrorHandling). Stand m s.extensions ans w ps (rows_view r)) (sym same) (headline ans w given).stands) row)

  pub answered : DecisionsAreAnswered c
  answered request known store whole ps r answer n e x d at same stands quiet is none nothing ans conditions sigma done fit row =
      (is nothing ans done.functions_agree conditions sigma none).decision_is
      ∙ of_requests (asked_of c request store) ps r n e x d at same stands quiet ans (own_world (asked_of c known whole) sigma) done fit row
