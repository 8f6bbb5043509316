-- Why no step was taken.
use Rattle.std.specs.Prelude.{◌≡◌, false, Err, IfSome}
use Rattle.std.proofs.Common.{sym, subst}
use Rattle.cedar_model.specs.Chains.{has_limit}
use Rattle.cedar_model.specs.Configurations.{Configuration}
use Rattle.cedar_layers.specs.declared.policies.entities.Entities.{Entities}
use Rattle.cedar_authorizer.specs.declared.reauthorization.err.ReauthorizationError.{ReauthorizationError}
use Rattle.cedar_authorizer.specs.declared.reauthorization.err.ReauthorizationError.TheVariants as steps
use Rattle.cedar_authorizer.specs.declared.responses.partial_response.PartialResponse.{PartialResponse}
use Rattle.cedar_authorizer.specs.Running.{errors_of}
use Rattle.cedar_authorizer.specs.Steps.{ValuesByName, step_by, step_answer, response_said, IsStep}
use Rattle.cedar_staged.specs.declared.errors.StageError.{StageError}
use Rattle.cedar_staged.specs.declared.errors.StageError.TheVariants as stages
use Rattle.cedar_staged.specs.Refusals.{IsMemory, IsRefusal}
use Rattle.cedar_staged.specs.Stages.{IsWhyNoStep}

module _ (c : Configuration) (r : PartialResponse) (values : ValuesByName) (entities : Entities) where
  pub why_not : (e : ReauthorizationError) (x : StageError) → has_limit (errors_of r) ≡ false
      → IfSome (step_answer (Err e)) (IsStep c (step_by values entities) (response_said r))
      → IsRefusal e x → IsWhyNoStep c r values entities x
  why_not (steps.ErrorHandlingConflict m a) x none h is = subst (IsWhyNoStep c r values entities) (sym is) (none, h)
  why_not (steps.PolicySetError y) x none h is = subst (IsWhyNoStep c r values entities) (sym is) (none, h)
  why_not (steps.ConcretizationError y) x none h is = subst (IsWhyNoStep c r values entities) (sym is) (none, h)
  why_not (steps.Memory y) x none h is = subst (IsWhyNoStep c r values entities) (sym is) tt

  pub no_memory : (x : StageError) → IsMemory x → IsWhyNoStep c r values entities x
  no_memory stages.LimitIsRecorded h = absurd h
  no_memory (stages.Refused e) h = absurd h
  no_memory (stages.Memory e) h = tt
