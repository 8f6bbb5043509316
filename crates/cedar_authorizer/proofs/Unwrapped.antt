-- Running out of memory stands alone: no error of a step holds it.
use Rattle.std.proofs.Common.{◌≡◌, subst, sym}
use Rattle.cedar_layers.specs.declared.policies.policy_set.PolicySetError.{PolicySetError}
use Rattle.cedar_layers.specs.declared.policies.policy_set.PolicySetError.TheVariants as sets
use Rattle.cedar_authorizer.specs.declared.reauthorization.err.ConcretizationError.{ConcretizationError}
use Rattle.cedar_authorizer.specs.declared.reauthorization.err.ReauthorizationError.{ReauthorizationError}
use Rattle.cedar_authorizer.specs.declared.reauthorization.err.ReauthorizationError.TheVariants as reauthorizations
use Rattle.cedar_authorizer.specs.reauthorization.Errors.{IsPolicyRefusal, IsRequestRefusal, IsUnwrapped}

-- what an error of the policies becomes
pub policies_unwrapped : (e : PolicySetError) (r : ReauthorizationError) → IsPolicyRefusal e r → IsUnwrapped r
policies_unwrapped (sets.Occupied id) r is = subst IsUnwrapped (sym is) (λ w. cc)
policies_unwrapped (sets.Memory e) r is = subst IsUnwrapped (sym is) tt

-- what an error of the request becomes
pub request_unwrapped : (e : ConcretizationError) (r : ReauthorizationError) → IsRequestRefusal e r → IsUnwrapped r
request_unwrapped e (reauthorizations.ErrorHandlingConflict o a) is = tt
request_unwrapped e (reauthorizations.PolicySetError p) is = absurd is
request_unwrapped e (reauthorizations.ConcretizationError f) is = is.1
request_unwrapped e (reauthorizations.Memory m) is = tt
