-- Why no step was taken, for private clauses.
use Rattle.std.specs.Prelude.{◌≡◌}
use Rattle.cedar_authorizer.specs.declared.reauthorization.err.ReauthorizationError.{ReauthorizationError}
use Rattle.cedar_authorizer.specs.declared.reauthorization.err.ReauthorizationError.TheVariants as steps
use Rattle.cedar_staged.specs.declared.errors.StageError.{StageError}
use Rattle.cedar_staged.specs.declared.errors.StageError.TheVariants as stages

-- memory ran out
abbrev pub IsMemory : StageError → Type 0
IsMemory stages.LimitIsRecorded = ⊥
IsMemory (stages.Refused e) = ⊥
IsMemory (stages.Memory e) = Unit {0}

-- it is the step's refusal, or out of memory
abbrev pub IsRefusal : ReauthorizationError → StageError → Type 0
IsRefusal (steps.ErrorHandlingConflict response authorizer) e =
    e ≡ stages.Refused (steps.ErrorHandlingConflict response authorizer)
IsRefusal (steps.PolicySetError x) e = e ≡ stages.Refused (steps.PolicySetError x)
IsRefusal (steps.ConcretizationError x) e = e ≡ stages.Refused (steps.ConcretizationError x)
IsRefusal (steps.Memory x) e = e ≡ stages.Memory x
