-- A builder of a policy, as contracts see it: what was said on the way, and not where memory is taken.
use Rattle.std.specs.Prelude.{Result}
use Rattle.std.specs.declared.alloc.AllocError.{AllocError}
use Rattle.cedar_builder.specs.declared.policies.PolicyParts.{PolicyParts}

pub record PolicyFields : Type 0 where
  pub parts : Result PolicyParts AllocError
