-- What stands of a decision that is taken further.
use mathlib.Core.Logic.{∥∥₁_map}
use Rattle.cedar_authorizer.specs.Configured.{resolution_of}
use Rattle.cedar_authorizer.specs.Headline.{steps_view}
use Rattle.cedar_staged.specs.declared.resumed.Resumed.{Resumed}
use Rattle.cedar_staged.specs.Resumptions.{KeepsWhatStood}
use Rattle.cedar_staged.proofs.Resuming.{stands}

pub keeps_what_stood : {X : Type 0} {F : X → Type 0} {g : _} (s : Resumed X F g) → KeepsWhatStood s
keeps_what_stood s =
    ∥∥₁_map s.chain (stands s.authorizer s.first.value (steps_view (resolution_of s.authorizer) s.steps.items) s.response.value)
