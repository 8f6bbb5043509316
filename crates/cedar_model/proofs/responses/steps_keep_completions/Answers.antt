use Rattle.cedar_model.specs.Chains.{at_step}
use Rattle.cedar_model.proofs.Completions.{step_completes}
use Rattle.cedar_model.proofs.responses.steps_keep_completions.Goals as goal

pub returns : goal.returns
returns g c =
    λ mode resolution X levels ans w m store old new k step.
    step_completes mode ans _ k.functions_agree w (at_step X resolution old.request store m) levels m store old new
    k.completion k.functions_are_faithful step
