use Rattle.std.proofs.Common.{refl}
use Rattle.cedar_model.specs.Chains.{at_step, no_values}
use Rattle.cedar_model.proofs.Configured.{setting_with}
use Rattle.cedar_model.proofs.Answered.{run_answers, step_answers, chain_answers}
use Rattle.cedar_model.proofs.chains.chains_have_answers.Goals as goal

pub returns-clause-first : goal.returns-clause-first
returns-clause-first g c = λ finding mode resolution X levels callable request store ps.
    let k = run_answers _ finding mode (at_step X resolution request store no_values) levels callable ps in (
      record { mode = mode; request = request; rows = k.0; errors = k.1 },
      record { mode_is = refl; request_is = refl; runs = k.2 },
    )

pub returns-clause-step : goal.returns-clause-step
returns-clause-step g c = λ finding mode resolution X levels callable m store old.
    step_answers _ finding mode (at_step X resolution old.request store m) levels callable m store old

pub returns-clause-chain : goal.returns-clause-chain
returns-clause-chain g c = λ finding mode resolution X levels callable first steps.
    chain_answers _ finding mode (setting_with X resolution) levels callable steps first
