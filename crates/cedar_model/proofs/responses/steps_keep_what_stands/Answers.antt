use Rattle.cedar_model.specs.Settings.{Setting}
use Rattle.cedar_model.specs.Chains.{at_step, all_residuals}
use Rattle.cedar_model.proofs.Recorded.{run_recordable}
use Rattle.cedar_model.proofs.Stepping.{taken}
use Rattle.cedar_model.proofs.Completions.{step_completes}
use Rattle.cedar_model.proofs.Chained.{step_stands}
use Rattle.cedar_model.proofs.responses.steps_keep_what_stands.Goals as goal

pub returns : goal.returns
returns g c =
    λ mode resolution X levels ans w m store old new k ps conditions stand none step.
    let s : Setting = at_step X resolution old.request store m in
    let agree = k.functions_agree in
    let faithful = k.functions_are_faithful in
    let t = taken mode s _ levels m store old new step in
    let d = step_completes mode ans _ agree w s levels m store old new k.completion faithful step in
    let z = at_step X resolution new.request store m in
    let r = run_recordable mode z _ levels (all_residuals old.rows) new.rows new.errors none t.runs in
    step_stands mode ans _ agree w z d faithful levels ps old.rows new.rows new.errors conditions stand r t.runs
