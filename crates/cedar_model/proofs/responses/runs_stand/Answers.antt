use Rattle.cedar_model.specs.Responses.{StandInOrder}
use Rattle.cedar_model.proofs.Recorded.{run_recordable}
use Rattle.cedar_model.proofs.Standing.{run_stands, in_order_stands}
use Rattle.cedar_model.proofs.responses.runs_stand.Goals as goal

pub returns : goal.returns
returns g c =
    λ mode ans w s k levels ps rows errors f r h. in_order_stands rows
    (StandInOrder mode s.extensions ans w ps)
    (run_stands mode ans _ k.functions_agree w s k.completion k.functions_are_faithful levels ps rows errors f
    (run_recordable mode s _ levels ps rows errors r h) h)
