use Rattle.cedar_text_parser.specs.PolicyReading.{none_annotated}
use Rattle.cedar_text_parser.proofs.annotations.annotations.Goals as goal

pub loop-index-init : goal.loop-index-init
loop-index-init c = rw c.new-map.ensures.empty none_annotated
