use Rattle.cedar_text_syntax.specs.PolicyGrammar.{no_annotation}
use Rattle.cedar_text_syntax.proofs.annotations.annotations.Goals as goal

pub loop-init : goal.loop-init
loop-init c = rw c.new-annotations.ensures.items no_annotation
