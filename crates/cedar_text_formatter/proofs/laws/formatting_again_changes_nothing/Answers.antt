use Rattle.cedar_text_formatter.proofs.Determined.{again}
use Rattle.cedar_text_formatter.proofs.laws.formatting_again_changes_nothing.Goals as goal

pub returns : goal.returns
returns c = again
