use Rattle.cedar_text_formatter.proofs.Determined.{one_layout}
use Rattle.cedar_text_formatter.proofs.laws.layouts_are_determined.Goals as goal

pub returns : goal.returns
returns c = one_layout
