use Rattle.cedar_text_parser.proofs.Heights.{low}
use Rattle.cedar_text_parser.proofs.laws.trees_bound_heights.Goals as goal

pub returns : goal.returns
returns c = λ source x p is. low x p is
