use Rattle.cedar_policy_json_text.proofs.PlacedTerms.{nothing_placed}
use Rattle.cedar_policy_json_text.proofs.laws.nothing_is_placed_without_values.Goals as goal

pub returns : goal.returns
returns c = nothing_placed
