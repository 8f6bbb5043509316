use Rattle.cedar_policy_json_text.proofs.PlacedTerms.{placed_means_all}
use Rattle.cedar_policy_json_text.proofs.laws.placed_policies_mean_the_same.Goals as goal

pub returns : goal.returns
returns c = placed_means_all
