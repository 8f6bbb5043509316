use Rattle.cedar_model.proofs.Configured.{setting_with}
use Rattle.cedar_model.proofs.Keeping.{nothing_taken_back}
use Rattle.cedar_model.proofs.chains.nothing_is_taken_back.Goals as goal

pub returns : goal.returns
returns g c = λ mode resolution X. nothing_taken_back _ mode (setting_with X resolution)
