use Rattle.cedar_model.proofs.Written.{written_means, written_fits}
use Rattle.cedar_model.proofs.meaning.written_values_mean.Goals as goal

pub returns : goal.returns
returns c = λ X ans v f w slots. (written_means X ans w slots v f, written_fits X ans w v f)
