use Rattle.cedar_model.specs.lemmas.Layers.{runs_by_layer}
use Rattle.cedar_model.proofs.MoreLevels.{more_levels}
use Rattle.cedar_model.proofs.levels.levels_keep_answers.Goals as goal

pub returns-clause-more : goal.returns-clause-more
returns-clause-more g c = λ s. more_levels s _

pub returns-clause-layers : goal.returns-clause-layers
returns-clause-layers g c = λ s. runs_by_layer s _
