use Rattle.cedar_model.specs.lemmas.Keys.{value_cmp-text, value_cmp-entity, value_cmp-extension}
use Rattle.cedar_model.proofs.values.kinds_are_ordered.Goals as goal

pub returns-clause-texts : goal.returns-clause-texts
returns-clause-texts c = value_cmp-text

pub returns-clause-entities : goal.returns-clause-entities
returns-clause-entities c = value_cmp-entity

pub returns-clause-extensions : goal.returns-clause-extensions
returns-clause-extensions c = value_cmp-extension
