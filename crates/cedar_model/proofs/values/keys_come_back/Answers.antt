use Rattle.cedar_model.specs.lemmas.Keys.{value_of_key-value_key}
use Rattle.cedar_model.specs.lemmas.Codes.{term_of_key-term_key, represented_of_key-represented_key}
use Rattle.cedar_model.proofs.values.keys_come_back.Goals as goal

pub returns : goal.returns
returns c = (value_of_key-value_key, term_of_key-term_key, represented_of_key-represented_key)
