use Rattle.cedar_laws.proofs.Faithfulness.{value_faithful, value_known}
use Rattle.cedar_requests.proofs.Soundness.{mapped_value_is_sound}
use Rattle.cedar_faithful.proofs.given.mapped_values_are_faithful.Goals as goal

pub returns-clause-faithful : goal.returns-clause-faithful
returns-clause-faithful c = λ none X ans n v e.
    value_faithful X ans v (mapped_value_is_sound c.args.map.now.entries n v e) (none n v e)

pub returns-clause-known : goal.returns-clause-known
returns-clause-known c = λ none ans n v e. value_known ans v (none n v e)
