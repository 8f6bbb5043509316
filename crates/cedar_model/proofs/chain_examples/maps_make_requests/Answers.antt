use Rattle.std.proofs.Common.{refl}
use Rattle.cedar_model.proofs.Exemplified.{chain_opened}
use Rattle.cedar_model.proofs.chain_examples.maps_make_requests.Goals as goal

pub returns-clause-known_entry : goal.returns-clause-known_entry
unfolding chain_opened
returns-clause-known_entry c = refl

pub returns-clause-no_entity : goal.returns-clause-no_entity
unfolding chain_opened
returns-clause-no_entity c = refl

pub returns-clause-other_type : goal.returns-clause-other_type
unfolding chain_opened
returns-clause-other_type c = refl

pub returns-clause-becomes_known : goal.returns-clause-becomes_known
unfolding chain_opened
returns-clause-becomes_known c = refl

pub returns-clause-no_record : goal.returns-clause-no_record
unfolding chain_opened
returns-clause-no_record c = refl

pub returns-clause-context_beside : goal.returns-clause-context_beside
unfolding chain_opened
returns-clause-context_beside c = refl
