use Rattle.cedar_requests.proofs.Soundness.{mapped_value_is_sound, mapped_value_is_restricted}
use Rattle.cedar_requests.proofs.laws.mapped_values_are_sound.Goals as goal

pub returns-clause-sound : goal.returns-clause-sound
returns-clause-sound c = mapped_value_is_sound c.args.map.now.entries

pub returns-clause-restricted : goal.returns-clause-restricted
returns-clause-restricted c = mapped_value_is_restricted c.args.map.now.entries
