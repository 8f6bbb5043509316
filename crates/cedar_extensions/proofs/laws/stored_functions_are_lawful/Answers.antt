use Rattle.cedar_extensions.specs.StoredLaws.{calls_functional, calls_meet_no_limit, calls_find_memory, calls_sound}
use Rattle.cedar_extensions.specs.StoredLaws.{calls_hold_unknowns}
use Rattle.cedar_extensions.proofs.laws.stored_functions_are_lawful.Goals as goal

pub returns-clause-functional : goal.returns-clause-functional
returns-clause-functional g c = calls_functional c.args.extensions.now

pub returns-clause-limit : goal.returns-clause-limit
returns-clause-limit g c = calls_meet_no_limit c.args.extensions.now

pub returns-clause-memory : goal.returns-clause-memory
returns-clause-memory g c = calls_find_memory c.args.extensions.now

pub returns-clause-sound : goal.returns-clause-sound
returns-clause-sound g c = calls_sound c.args.extensions.now

pub returns-clause-unknown : goal.returns-clause-unknown
returns-clause-unknown g c = calls_hold_unknowns c.args.extensions.now
