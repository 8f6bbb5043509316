use Rattle.cedar_faithful.proofs.Made.{context_faithful, facts_faithful}
use Rattle.cedar_faithful.proofs.given.faithful_values_make_faithful_parts.Goals as goal

pub returns-clause-context : goal.returns-clause-context
returns-clause-context c = context_faithful

pub returns-clause-entity : goal.returns-clause-entity
returns-clause-entity c = facts_faithful
