use Rattle.cedar_model.specs.lemmas.Sets.{IsStrictlyInOrder-canonical_set, find_equal-canonical_set}
use Rattle.cedar_model.specs.lemmas.Sets.{has_value-canonical_set, same_finds, same_members, canonical_set-in_order}
use Rattle.cedar_model.specs.lemmas.Sets.{abstract_values-canonical_set}
use Rattle.cedar_model.proofs.values.sets_are_canonical.Goals as goal

pub returns-clause-in_order : goal.returns-clause-in_order
returns-clause-in_order c = IsStrictlyInOrder-canonical_set

pub returns-clause-first : goal.returns-clause-first
returns-clause-first c = find_equal-canonical_set

pub returns-clause-members : goal.returns-clause-members
returns-clause-members c = has_value-canonical_set

pub returns-clause-one : goal.returns-clause-one
returns-clause-one c = same_finds

pub returns-clause-one_abstract : goal.returns-clause-one_abstract
returns-clause-one_abstract c = same_members

pub returns-clause-itself : goal.returns-clause-itself
returns-clause-itself c = canonical_set-in_order

pub returns-clause-forgets : goal.returns-clause-forgets
returns-clause-forgets c = abstract_values-canonical_set
