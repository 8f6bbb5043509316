use Rattle.cedar_model.specs.Printing.{read_entity}
use Rattle.cedar_unknowns.proofs.Standing.{entity_asked-for, is_for}
use Rattle.cedar_unknowns.proofs.laws.entities_have_their_unknowns.Goals as goal

pub returns-clause-stands : goal.returns-clause-stands
returns-clause-stands c = entity_asked-for

pub returns-clause-only : goal.returns-clause-only
returns-clause-only c = λ a e h. is_for a (read_entity a.0) e h
