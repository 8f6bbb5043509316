use Rattle.cedar_unknowns.proofs.Once.{distinct, exactly, unknown_stands}
use Rattle.cedar_unknowns.proofs.laws.unknowns_are_listed_once.Goals as goal

pub returns-clause-distinct : goal.returns-clause-distinct
returns-clause-distinct c = distinct

pub returns-clause-exactly : goal.returns-clause-exactly
returns-clause-exactly c = exactly

pub returns-clause-stands : goal.returns-clause-stands
returns-clause-stands c = unknown_stands
