use Rattle.cedar_model.proofs.Concrete
use Rattle.cedar_model.proofs.reports.concrete_is_defined.Goals as goal

pub returns-clause-given : goal.returns-clause-given
returns-clause-given c = Concrete.given_is_concrete

pub returns-clause-rows : goal.returns-clause-rows
returns-clause-rows c = Concrete.concrete_decides_rows

pub returns-clause-defined : goal.returns-clause-defined
returns-clause-defined c = Concrete.concrete_is_defined
