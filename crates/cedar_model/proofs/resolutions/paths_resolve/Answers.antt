use Rattle.cedar_model.proofs.Resolved
use Rattle.cedar_model.proofs.resolutions.paths_resolve.Goals as goal

pub returns-clause-walks_on : goal.returns-clause-walks_on
returns-clause-walks_on g = Resolved.path_walks_on

pub returns-clause-keeps : goal.returns-clause-keeps
returns-clause-keeps g = Resolved.path_keeps

pub returns-clause-errs : goal.returns-clause-errs
returns-clause-errs g = Resolved.path_errs

pub returns-clause-last : goal.returns-clause-last
returns-clause-last g = Resolved.last_is_presence

pub returns-clause-long : goal.returns-clause-long
returns-clause-long g = Resolved.walk_meets_long

pub returns-clause-entity : goal.returns-clause-entity
returns-clause-entity g = Resolved.walk_meets_entity
