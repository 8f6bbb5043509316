use Rattle.cedar_faithful.proofs.Asking.{each_world_fits}
use Rattle.cedar_faithful.proofs.owed.standard_functions_fit_each_world.Goals as goal

pub returns : goal.returns
returns c = each_world_fits c.functions_are_computed.ensures.nothing_asked
