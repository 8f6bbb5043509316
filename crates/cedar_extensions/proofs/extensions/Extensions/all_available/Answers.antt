use Rattle.cedar_extensions.proofs.Agreeing.{available_agree, available_faithful}
use Rattle.cedar_extensions.proofs.extensions.Extensions.all_available.Goals as goal

pub returns-clause-agrees : goal.returns-clause-agrees
returns-clause-agrees g c =
    available_agree c.standard_alone.result c.functions_are_computed.ensures.computed
    c.standard_alone.ensures.standard c.standard_alone.ensures.extensions

pub returns-clause-faithful : goal.returns-clause-faithful
returns-clause-faithful g c =
    available_faithful c.standard_alone.result c.functions_are_faithful.ensures c.standard_alone.ensures.standard
    c.standard_alone.ensures.extensions
