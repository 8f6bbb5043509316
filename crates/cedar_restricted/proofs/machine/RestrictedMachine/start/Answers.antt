use Rattle.cedar_extensions.specs.Extensions.{extensions_view, calls_of}
use Rattle.cedar_restricted.specs.Elements.{both_lead}
use Rattle.cedar_restricted.proofs.machine.RestrictedMachine.start.Goals as goal

pub returns-clause-right : goal.returns-clause-right
returns-clause-right g c k levels =
    let stored = c.args.self.now.extensions.now in
    both_lead (extensions_view stored) (calls_of stored) k c.args.part c.first-step.result
    (c.first-step.ensures.right k) c.first-step.ensures.elements
