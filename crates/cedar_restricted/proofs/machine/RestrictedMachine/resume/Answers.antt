use Rattle.cedar_extensions.specs.Extensions.{extensions_view, calls_of}
use Rattle.cedar_restricted.specs.Laws.{goes_on_right, goes_on_fewer}
use Rattle.cedar_restricted.specs.Elements.{goes_on_standing, both_lead}
use Rattle.cedar_restricted.proofs.machine.RestrictedMachine.resume.Goals as goal

pub returns-clause-right : goal.returns-clause-right
returns-clause-right g c k t d is waits right =
    let stored = c.args.self.now.extensions.now in
    let x = extensions_view stored in
    let calls = calls_of stored in
    let s = c.resume_parts.result in
    both_lead x calls k t s
    (goes_on_right x calls k c.args.frame t d waits.0 c.args.answer s right.0 c.resume_parts.ensures.goes_on)
    (goes_on_standing x calls k c.args.frame t d c.args.answer s waits.1 right.0 right.1 c.resume_parts.ensures.elements)

pub returns-clause-fewer : goal.returns-clause-fewer
returns-clause-fewer g c =
    let stored = c.args.self.now.extensions.now in
    goes_on_fewer (extensions_view stored) (calls_of stored) c.args.frame c.args.answer c.resume_parts.result
    c.resume_parts.ensures.goes_on
