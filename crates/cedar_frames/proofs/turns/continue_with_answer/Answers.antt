use Rattle.std.proofs.Common.{◌≡◌, true}
use Rattle.cedar_frames.proofs.Chains.{chain_limit}
use Rattle.cedar_frames.proofs.turns.continue_with_answer.Goals as goal

pub returns-then-ends-clause-right : goal.returns-then-ends-clause-right
returns-then-ends-clause-right g c limit e fs s =
    let R = g.M.Machine.right c.args.machine.now in
    let W = g.M.Machine.waits c.args.machine.now in
    let ends : g.M.Machine.ends_all c.args.answer ≡ true = cc in
    chain_limit W R c.args.answer (λ k f t d. g.met.M.Machine.right_upward c.args.machine.now k f t d c.args.answer ends) limit s.0 e fs s.1 s.2 s.3
