use Rattle.cedar_authorizer.specs.Configured.{configuration, asked}
use Rattle.cedar_authorizer.specs.Responding.{considered}
use Rattle.cedar_authorizer.specs.Running.{IsRun}
use Rattle.cedar_staged.specs.Stages.{response_of}
use Rattle.cedar_staged.proofs.First.{holds_of}
use Rattle.cedar_staged.proofs.Kept.{begun}
use Rattle.cedar_staged.proofs.staged.Staged.begin.Goals as goal

pub of_first-requires : goal.of_first-requires
of_first-requires g c =
    begun c.args.authorizer.now c.args.request c.args.entities.now c.args.policies.now c.in_ok-response.response c.in_ok-response.ensures.request c.in_ok-response.ensures.run

pub returns-clause-run : goal.returns-clause-run
returns-clause-run g c =
    holds_of (IsRun (configuration c.args.authorizer.now) (asked c.args.authorizer.now c.args.request c.args.entities.now) (considered c.args.policies.now))
    response_of c.of_first.result c.in_ok-response.response c.of_first.ensures.response c.in_ok-response.ensures.run
