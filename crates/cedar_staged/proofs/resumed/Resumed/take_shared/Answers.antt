use Rattle.std.proofs.Common.{refl, ap}
use Rattle.cedar_authorizer.specs.Configured.{resolution_of}
use Rattle.cedar_authorizer.specs.Headline.{steps_view}
use Rattle.cedar_staged.proofs.Resuming.{grown, stays_so}
use Rattle.cedar_staged.proofs.resumed.Resumed.take_shared.Goals as goal

pub invariant_of-self : goal.invariant_of-self
invariant_of-self g c =
    let s = c.args.self.now in
    record {
      chain = grown s.authorizer s.first.value s.steps.items c.push.new.self.items
          c.args.values c.args.entities s.response.value c.args.response.value c.in-Ok.ensures.items s.chain c.requires.limit c.requires.step;
    }

pub invariant_of-self-in-Err : goal.invariant_of-self-in-Err
invariant_of-self-in-Err g c =
    let s = c.args.self.now in
    record {
      chain = stays_so s.authorizer s.first.value s.steps.items c.push.new.self.items s.response.value c.in-Err.ensures.items s.chain;
    }

pub returns-in-Err-clause-unchanged : goal.returns-in-Err-clause-unchanged
returns-in-Err-clause-unchanged g c =
    (refl, refl, refl, ap (steps_view (resolution_of c.args.self.now.authorizer)) c.in-Err.ensures.items)
