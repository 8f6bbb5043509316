use Rattle.std.proofs.Common.{refl, ap}
use Rattle.cedar_requests.specs.Requests.{request_view}
use Rattle.cedar_layers.specs.Stores.{store_view}
use Rattle.cedar_authorizer.specs.Configured.{resolution_of}
use Rattle.cedar_authorizer.specs.Headline.{steps_view}
use Rattle.cedar_authorizer.specs.Responding.{considered}
use Rattle.cedar_staged.proofs.Grown.{grown, stays}
use Rattle.cedar_staged.proofs.staged.Staged.take.Goals as goal

pub invariant_of-self : goal.invariant_of-self
invariant_of-self g c =
    let s = c.args.self.now in
    record {
      chain = grown s.authorizer (request_view s.request.value) (store_view s.entities.now) (considered s.policies.now) s.steps.items c.push.new.self.items
          c.args.values c.args.entities s.response c.args.response c.in-Ok.ensures.items s.chain c.requires.limit c.requires.step;
    }

pub invariant_of-self-in-Err : goal.invariant_of-self-in-Err
invariant_of-self-in-Err g c =
    let s = c.args.self.now in
    record {
      chain = stays s.authorizer (request_view s.request.value) (store_view s.entities.now) (considered s.policies.now) s.steps.items c.push.new.self.items
          s.response c.in-Err.ensures.items s.chain;
    }

pub returns-in-Err-clause-unchanged : goal.returns-in-Err-clause-unchanged
returns-in-Err-clause-unchanged g c =
    (refl, refl, refl, refl, refl, ap (steps_view (resolution_of c.args.self.now.authorizer)) c.in-Err.ensures.items)
