use Rattle.cedar_layers.specs.Stores.{store_view}
use Rattle.cedar_authorizer.specs.Configured.{configuration, resolution_of}
use Rattle.cedar_authorizer.specs.Responding.{considered}
use Rattle.cedar_staged.proofs.First.{kept_first}
use Rattle.cedar_staged.proofs.staged.Staged.of_first.Goals as goal

pub invariant_of-result : goal.invariant_of-result
invariant_of-result g c = record {
  chain = kept_first (configuration c.args.authorizer.now) (store_view c.args.entities.now) (considered c.args.policies.now) (resolution_of c.args.authorizer.now) c.args.response c.args.response.request.value c.in-Ok.request.value c.new.result.items c.in-Ok.ensures.cases c.new.ensures.items c.requires;
}
