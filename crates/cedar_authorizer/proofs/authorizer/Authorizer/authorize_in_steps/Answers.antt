use Rattle.std.proofs.Common.{refl, ap}
use Rattle.cedar_extensions.specs.Extensions.{calls_of}
use Rattle.cedar_layers.specs.PolicySets.{policies_view}
use Rattle.cedar_requests.specs.Requests.{request_view}
use Rattle.cedar_authorizer.specs.Configured.{extensions_of, limit_of, mode_of, resolution_of, asked}
use Rattle.cedar_authorizer.specs.Headline.{steps_view}
use Rattle.cedar_authorizer.specs.Responding.{considered}
use Rattle.cedar_authorizer.proofs.Chaining.{chain_of, chain_headlines, chains_known}
use Rattle.cedar_authorizer.proofs.Stepped.{conditions_of}
use Rattle.cedar_authorizer.proofs.authorizer.Authorizer.authorize_in_steps.Goals as goal

pub returns-clause-chain : goal.returns-clause-chain
returns-clause-chain g c =
    let mode = mode_of c.args.self.now in
    let calls = calls_of (extensions_of c.args.self.now) in
    let levels = limit_of c.args.self.now in
    let s = asked c.args.self.now c.args.request c.args.entities.now in
    let ps = considered c.args.policies.now in
    let steps = steps_view (resolution_of c.args.self.now) c.args.steps.now in
    let first = c.in_ok-response.ensures in
    chain_of mode calls levels s refl ps steps c.in_ok-response.response first.run (ap request_view first.request) _ c.take_steps.ensures.taken

pub returns-clause-headline : goal.returns-clause-headline
returns-clause-headline g c =
    let mode = mode_of c.args.self.now in
    let calls = calls_of (extensions_of c.args.self.now) in
    let levels = limit_of c.args.self.now in
    let s = asked c.args.self.now c.args.request c.args.entities.now in
    let ps = considered c.args.policies.now in
    let steps = steps_view (resolution_of c.args.self.now) c.args.steps.now in
    let first = c.in_ok-response.ensures in
    chain_headlines mode s calls levels ps steps c.take_steps.result (conditions_of (policies_view c.args.policies.now))
    (chain_of mode calls levels s refl ps steps c.in_ok-response.response first.run (ap request_view first.request) _ c.take_steps.ensures.taken)

pub returns-clause-known : goal.returns-clause-known
returns-clause-known g c =
    let mode = mode_of c.args.self.now in
    let calls = calls_of (extensions_of c.args.self.now) in
    let levels = limit_of c.args.self.now in
    let s = asked c.args.self.now c.args.request c.args.entities.now in
    let ps = considered c.args.policies.now in
    let steps = steps_view (resolution_of c.args.self.now) c.args.steps.now in
    let first = c.in_ok-response.ensures in
    chains_known mode s calls levels ps steps c.take_steps.result refl
    (chain_of mode calls levels s refl ps steps c.in_ok-response.response first.run (ap request_view first.request) _ c.take_steps.ensures.taken)
