use Rattle.std.proofs.Common.{ap}
use Rattle.cedar_model.specs.Chains.{at_step, no_values}
use Rattle.cedar_names.specs.Names.{uid_name}
use Rattle.cedar_extensions.specs.Extensions.{extensions_view}
use Rattle.cedar_layers.specs.Stores.{store_view}
use Rattle.cedar_authorizer.specs.Configured.{asked, extensions_of, resolution_of}
use Rattle.cedar_search.specs.Questions.{question}
use Rattle.cedar_search.proofs.Responding.{response_to}
use Rattle.cedar_search.proofs.asking.response_to.Goals as goal

pub returns : goal.returns
returns g c =
    let a = c.args.authorizer.now in
    let s = c.args.search.now.entities.now in
    response_to (question a c.args.search.now) (uid_name c.args.candidate.now)
    (asked a c.in_ok-request.request s)
    (ap (λ r. at_step (extensions_view (extensions_of a)) (resolution_of a) r (store_view s) no_values) c.in_ok-request.ensures)
    c.is_authorized.result c.is_authorized.ensures.response c.is_authorized.ensures.known c.is_authorized.ensures.limit
