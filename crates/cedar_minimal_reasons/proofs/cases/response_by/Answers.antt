use Rattle.std.proofs.Common.{◌≡◌, ap}
use Rattle.cedar_model.specs.Settings.{Setting}
use Rattle.cedar_model.specs.Chains.{at_step, no_values}
use Rattle.cedar_extensions.specs.Extensions.{extensions_view}
use Rattle.cedar_reasons.specs.Facts.{facts_view}
use Rattle.cedar_authorizer.specs.Configured.{asked, extensions_of, resolution_of}
use Rattle.cedar_minimal_reasons.specs.Questions.{question, asked_with}
use Rattle.cedar_minimal_reasons.proofs.Responding.{responds}
use Rattle.cedar_minimal_reasons.proofs.cases.response_by.Goals as goal

pub returns : goal.returns
returns g c =
    let a = c.args.authorizer.now in
    let same : asked a c.in_ok-request.request c.in_ok-request.store ≡ asked_with (question a c.args.case.now) (facts_view c.args.facts.now)
    = λ i. at_step (extensions_view (extensions_of a)) (resolution_of a) (c.in_ok-request.ensures.request i) (c.in_ok-request.ensures.store i) no_values in
    responds (question a c.args.case.now) (facts_view c.args.facts.now) (asked a c.in_ok-request.request c.in_ok-request.store) same
    c.is_authorized_core.result c.is_authorized_core.ensures.run c.is_authorized_core.ensures.stands
