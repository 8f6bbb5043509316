use Rattle.std.proofs.Common.{subst, IfOk}
use Rattle.cedar_extensions.specs.Extensions.{extensions_view, calls_of}
use Rattle.cedar_cli.specs.declared.asked.Source.{Source}
use Rattle.cedar_cli.specs.Stages.{IsPartlyAnsweredBy}
use Rattle.cedar_cli.proofs.partial.partially_authorize_parsed.Goals as goal

pub returns-clause-answered : goal.returns-clause-answered
returns-clause-answered g c =
    let x = c.args.extensions.now in
    subst (λ (s : Source). IfOk c.partially_authorize_over_given_store.result
    (IsPartlyAnsweredBy (extensions_view x) (calls_of x) s.text.now c.args.parsed.now.policies c.args.asked.now
    c.args.steps.now c.args.way))
    c.in_ok-places.ensures c.partially_authorize_over_given_store.ensures.answered
