use Rattle.std.proofs.Common.{subst, IfOk}
use Rattle.cedar_extensions.specs.Extensions.{extensions_view, calls_of}
use Rattle.cedar_cli.specs.declared.asked.Source.{Source}
use Rattle.cedar_cli.specs.Authorized.{IsAnsweredBy}
use Rattle.cedar_cli.proofs.decisions.authorize_parsed.Goals as goal

pub returns-clause-answered : goal.returns-clause-answered
returns-clause-answered g c =
    let x = c.args.extensions.now in
    subst (λ (s : Source). IfOk c.authorize_over_given_store.result
    (IsAnsweredBy (extensions_view x) (calls_of x) s.text.now c.args.parsed.now.policies c.args.asked.now c.args.way))
    c.in_ok-places.ensures c.authorize_over_given_store.ensures.answered
