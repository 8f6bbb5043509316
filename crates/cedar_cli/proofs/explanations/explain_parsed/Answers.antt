use Rattle.std.proofs.Common.{subst, IfOk}
use Rattle.cedar_extensions.specs.Extensions.{extensions_view, calls_of}
use Rattle.cedar_cli.specs.declared.asked.Source.{Source}
use Rattle.cedar_cli.specs.Explained.{IsExplainedBy}
use Rattle.cedar_cli.proofs.explanations.explain_parsed.Goals as goal

pub returns-clause-answered : goal.returns-clause-answered
returns-clause-answered g c =
    let x = c.args.extensions.now in
    subst (λ (s : Source). IfOk c.explain_over_given_store.result
    (IsExplainedBy (extensions_view x) (calls_of x) s.text.now c.args.parsed.now.policies c.args.asked.now c.args.way
    c.args.has_values))
    c.in_ok-places.ensures c.explain_over_given_store.ensures.answered
