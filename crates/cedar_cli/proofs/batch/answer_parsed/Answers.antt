use Rattle.std.proofs.Common.{subst, IfOk}
use Rattle.cedar_extensions.specs.Extensions.{extensions_view, calls_of}
use Rattle.cedar_cli.specs.declared.asked.Source.{Source}
use Rattle.cedar_cli.specs.declared.asked.Way.{Way}
use Rattle.cedar_cli.specs.Batch.{AreAnsweredBy, in_json}
use Rattle.cedar_cli.proofs.batch.answer_parsed.Goals as goal

pub returns-clause-answered : goal.returns-clause-answered
returns-clause-answered g c =
    let x = c.args.extensions.now in
    subst (λ (s : Source). IfOk c.answer_over_given_store.result
    (AreAnsweredBy (extensions_view x) (calls_of x) s.text.now c.args.parsed.now.policies c.args.asked.now
    c.args.requests.now (in_json c.args.way)))
    c.in_ok-places.ensures
    (subst (λ (w : Way). IfOk c.answer_over_given_store.result
    (AreAnsweredBy (extensions_view x) (calls_of x) c.in_ok-places.places.source.text.now c.args.parsed.now.policies
    c.args.asked.now c.args.requests.now w)) c.as_json.ensures c.answer_over_given_store.ensures.answered)
