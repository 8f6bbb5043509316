use Rattle.std.proofs.Common.{subst, IfOk, List, map, ap, ◌∙◌}
use Rattle.cedar_extensions.specs.Extensions.{extensions_view, calls_of}
use Rattle.cedar_cli.specs.Batch.{AreAnsweredOver}
use Rattle.cedar_model.specs.Terms.{Text}
use Rattle.cedar_cli.proofs.batch.answer_text.Goals as goal

pub returns : goal.returns
returns g c =
    let x = c.args.extensions.now in
    let d = c.args.batch.deciding in
    subst (λ (ls : List Text). IfOk c.answer_lines-printed.result
    (AreAnsweredOver (extensions_view x) (calls_of x) d.places.now.source.text.now d.policies.now
    c.args.batch.entities.now c.args.batch.asked.now d.way ls))
    (ap (map (λ l. l.now)) c.deref.ensures.value ∙ c.in_ok-lines.ensures) c.answer_lines-printed.ensures
