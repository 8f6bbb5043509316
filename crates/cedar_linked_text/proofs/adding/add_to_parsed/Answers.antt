use Rattle.std.proofs.lemmas.Result.{IfErr-weaker}
use Rattle.cedar_linked_text.specs.LinkedTexts.{asked_view, named_set, IsRefusedBySet, IsRefusedByParsed}
use Rattle.cedar_linked_text.proofs.Added.{refused_by_parsed}
use Rattle.cedar_linked_text.proofs.adding.add_to_parsed.Goals as goal

pub returns-in-Ok-clause-refused : goal.returns-in-Ok-clause-refused
returns-in-Ok-clause-refused c =
    let parsed = c.args.parsed.now in
    let links = c.args.links.now in
    let a = asked_view c.args.new in
    let n = c.in-Ok.named in
    IfErr-weaker c.add_to_named-added.result (IsRefusedBySet (named_set n) a) (IsRefusedByParsed parsed links a)
    (λ e h. refused_by_parsed parsed links a n e c.in-Ok.ensures.named h) c.add_to_named-added.ensures.refused
