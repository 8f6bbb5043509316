use Rattle.std.proofs.lemmas.Result.{IfErr-weaker}
use Rattle.cedar_functions.specs.Functions.{knowledge}
use Rattle.cedar_linked_text.specs.LinkedTexts.{asked_view, IsRefusedByParsed, IsNotAdded}
use Rattle.cedar_linked_text.proofs.Added.{not_added}
use Rattle.cedar_linked_text.proofs.adding.add_link.Goals as goal

pub returns-in-Ok-clause-refused : goal.returns-in-Ok-clause-refused
returns-in-Ok-clause-refused c =
    let k = knowledge c.args.functions.now in
    let text = c.args.text.now in
    let links = c.args.links.now in
    let a = asked_view c.args.new in
    let parsed = c.in-Ok.parsed in
    IfErr-weaker c.add_to_parsed-added.result (IsRefusedByParsed parsed links a) (IsNotAdded k c.args.limit text links a)
    (λ e h. not_added k c.args.limit text links a parsed e c.in-Ok.ensures.ok h) c.add_to_parsed-added.ensures.refused
