use Rattle.std.proofs.lemmas.Result.{IfErr-weaker}
use Rattle.cedar_functions.specs.Functions.{knowledge}
use Rattle.cedar_linked_text.specs.LinkedTexts.{IsParsedRefusal, IsUnlinked}
use Rattle.cedar_linked_text.proofs.Linked.{parsed_refused}
use Rattle.cedar_linked_text.proofs.texts.linked_to_text.Goals as goal

pub returns-in-Ok-clause-refused : goal.returns-in-Ok-clause-refused
returns-in-Ok-clause-refused c =
    let k = knowledge c.args.functions.now in
    let text = c.args.text.now in
    let links = c.args.links.now in
    let parsed = c.in-Ok.parsed in
    IfErr-weaker c.link_parsed-linked.result (IsParsedRefusal parsed links) (IsUnlinked k c.args.limit text links)
    (λ e h. parsed_refused k c.args.limit text links parsed e c.in-Ok.ensures.ok h) c.link_parsed-linked.ensures.refused
