use Rattle.std.proofs.lemmas.Result.{IfErr-weaker}
use Rattle.cedar_template_links.specs.Links.{link_view}
use Rattle.cedar_linked_text.specs.LinkedTexts.{asked_view, named_set, IsRefusedWithLink, IsRefusedBySet}
use Rattle.cedar_linked_text.proofs.Added.{refused_by_set}
use Rattle.cedar_linked_text.proofs.adding.add_to_named.Goals as goal

pub returns-in-Ok-clause-refused : goal.returns-in-Ok-clause-refused
returns-in-Ok-clause-refused c =
    let s = named_set c.args.named.now in
    let a = asked_view c.args.new in
    let l = link_view c.in-Ok.link in
    IfErr-weaker c.with_link-added.result (IsRefusedWithLink s l) (IsRefusedBySet s a)
    (λ e h. refused_by_set s a l e c.in-Ok.ensures.asked h) c.with_link-added.ensures.refused
