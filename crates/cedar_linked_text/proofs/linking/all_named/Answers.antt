use Rattle.std.proofs.Common.{map}
use Rattle.std.proofs.lemmas.Result.{IfErr-weaker}
use Rattle.cedar_layers.specs.Policies.{policy_view}
use Rattle.cedar_template_links.specs.Links.{link_view}
use Rattle.cedar_linked_text.specs.LinkedTexts.{IsNamedRefusal, IsParsedRefusal}
use Rattle.cedar_linked_text.proofs.Linked.{refused_of_parsed}
use Rattle.cedar_linked_text.proofs.linking.all_named.Goals as goal

pub returns-in-Ok-clause-refused : goal.returns-in-Ok-clause-refused
returns-in-Ok-clause-refused c =
    let parsed = c.args.parsed.now in
    let links = c.args.links.now in
    let ps = map policy_view c.in_ok-policies.policies.items in
    let ts = map policy_view c.in_ok-policies.templates.items in
    let ls = map link_view c.in-Ok.links.items in
    IfErr-weaker c.link_named.result (IsNamedRefusal ps ts ls) (IsParsedRefusal parsed links)
    (λ e h. refused_of_parsed parsed links ps ts ls e c.in_ok-policies.ensures.policies c.in_ok-policies.ensures.templates c.in-Ok.ensures.listed h) c.link_named.ensures.refused
