-- The document is that of the policies and the templates, without links.
use Rattle.std.proofs.Common.{◌≡◌, ◌++◌, [], List, map, ap, ap₂, ◌∙◌, subst, codes, IfOk, string_bytes}
use Rattle.json.specs.Json.{Json}
use Rattle.json.specs.Print.{print}
use Rattle.json.specs.Tree.{json_tokens}
use Rattle.cedar_layers.specs.declared.policies.policy.Policy.{Policy}
use Rattle.cedar_layers.specs.Policies.{policy_view}
use Rattle.cedar_layers.specs.PolicySets.{policies_view}
use Rattle.cedar_policy_json_writer.specs.declared.links.TemplateLink.{TemplateLink}
use Rattle.cedar_policy_json_writer.specs.Links.{link_view}
use Rattle.cedar_policy_json_writer.specs.PolicySets.{policy_set_json}
use Rattle.cedar_cli.proofs.translations.set_line.Goals as goal

pub returns : goal.returns
returns c =
    let ps = policies_view c.args.parsed.now.policies in
    subst (λ (j : Json). IfOk c.line_of-line.result (λ s. string_bytes s ≡ print (json_tokens j) ++ codes "\n"))
    (c.in_ok-document.ensures
    ∙ ap₂ (λ (ts : List Policy) (ls : List TemplateLink). policy_set_json ps (map policy_view ts) (map link_view ls))
    c.as_slice.ensures.value (c.as_slice-2.ensures.value ∙ c.new-links.ensures.items))
    c.line_of-line.ensures
