use Rattle.std.proofs.Common.{List, map, ap}
use Rattle.std.proofs.lemmas.List.{drop_all}
use Rattle.cedar_layers.specs.declared.policies.policy.Policy.{Policy}
use Rattle.cedar_layers.specs.Policies.{policy_view}
use Rattle.cedar_policy_json_text.proofs.Keeping.{no_more}
use Rattle.cedar_linked_text.specs.LinkedTexts.{named}
use Rattle.cedar_linked_text.proofs.named.named_templates.Goals as goal

pub returns : goal.returns
returns c =
    let none = drop_all c.templates.template-index c.args.templates.now c.templates-test.false in
    no_more _ _ _ (ap (λ (ps : List Policy). map named (map policy_view ps)) none) c.templates.invariant
