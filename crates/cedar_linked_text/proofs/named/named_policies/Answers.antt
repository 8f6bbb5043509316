use Rattle.std.proofs.Common.{List, map, ap}
use Rattle.cedar_layers.specs.declared.policies.policy.Policy.{Policy}
use Rattle.cedar_layers.specs.Policies.{policy_view}
use Rattle.cedar_policy_json_text.proofs.Keeping.{no_more}
use Rattle.cedar_linked_text.specs.LinkedTexts.{named}
use Rattle.cedar_linked_text.proofs.named.named_policies.Goals as goal

pub returns : goal.returns
returns c = no_more _ _ _ (ap (λ (ps : List Policy). map named (map policy_view ps)) c.in-None.ensures.steps.0) c.policies.invariant
