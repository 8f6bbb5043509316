use Rattle.std.proofs.Common.{List, map, ap}
use Rattle.std.proofs.lemmas.List.{drop_all}
use Rattle.cedar_layers.specs.declared.policies.policy.Policy.{Policy}
use Rattle.cedar_layers.specs.Policies.{policy_view}
use Rattle.cedar_policy_json_text.proofs.Keeping.{no_more}
use Rattle.cedar_linked_text.proofs.linking.put_copies.Goals as goal

pub returns : goal.returns
returns c =
    let none = drop_all c.policies.policy-index c.args.policies.now c.policies-test.false in
    no_more _ _ _ (ap (λ (ps : List Policy). map policy_view ps) none) c.policies.invariant
