use Rattle.std.proofs.Common.{subst}
use Rattle.cedar_layers.specs.Policies.{policy_location, policy_parts, IsConjunction}
use Rattle.cedar_layers.proofs.policies.policy.Policy.condition.Goals as goal

pub returns-clause-parts : goal.returns-clause-parts
returns-clause-parts c =
    let l = policy_location c.args.self.now in
    let p = policy_parts c.args.self.now in
    record {
      pair = c.in_ok-pair.pair;
      scope = c.in_ok-scope.scope;
      of_pair = subst (λ a. IsConjunction l a p.action c.in_ok-pair.pair) c.in_ok-clone.ensures.cases c.in_ok-pair.ensures.whole;
      of_scope = subst (λ a. IsConjunction l a p.resource c.in_ok-scope.scope) c.in_ok-new.ensures.ok c.in_ok-scope.ensures.whole;
      of_condition = subst (λ a. IsConjunction l a p.when c.in_ok-condition.condition) c.in_ok-new-2.ensures.ok c.in_ok-condition.ensures.whole;
    }
