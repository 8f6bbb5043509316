-- When none is left, all are explained.
use Rattle.std.proofs.Common.{map, ap, ◌∙◌}
use Rattle.cedar_layers.specs.PolicySets.{policies_left, stored_policies}
use Rattle.cedar_explain.specs.Requests.{explained_policy, IsWellExplained}
use Rattle.cedar_explain.proofs.Listed.{begun, none_yet, carried, none_left, all_parts, all_reached, all_decided, all_needed}
use Rattle.cedar_explain.proofs.requests.explain_request.Goals as goal

pub policies-init : goal.policies-init
policies-init g c = record {
  policies =
      begun c.new-explained.result.items (policies_left c.into_iter-policy-iterator.result) (stored_policies c.args.policies.now)
      c.new-explained.ensures.items (ap policies_left c.into_iter-policy-iterator.ensures.into_iter_gives ∙ c.policies-policy-items.ensures.whole);
  each = none_yet (IsWellExplained c.args.evaluator.now) c.new-explained.result.items c.new-explained.ensures.items;
}

pub policies-preserved : goal.policies-preserved
policies-preserved g c = record {
  policies =
      carried (map explained_policy c.policies.explained.items) (map explained_policy c.add_explained.new.explained.items)
      (policies_left c.policies.policy-iterator) (policies_left c.next.new.self) (stored_policies c.args.policies.now) c.in-Some.policy.now
      c.in_ok-add_explained.ensures.policies c.in-Some.ensures.steps c.policies.invariant.policies;
  each = c.in_ok-add_explained.ensures.each c.policies.invariant.each;
}

pub returns-clause-policies : goal.returns-clause-policies
returns-clause-policies g c =
    none_left (map explained_policy c.policies.explained.items) (policies_left c.policies.policy-iterator) (stored_policies c.args.policies.now)
    c.in-None.ensures.steps.0 c.policies.invariant.policies

pub returns-clause-parts : goal.returns-clause-parts
returns-clause-parts g c = all_parts c.args.evaluator.now c.policies.explained.items c.policies.invariant.each

pub returns-clause-reached : goal.returns-clause-reached
returns-clause-reached g c = all_reached c.args.evaluator.now c.policies.explained.items c.policies.invariant.each

pub returns-clause-decides : goal.returns-clause-decides
returns-clause-decides g c = all_decided c.args.evaluator.now c.policies.explained.items c.policies.invariant.each

pub returns-clause-needed : goal.returns-clause-needed
returns-clause-needed g c = all_needed c.args.evaluator.now c.policies.explained.items c.policies.invariant.each
