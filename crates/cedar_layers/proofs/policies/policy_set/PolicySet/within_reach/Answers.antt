use Rattle.std.proofs.lemmas.Result.{IfOk-weaker}
use Rattle.std.proofs.Common.{sym, ◌∙◌, map}
use Rattle.cedar_names.specs.Names.{uid_name}
use Rattle.cedar_layers.specs.Policies.{policy_view}
use Rattle.cedar_layers.specs.Scopes.{is_looked_at}
use Rattle.cedar_layers.proofs.Placing.{if_some_then, reaches_all}
use Rattle.cedar_layers.proofs.policies.policy_set.PolicySet.within_reach.Goals as goal

pub returns-clause-reach : goal.returns-clause-reach
returns-clause-reach c =
    IfOk-weaker c.pick_policies.result _ _ (λ o h. if_some_then o _ _ (λ v k. k c.args.self.now.index _ c.args.self.now.indexed (reaches_all c.args.self.now.index _ _ c.in_ok-positions.ensures)) h) c.pick_policies.ensures.others

pub returns-clause-looked_at : goal.returns-clause-looked_at
returns-clause-looked_at c =
    IfOk-weaker c.pick_policies.result _ _
    (λ o h. if_some_then o _ _ (λ v k. k (λ p. is_looked_at (map (λ u. uid_name u.now) c.args.uids.now) (policy_view p)) (λ i e. c.args.self.now.filed _ i (sym (c.in_ok-positions.ensures i) ∙ e))) h) c.pick_policies.ensures.picked
