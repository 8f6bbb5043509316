use Rattle.cedar_policy_json_writer.proofs.Lists.{three_put}
use Rattle.cedar_policy_json_writer.proofs.policies.put_scopes.Goals as goal

pub returns : goal.returns
returns c =
    three_put _ _ _ _ _ _ _ c.in_ok-put_principal.ensures c.in_ok-put_action.ensures c.in_ok-put_resource.ensures
