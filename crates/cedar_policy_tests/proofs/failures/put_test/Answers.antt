use Rattle.cedar_json_writer.proofs.Listed.{two_put}
use Rattle.cedar_policy_tests.proofs.failures.put_test.Goals as goal

pub returns : goal.returns
returns c = two_put _ _ _ _ _ c.in_ok-put_number.ensures c.in_ok-put_name.ensures
