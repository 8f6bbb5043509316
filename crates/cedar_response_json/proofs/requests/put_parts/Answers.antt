use Rattle.cedar_response_json.proofs.Parts.{four_put}
use Rattle.cedar_response_json.proofs.requests.put_parts.Goals as goal

pub returns : goal.returns
returns c =
    four_put _ _ _ _ _ _ _ _ _ c.in_ok-put_part.ensures c.in_ok-put_part-2.ensures c.in_ok-put_part-3.ensures c.in_ok-put_part-4.ensures
