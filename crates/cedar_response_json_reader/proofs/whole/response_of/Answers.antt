use Rattle.cedar_authorizer.specs.Running.{KeepsSheet}
use Rattle.cedar_authorizer.proofs.Made.{kept_items, given_items, if_ok_seven}
use Rattle.cedar_response_json_reader.proofs.whole.response_of.Goals as goal

pub returns-clause-kept : goal.returns-clause-kept
returns-clause-kept c =
    let n = c.new_in_mode.ensures in
    if_ok_seven c.new_in_mode.result _ _ _ _ _ _ _ (λ r. KeepsSheet c.args.sheet r) (λ r tp fp rp tf ff rf es. record {
      true_permits = kept_items c.into_iter.result _ _ c.into_iter.ensures.rest tp;
      false_permits = kept_items c.into_iter-2.result _ _ c.into_iter-2.ensures.rest fp;
      residual_permits = kept_items c.into_iter-3.result _ _ c.into_iter-3.ensures.rest rp;
      true_forbids = kept_items c.into_iter-4.result _ _ c.into_iter-4.ensures.rest tf;
      false_forbids = kept_items c.into_iter-5.result _ _ c.into_iter-5.ensures.rest ff;
      residual_forbids = kept_items c.into_iter-6.result _ _ c.into_iter-6.ensures.rest rf;
      errors = given_items c.into_iter-7.result _ _ c.into_iter-7.ensures.rest es;
    }) n.true_permits n.false_permits n.residual_permits n.true_forbids n.false_forbids n.residual_forbids n.errors
