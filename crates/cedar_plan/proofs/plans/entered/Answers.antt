use Rattle.std.proofs.Common.{option_map}
use Rattle.std.specs.Rc.{rc_str_bytes}
use Rattle.cedar_names.specs.Leaves.{type_view}
use Rattle.cedar_plan.proofs.Entered.{has_permits, has_forbids}
use Rattle.cedar_plan.proofs.plans.entered.Goals as goal

pub returns-clause-plan : goal.returns-clause-plan
returns-clause-plan c =
    let r = c.args.response.now in
    let n = rc_str_bytes c.args.row.name in
    let a = option_map type_view c.args.row.type_annotation in
    record {
      mode = c.error_handling.ensures;
      permits = has_permits n a r c.args.permits c.requires.true_permits c.requires.residual_permits;
      forbids = has_forbids n a r c.args.forbids c.requires.true_forbids c.requires.residual_forbids;
      errors = c.requires.errors;
    }
