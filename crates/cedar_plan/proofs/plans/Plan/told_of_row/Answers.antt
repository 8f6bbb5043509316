use Rattle.std.proofs.Common.{◌∙◌, Bool, ap}
use Rattle.cedar_layers.specs.Stores.{entity_name, entity_view}
use Rattle.cedar_plan.specs.Planned.{plan_forbids}
use Rattle.cedar_plan.proofs.Answering.{told, some_count, some_open}
use Rattle.cedar_plan.proofs.plans.Plan.told_of_row.Goals as goal

pub returns : goal.returns
returns c =
    let p = c.args.self.now in
    let e = entity_name c.args.entity.now in
    let x = entity_view c.args.entity.now in
    told p e x _ _ _ _ _ c.requires c.standing-permits.ensures.counts c.standing-permits.ensures.untold
    (c.standing-forbids.ensures.counts ∙ ap (λ (b : Bool). some_count b e x (plan_forbids p)) c.forbid_errs_count-errs_count.ensures)
    (c.standing-forbids.ensures.untold ∙ ap (λ (b : Bool). some_open b e x (plan_forbids p)) c.forbid_errs_count-errs_count.ensures)
    c.decide.ensures
