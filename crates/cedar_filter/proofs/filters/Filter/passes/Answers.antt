use Rattle.std.proofs.Common.{◌∙◌, ap}
use Rattle.cedar_layers.specs.Stores.{entity_name, entity_view}
use Rattle.cedar_filter.specs.Conditions.{condition_says}
use Rattle.cedar_filter.proofs.Saying.{filter_told, filter_means}
use Rattle.cedar_filter.proofs.filters.Filter.passes.Goals as goal

pub returns-then-can_stand_for-clause-meaning : goal.returns-then-can_stand_for-clause-meaning
returns-then-can_stand_for-clause-meaning c =
    filter_means c.args.self.now c.args.entity.now c.told_truth.result
    (c.told_truth.ensures ∙ ap (condition_says (entity_name c.args.entity.now) (entity_view c.args.entity.now)) c.condition.ensures)

pub returns-then-can_stand_for-clause-told : goal.returns-then-can_stand_for-clause-told
returns-then-can_stand_for-clause-told c =
    filter_told c.args.self.now c.args.entity.now c.told_truth.result
    (c.told_truth.ensures ∙ ap (condition_says (entity_name c.args.entity.now) (entity_view c.args.entity.now)) c.condition.ensures)
