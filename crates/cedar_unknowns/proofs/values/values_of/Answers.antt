use Rattle.std.proofs.Common.{◌≡◌, ap, ◌∙◌}
use Rattle.cedar_requests.specs.Substitutions.{values_for}
use Rattle.cedar_unknowns.specs.Occurrences.{asked_each}
use Rattle.cedar_unknowns.specs.Entities.{entities_asked}
use Rattle.cedar_unknowns.specs.Themselves.{entity_values}
use Rattle.cedar_unknowns.proofs.Valued.{completed_by}
use Rattle.cedar_unknowns.proofs.values.values_of.Goals as goal

pub returns-clause-values : goal.returns-clause-values
returns-clause-values c = c.in_ok-values.ensures ∙ ap entity_values c.in_ok-entities.ensures

pub returns-clause-completed : goal.returns-clause-completed
returns-clause-completed c =
    completed_by (entities_asked (asked_each c.args.found.now.keys)) (values_for c.in_ok-values.values.entries)
    (c.in_ok-values.ensures ∙ ap entity_values c.in_ok-entities.ensures)
