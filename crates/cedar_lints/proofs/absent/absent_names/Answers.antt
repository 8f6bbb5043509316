use Rattle.std.proofs.Common.{◌∙◌, ap}
use Rattle.cedar_layers.specs.PolicySets.{stored_policies}
use Rattle.cedar_lints.specs.Absent.{extent_view}
use Rattle.cedar_lints.specs.Keys.{Sheet}
use Rattle.cedar_lints.specs.Knowing.{known_view}
use Rattle.cedar_lints.specs.Mentions.{Mention}
use Rattle.cedar_lints.proofs.Missing.{both_noted}
use Rattle.cedar_lints.proofs.absent.absent_names.Goals as goal

pub returns : goal.returns
returns c =
    c.taken.ensures
    ∙ ap (λ (s : Sheet Mention). s.items)
    (both_noted (extent_view c.args.extent) (known_view c.args.known.now) (stored_policies c.args.policies.now)
    c.args.templates.now _ _ _ c.fresh-sheet.ensures c.in_ok-note_of_policies.ensures
    c.in_ok-note_of_templates.ensures)
