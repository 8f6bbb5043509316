use Rattle.std.proofs.Common.{◌∙◌, ap, map}
use Rattle.cedar_layers.specs.Policies.{policy_view}
use Rattle.cedar_cli_relays.proofs.relays.print_without_policies.Goals as goal

pub returns-in-Ok-saved-clause-saved : goal.returns-in-Ok-saved-clause-saved
returns-in-Ok-saved-clause-saved g c =
    (c.in-Ok.none, c.in-Ok.ensures.view ∙ ap (map policy_view) c.new.ensures.items, c.in-Ok-saved.ensures)
