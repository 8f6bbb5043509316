use Rattle.std.proofs.Common.{ap, ◌∙◌}
use Rattle.std.specs.Rc.{rc_str_bytes}
use Rattle.cedar_layers.specs.Stores.{store_view}
use Rattle.cedar_operators.specs.StoredResiduals.{next_in}
use Rattle.cedar_operators.proofs.Stored.{at_key}
use Rattle.cedar_operators.proofs.stored_residuals.next_value.Goals as goal

pub returns-in-Record : goal.returns-in-Record
unfolding next_in
returns-in-Record c =
    at_key _ _ _ c.get.ensures.value
    ∙ ap (λ k. next_in (store_view c.args.entities.now) k (rc_str_bytes c.args.attr.now)) c.in-Record.ensures
