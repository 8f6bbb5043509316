use Rattle.std.proofs.Common.{◌≡◌, length}
use Rattle.std.specs.Rc.{rc_str_bytes}
use Rattle.cedar_names.specs.Leaves.{texts_view}
use Rattle.cedar_layers.specs.Stores.{store_view}
use Rattle.cedar_operators.specs.StoredResiduals.{path_residual}
use Rattle.cedar_operators.proofs.stored_residuals.path_residual.Given as goal

abbrev pub invariant-steps : goal.invariant-steps
invariant-steps l =
    path_residual (store_view l.fn.entities) l.here.what (rc_str_bytes l.first) (texts_view l.others)
    ≡ path_residual (store_view l.fn.entities) l.fn.value.what (rc_str_bytes l.fn.attrs.first)
    (texts_view l.fn.attrs.rest.items)

abbrev pub decreases-steps : goal.decreases-steps
decreases-steps l = length l.others
