use Rattle.std.proofs.Common.{◌≡◌, drop, map}
use Rattle.std.specs.Rc.{rc_str_bytes}
use Rattle.cedar_model.specs.Outcomes.{has_text}
use Rattle.cedar_cli.proofs.steps.has_name.Given as goal

abbrev pub invariant-names : goal.invariant-names
invariant-names l =
    has_text (rc_str_bytes l.fn.name) (map rc_str_bytes (drop l.other-index l.names))
    ≡ has_text (rc_str_bytes l.fn.name) (map rc_str_bytes l.fn.names)
