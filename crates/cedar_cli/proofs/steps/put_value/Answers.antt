use Rattle.std.proofs.Common.{refl, ap}
use Rattle.std.specs.Rc.{rc_str_bytes}
use Rattle.cedar_cli.proofs.Stepping.{value_is_put}
use Rattle.cedar_cli.proofs.steps.put_value.Goals as goal

pub returns-in-Ok : goal.returns-in-Ok
returns-in-Ok c =
    value_is_put _ (λ x y. refl) c.args.map.now.entries c.insert.new.self.entries c.in_ok-key.key c.in_ok-value.value
    c.in-Ok.ensures.updates.1 c.in-Ok.ensures.updates.3 (rc_str_bytes c.args.key.now) c.args.value.now.what c.in_ok-key.ensures.cases
    (ap (λ v. v.what) c.in_ok-value.ensures.cases)
