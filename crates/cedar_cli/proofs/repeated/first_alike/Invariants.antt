use Rattle.std.proofs.Common.{◌≡◌, map, drop}
use Rattle.cedar_cli.specs.Strict.{first_alike}
use Rattle.cedar_cli.proofs.repeated.first_alike.Given as goal

abbrev pub invariant-policies : goal.invariant-policies
invariant-policies l =
    first_alike (map (λ p. p.now) (drop l.other-index l.before)) l.fn.policy
    ≡ first_alike (map (λ p. p.now) l.before) l.fn.policy
